use Rattle.std.proofs.Common.{◌≡◌, Some, sym, ap, ◌∙◌, refl, arith}
use Rattle.std.specs.Option.{unwrap_or}
use Rattle.bt_tree.specs.TreeShape.{IsInside}
use Rattle.bt_tree.specs.Tree.{padding_digest}
use Rattle.bt_sparse.specs.SparseTree.{blocks_of, held_at, value_at}
use Rattle.bt_sparse.specs.Answer.{answer_layer, answer_index}
use Rattle.bt_sparse.proofs.Requests.{answer_inside, known_value, layers_rise, one_more_set, within_inside}
use Rattle.bt_sparse.proofs.sparse_tree.SparseTree.fill.Goals as goal
use Rattle.bt_sparse.proofs.sparse_tree.SparseTree.fill.Goals.{in-Some, in-None}

pub loop-t-preserved : goal.loop-t-preserved
loop-t-preserved g c =
    let r = answer_inside c.args.request.height c.args.request.base c.args.request.index c.args.request.length c.args.request.layers c.loop-t.t c.requires.lawful
    (omega (arith, c.size-t-end.ensures, c.loop-t-test.true)) in
    let inside : IsInside (blocks_of c.args.self.now) (answer_layer c.args.request.base c.args.request.length c.loop-t.t) (answer_index c.args.request.index c.args.request.length c.loop-t.t) =
    within_inside c.args.self.now c.args.request.height _ _ c.requires.height r in
    let value = known_value g.H.NodeHash.digest c.args.self.now (answer_layer c.args.request.base c.args.request.length c.loop-t.t) (answer_index c.args.request.index c.args.request.length c.loop-t.t)
    (padding_digest g.H.NodeHash.digest (answer_layer c.args.request.base c.args.request.length c.loop-t.t)) c.requires.sound.rooted inside refl
    (c.requires.known c.loop-t.t (omega (arith, c.size-t-end.ensures, c.loop-t-test.true))) in
    let held : held_at c.args.self.now (answer_layer c.args.request.base c.args.request.length c.loop-t.t) (answer_index c.args.request.index c.args.request.length c.loop-t.t) ≡ c.held.result =
    ap (λ l. held_at c.args.self.now l (answer_index c.args.request.index c.args.request.length c.loop-t.t)) (sym c.node-layer.ensures.layer)
    ∙ ap (held_at c.args.self.now c.node-layer.result.0) (sym c.node-layer.ensures.index) ∙ sym c.held.ensures in
    let rises = layers_rise c.args.request.base c.args.request.length c.loop-t.t in
    let digest : c.match-held.digest ≡ unwrap_or (held_at c.args.self.now (answer_layer c.args.request.base c.args.request.length c.loop-t.t)
    (answer_index c.args.request.index c.args.request.length c.loop-t.t)) (padding_digest g.H.NodeHash.digest (answer_layer c.args.request.base c.args.request.length c.loop-t.t)) =
    elim c.match-held.branch [
      | in-Some w ↦ w.digest-is ∙ sym (ap (λ o. unwrap_or o (padding_digest g.H.NodeHash.digest (answer_layer c.args.request.base c.args.request.length c.loop-t.t))) (held ∙ w.in-Some.is))
      | in-None w ↦
          w.digest-is ∙ w.rise-digest.ensures.digest ∙ ap (padding_digest g.H.NodeHash.digest) c.node-layer.ensures.layer
          ∙ sym (ap (λ o. unwrap_or o (padding_digest g.H.NodeHash.digest (answer_layer c.args.request.base c.args.request.length c.loop-t.t))) (held ∙ w.in-None.is))
    ] in
    record {
      low = elim c.match-held.branch [
        | in-Some w ↦ omega (arith, w.padding-is, rises, c.loop-t.invariant.low)
        | in-None w ↦ omega (arith, w.padding-is, w.rise-digest.ensures.layer, c.node-layer.ensures.layer, rises)
      ];
      values = one_more_set (λ s. value_at g.H.NodeHash.digest c.args.self.now (answer_layer c.args.request.base c.args.request.length s) (answer_index c.args.request.index c.args.request.length s))
          c.loop-t.t c.loop-t.digests c.match-held.digest (omega (arith, c.requires.room, c.size-t-end.ensures, c.loop-t.auto.digests, c.loop-t-test.true)) c.loop-t.invariant.values (value ∙ ap (λ d. Some d) (sym digest));
    }

pub returns : goal.returns
returns g c =
    let all : c.loop-t.t ≡ c.size-t-end.result = omega arith in
    record {
      size = c.loop-t.auto.digests ∙ c.requires.room;
      values = λ t within. c.loop-t.invariant.values t (omega (arith, c.loop-t.auto.digests, c.requires.room, c.size-t-end.ensures));
    }

pub overflow_cast-layer : goal.overflow_cast-layer
overflow_cast-layer g c =
    let at = answer_inside c.args.request.height c.args.request.base c.args.request.index c.args.request.length c.args.request.layers c.loop-t.t c.requires.lawful
    (omega (arith, c.size-t-end.ensures, c.loop-t-test.true)) in
    omega (arith, at.in_height, c.node-layer.ensures.layer, c.requires.high)
