use Rattle.std.proofs.Common.{◌≡◌, inl, inr, ◌+◌, ◌-◌, min, suc, true, false, length, sym, ap, ◌∙◌, arith, refl}
use Rattle.std.specs.Prelude.{is_some}
use Rattle.std.proofs.lemmas.Bool.{cases_lt}
use Rattle.bt_tree.specs.Blocks.{block_count}
use Rattle.bt_store.specs.FileStore.{StoreView}
use Rattle.bt_store.specs.Review.{recalled}
use Rattle.bt_engine_start.proofs.Recallings.{after, after_one, others_kept}
use Rattle.bt_engine_start.proofs.recalling.recall_run.Goals as goal
use Rattle.bt_engine_start.proofs.recalling.recall_run.Goals.{then-is_some, else-is_some}

pub loop-block-preserved : goal.loop-block-preserved
loop-block-preserved g c =
    let dig = g.H.NodeHash.digest in
    let states = c.args.store.now.states in
    let block = c.loop-block.block in
    let first = c.args.run.now.first in
    let n = block - first in
    let here : first + n ≡ block = omega (arith, c.loop-block.invariant.from) in
    let next : block + 1 - first ≡ suc n = omega (arith, c.loop-block.invariant.from) in
    let more = after_one dig c.args.tree.now states first n block here in
    let known = ap (λ o. is_some o) (sym c.known.ensures) ∙ sym c.is_some.ensures in
    let last = sym (ap (λ m. after dig c.args.tree.now states first m) next) in
    elim c.if-is_some.branch [
      | then-is_some w ↦ record {
        from = omega (arith, c.loop-block.invariant.from);
        within = λ past. omega (arith, c.loop-block-test.true);
        states = ap (λ (s : StoreView g.row.D.Denot). s.states) w.store-is ∙ w.recall.ensures.states ∙ ap (λ ss. recalled ss block) c.loop-block.invariant.states
            ∙ sym (more true (known ∙ w.if-is_some.true)) ∙ last;
        others = others_kept c.args.store.now c.loop-block.store w.recall.new.self c.if-is_some.store c.loop-block.invariant.others w.recall.ensures.others w.store-is;
      }
      | else-is_some w ↦ record {
        from = omega (arith, c.loop-block.invariant.from);
        within = λ past. omega (arith, c.loop-block-test.true);
        states = ap (λ (s : StoreView g.row.D.Denot). s.states) w.store-is ∙ c.loop-block.invariant.states ∙ sym (more false (known ∙ w.if-is_some.false)) ∙ last;
        others = others_kept c.args.store.now c.loop-block.store c.loop-block.store c.if-is_some.store c.loop-block.invariant.others refl w.store-is;
      }
    ]

pub returns-clause-states : goal.returns-clause-states
returns-clause-states g c =
    let states = c.args.store.now.states in
    let first = c.args.run.now.first in
    let all : c.blocks-blocks.result ≡ length states = c.blocks-blocks.ensures.value ∙ ap block_count c.geometry.ensures.value ∙ sym c.geometry.ensures.states in
    let count : c.loop-block.block - first ≡ min (c.args.run.now.end - first) (length states - first) = elim (cases_lt first c.loop-block.block) [
      | inl past ↦ (
          let end = c.loop-block.invariant.within past in
          omega (arith, end, all, c.loop-block-test.false, c.min-end.ensures, c.blocks-blocks.ensures.limit)
          )
      | inr none ↦ omega (arith, none, all, c.loop-block-test.false, c.min-end.ensures, c.loop-block.invariant.from, c.blocks-blocks.ensures.limit)
    ] in
    c.loop-block.invariant.states ∙ ap (λ n. after g.H.NodeHash.digest c.args.tree.now states first n) count
