use Rattle.std.proofs.Common.{◌≡◌, ◌*◌, inl, inr, Some, sym, ap, ◌∙◌}
use Rattle.std.specs.Option.{unwrap_or}
use Rattle.bt_tree.proofs.ComparisonTwins.{same_bytes, other_bytes}
use Rattle.bt_sparse.specs.SparseTree.{held_at}
use Rattle.bt_sparse.proofs.Differences.{no_left, left_value, right_value, no_other}
use Rattle.bt_sparse.proofs.sparse_tree.SparseTree.difference.Goals as goal
use Rattle.bt_sparse.proofs.sparse_tree.SparseTree.difference.Goals.{else-eq-via-then-eq+else-eq-2, else-eq-via-else-eq}

pub returns-in_err-left-clause-differs : goal.returns-in_err-left-clause-differs
returns-in_err-left-clause-differs g c =
    rw c.from_residual.ensures
    (no_left g.H.NodeHash.digest c.args.self.now c.args.pair.now c.requires.inside c.requires.padded (sym c.held.ensures ∙ c.in_err-left.was))

pub returns-then-eq-2-clause-differs : goal.returns-then-eq-2-clause-differs
returns-then-eq-2-clause-differs g c =
    let dig = g.H.NodeHash.digest in
    let k = c.args.self.now in
    let p = c.args.pair.now in
    let held : held_at c.args.self.now c.args.pair.now.layer (2 * c.args.pair.now.index) ≡ Some c.in_ok-left.left = sym c.held.ensures ∙ c.in_ok-left.was in
    no_other g.H.NodeHash.digest c.args.self.now c.args.pair.now c.in_ok-left.left c.unwrap_or-right.result
    (left_value g.H.NodeHash.digest c.args.self.now c.args.pair.now.layer (2 * c.args.pair.now.index) c.in_ok-left.left c.requires.rooted held)
    (right_value g.H.NodeHash.digest c.args.self.now c.args.pair.now c.in_ok-left.left c.requires.rooted c.requires.inside c.requires.padded held
    ∙ ap (λ o. Some (unwrap_or o c.args.pair.now.right)) (sym c.held-2.ensures) ∙ ap (λ d. Some d) (sym c.unwrap_or-right.ensures))
    (same_bytes _ _ _ c.eq.ensures c.if-eq.true) (same_bytes _ _ _ c.eq-then-eq.ensures c.if-eq-2.true)

pub returns-clause-differs : goal.returns-clause-differs
returns-clause-differs g c =
    let held : held_at c.args.self.now c.args.pair.now.layer (2 * c.args.pair.now.index) ≡ Some c.in_ok-left.left = sym c.held.ensures ∙ c.in_ok-left.was in
    record {
      knows_left = left_value g.H.NodeHash.digest c.args.self.now c.args.pair.now.layer (2 * c.args.pair.now.index) c.in_ok-left.left c.requires.rooted held;
      knows_right = right_value g.H.NodeHash.digest c.args.self.now c.args.pair.now c.in_ok-left.left c.requires.rooted c.requires.inside c.requires.padded held
          ∙ ap (λ o. Some (unwrap_or o c.args.pair.now.right)) (sym c.held-2.ensures) ∙ ap (λ d. Some d) (sym c.unwrap_or-right.ensures);
      differ = elim c.else-eq.branch [
        | else-eq-via-then-eq+else-eq-2 w ↦ inr (other_bytes _ _ _ w.eq-then-eq.ensures w.if-eq-2.false)
        | else-eq-via-else-eq w ↦ inl (other_bytes _ _ _ c.eq.ensures w.if-eq.false)
      ];
    }
