use Rattle.std.proofs.Common.{◌≡◌, ℕ, ◌+◌, ◌-◌, inl, inr, subst, arith}
use Rattle.std.specs.Option.{IsSome}
use Rattle.std.proofs.lemmas.Bool.{cases_lt}
use Rattle.bt_sparse.specs.NodeMap.{digest_at, nodes_in}
use Rattle.bt_sparse.proofs.sparse_tree.SparseTree.next_unknown.Goals as goal

pub loop-leaf-preserved : goal.loop-leaf-preserved
loop-leaf-preserved g c = record {
  after = omega (arith, c.loop-leaf.invariant.after);
  held = λ i from lt. elim (cases_lt i c.loop-leaf.leaf) [
    | inl below ↦ c.loop-leaf.invariant.held i from below
    | inr le ↦
        let at : c.loop-leaf.leaf + (i - c.loop-leaf.leaf) ≡ i = omega arith in
        rw (← c.self.view_is) (subst (λ (n : ℕ). IsSome (digest_at (nodes_in c.self.inside.nodes) 0 n)) at
        (c.held_run-held.ensures.held (i - c.loop-leaf.leaf) (omega arith)))
  ];
}
