use Rattle.std.proofs.Common.{◌≡◌, ◌/◌, ◌^◌, ap, ◌∙◌, subst, ◌⊎◌, arith}
use Rattle.bt_tree.specs.Tree.{node_digest}
use Rattle.bt_sparse.specs.SparseTree.{height, held_at}
use Rattle.bt_sparse.specs.Law.{IsClashOnPath}
use Rattle.bt_sparse.proofs.Leaves.{on_leaf_path}
use Rattle.bt_sparse.proofs.law.leaves_are_files.Goals as goal

pub returns : goal.returns
returns g c = λ k file i d rooted digests size root held.
    let whole : i / 2 ^ 0 ≡ i = omega arith in
    subst (λ n. (d ≡ node_digest g.H.NodeHash.digest file 0 n) ⊎ IsClashOnPath g.H.NodeHash.digest k file i) whole
    (on_leaf_path g.H.NodeHash.digest g.met.H.NodeHash.has_32_bytes k file i rooted digests size root (height k) 0 d (omega arith) (ap (held_at k 0) whole ∙ held))
