use Rattle.std.proofs.Common.{length, ◌≡◌, rules}
use Rattle.bt_sparse.proofs.Values.{root_sound}
use Rattle.bt_sparse.proofs.sparse_tree.SparseTree.new.Goals as goal

pub invariant_of-result : goal.invariant_of-result
invariant_of-result g c =
    let e : length c.args.root ≡ 32 = search rules in
    rw (c.in_ok-insert.ensures, c.new-nodes.ensures, c.height.ensures.value)
    (root_sound g.H.NodeHash.digest c.args.geometry c.args.root c.length.ensures.lawful e)
