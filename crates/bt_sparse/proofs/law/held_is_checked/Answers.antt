use Rattle.std.proofs.Common.{◌-◌, arith}
use Rattle.bt_sparse.specs.SparseTree.{height}
use Rattle.bt_sparse.proofs.Paths.{held_is_checked}
use Rattle.bt_sparse.proofs.law.held_is_checked.Goals as goal

pub returns : goal.returns
returns g c = λ k rooted layer i d held.
    held_is_checked g.H.NodeHash.digest k rooted (height k - layer) layer i d (omega (arith, (rooted.covers layer i d held).inside.in_height)) held
