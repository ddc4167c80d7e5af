use Rattle.std.proofs.Common.{arith}
use Rattle.bt_tree.specs.Blocks.{block_count}
use Rattle.bt_sparse.specs.NodeMap.{nodes_in}
use Rattle.bt_sparse.proofs.Growths.{put_real}
use Rattle.bt_sparse.proofs.acceptance.put.Goals as goal

pub returns-clause-put : goal.returns-clause-put
returns-clause-put c =
    put_real (block_count c.args.geometry) c.args.layer c.args.index c.args.digest.now (nodes_in c.args.nodes.now) (nodes_in c.put.new.self) _ _
    (omega (arith, c.real.ensures.value, c.if-index-real.false)) c.told-digest c.put.ensures.is_new c.put.ensures.nodes c.from.ensures
