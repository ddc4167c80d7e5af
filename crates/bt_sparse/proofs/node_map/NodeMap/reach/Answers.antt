use Rattle.std.proofs.Common.{length, ap, arith}
use Rattle.bt_sparse.proofs.PageTables.{layer_nodes}
use Rattle.bt_sparse.proofs.node_map.NodeMap.reach.Goals as goal

pub returns-clause-nodes : goal.returns-clause-nodes
returns-clause-nodes c =
    layer_nodes c.args.self.now c.self.inside.layers.items c.args.layer c.index_mut.result.now c.reach.new.self
    (rw c.self.view_is c.in_ok-lengthen.ensures.same) (omega (arith, c.in_ok-lengthen.ensures.ready, ap length c.self.view_is)) c.index_mut.ensures.value c.reach.ensures.kept
