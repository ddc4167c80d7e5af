use Rattle.std.proofs.Common.{arith}
use Rattle.bt_sparse.proofs.PageTables.{node_read, put_nodes}
use Rattle.bt_sparse.proofs.node_map.NodeMap.put.Goals as goal

pub returns-clause-is_new : goal.returns-clause-is_new
returns-clause-is_new c =
    rw (
      ← c.self.view_is,
      node_read c.self.inside.layers.items c.args.layer c.args.index c.index_mut.result.now c.index_mut.ensures.value
          (rw (← c.self.view_is) at c.requires) (omega arith) (omega arith),
    ) c.put.ensures.is_new

pub returns-clause-nodes : goal.returns-clause-nodes
returns-clause-nodes c =
    rw (← c.self.view_is) (put_nodes c.self.inside.layers.items c.args.layer c.args.index c.index_mut.result.now c.index_mut.ensures.value
    (rw (← c.self.view_is) at c.requires) (omega arith) (omega arith) c.args.digest c.put.new.self c.put.ensures.put)
