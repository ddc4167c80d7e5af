-- So many connections were served, by events, with a line for each, and no peer is connected.
use Rattle.std.proofs.Common.{[], ◌≡◌}
use Rattle.bt_engine.specs.Leads.{LeadsTo}
use Rattle.bt_transfer.specs.Connections.{HasServed, MeetsAndSyncs}
use Rattle.bt_transfer.proofs.connections.serve_each.Given as goal

abbrev pub invariant-loop-number : goal.invariant-loop-number
invariant-loop-number g l =
    HasServed (MeetsAndSyncs g.D.Disk.conduct g.H.NodeHash.digest) l.number l.initial.engine
    (g.W.Write.contents l.initial.writer) (g.W.Write.contents l.writer) l.engine
    × (l.engine.state.peers ≡ [])
    × LeadsTo g.D.Disk.conduct g.H.NodeHash.digest l.initial.engine l.engine
