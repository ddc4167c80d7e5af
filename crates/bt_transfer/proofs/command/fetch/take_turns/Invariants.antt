-- So far peers were tried in their turns, by events, and told of, unless a line could not be written; and the others were
-- not tried.
use Rattle.std.proofs.Common.{[], ◌≡◌, drop}
use Rattle.std.specs.Prelude.{All, IfErr}
use Rattle.bt_engine.specs.Leads.{LeadsTo}
use Rattle.bt_files.specs.OpenFolder.{IsCallFault}
use Rattle.bt_transfer.specs.Turns.{TriesAndTakesIn, link_conduct}
use Rattle.bt_transfer.proofs.Turns.{AreTried}
use Rattle.bt_transfer.proofs.command.fetch.take_turns.Given as goal

abbrev pub invariant-loop-i : goal.invariant-loop-i
invariant-loop-i g l = record {
  no_peer : l.engine.state.peers ≡ [];
  undialled : All (λ link. g.L.Link.dials link ≡ 0) (drop l.i l.links);
  tried : AreTried
      (TriesAndTakesIn g.D.Disk.conduct g.H.NodeHash.digest
      (link_conduct g.L.Link.dials g.L.Link.failures g.L.Link.gives g.L.R.Read.remaining g.L.W.Write.contents) l.flushing l.turns)
      l.initial.engine l.initial.links l.peers (g.W.Write.contents l.initial.writer) l.i l.engine l.links l.written (g.W.Write.contents l.writer);
  call : IfErr l.written IsCallFault;
  run : LeadsTo g.D.Disk.conduct g.H.NodeHash.digest l.initial.engine l.engine;
}
