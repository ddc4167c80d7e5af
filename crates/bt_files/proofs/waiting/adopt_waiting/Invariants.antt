-- The files so far were seen to, by events.
use Rattle.std.proofs.Common.{◌≡◌, length}
use Rattle.bt_engine.specs.Leads.{LeadsTo}
use Rattle.bt_files.proofs.Waits.{IsSeeing}
use Rattle.bt_files.proofs.waiting.adopt_waiting.Given as goal

abbrev pub invariant-loop-file : goal.invariant-loop-file
invariant-loop-file g l =
    IsSeeing g.D.Disk.conduct g.H.NodeHash.digest l.initial.engine l.file l.engine
    × (l.count ≡ length l.initial.engine.state.files)
    × LeadsTo g.D.Disk.conduct g.H.NodeHash.digest l.initial.engine l.engine
