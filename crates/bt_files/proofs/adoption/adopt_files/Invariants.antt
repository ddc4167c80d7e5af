-- The files so far were seen to, by events.
use Rattle.std.proofs.Common.{◌≡◌, length}
use Rattle.bt_engine.specs.Leads.{LeadsTo}
use Rattle.bt_files.proofs.Adoptions.{IsTaking}
use Rattle.bt_files.proofs.adoption.adopt_files.Given as goal

abbrev pub invariant-loop-file : goal.invariant-loop-file
invariant-loop-file g l =
    IsTaking g.D.Disk.conduct g.H.NodeHash.digest l.initial.engine l.filled l.file l.engine
    × (l.count ≡ length l.initial.engine.state.files) × (l.count ≡ length l.filled)
    × LeadsTo g.D.Disk.conduct g.H.NodeHash.digest l.initial.engine l.engine
