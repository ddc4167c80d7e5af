-- What came so far is the front of what the reader had.
use Rattle.std.proofs.Common.{◌-◌, ◌^◌, vec_len}
use Rattle.bt_replay.proofs.ReaderScript.{IsFront}
use Rattle.bt_replay.proofs.reader.read_script.Given as goal

abbrev pub invariant-reads : goal.invariant-reads
invariant-reads g l = IsFront (g.R.Read.remaining l.initial.reader) (g.R.Read.remaining l.reader) (2 ^ 24) l.script.items

abbrev pub decreases-reads : goal.decreases-reads
decreases-reads g l = 2 ^ 24 - vec_len l.script
