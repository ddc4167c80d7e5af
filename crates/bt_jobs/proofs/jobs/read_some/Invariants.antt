-- A read that was interrupted took nothing.
use Rattle.std.specs.Io.KnownBytes.{Keeps}
use Rattle.bt_jobs.proofs.jobs.read_some.Given as goal

abbrev pub invariant-loop : goal.invariant-loop
invariant-loop g l = Keeps (g.I.Read.remaining l.initial.reader) (g.I.Read.remaining l.reader)
