-- A read that was interrupted took nothing, and is one that failed.
use Rattle.std.proofs.Common.{◌<◌}
use Rattle.std.specs.Io.KnownBytes.{Keeps}
use Rattle.bt_session.proofs.incoming.read_some.Given as goal

abbrev pub invariant-loop : goal.invariant-loop
invariant-loop g l = record {
  kept : Keeps (g.R.Read.remaining l.initial.reader) (g.R.Read.remaining l.reader);
  failed : 0 < l.counter → g.R.WatchedReader.has_failed l.reader;
}
