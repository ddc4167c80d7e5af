-- No byte was taken yet.
use Rattle.std.specs.Io.KnownBytes.{Keeps}
use Rattle.bt_sockets.proofs.timed_stream.TimedStream.wait_for_bytes.Given as goal

abbrev pub invariant-waiting : goal.invariant-waiting
invariant-waiting g l = Keeps (g.S.Read.remaining l.initial.self) (g.S.Read.remaining l.self)
