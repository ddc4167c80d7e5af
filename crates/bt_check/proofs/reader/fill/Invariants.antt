-- What came so far stands at the front of the buffer, and the reader lost just that.
use Rattle.bt_check.proofs.ReaderFill.{IsFilled}
use Rattle.bt_check.proofs.reader.fill.Given as goal

abbrev pub invariant-loop : goal.invariant-loop
invariant-loop g l = IsFilled (g.R.Read.remaining l.initial.reader) (g.R.Read.remaining l.reader) l.filled l.buffer
