-- The bytes that came so far were pushed.
use Rattle.bt_check.proofs.ReaderNode.{IsReading}
use Rattle.bt_check.proofs.reader.read_node.Given as goal

abbrev pub invariant-loop-rest : goal.invariant-loop-rest
invariant-loop-rest g l = IsReading (g.R.Read.remaining l.initial.reader) (g.R.Read.remaining l.reader) l.fn.length l.rest l.fn.builder l.builder

abbrev pub decreases-loop-rest : goal.decreases-loop-rest
decreases-loop-rest g l = l.rest
