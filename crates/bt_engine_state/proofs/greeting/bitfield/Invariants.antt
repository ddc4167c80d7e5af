use Rattle.std.proofs.Common.{◌≤◌, length}
use Rattle.bt_engine_state.proofs.Wholes.{IsBitfieldBelow}
use Rattle.bt_engine_state.proofs.greeting.bitfield.Given as goal

abbrev pub invariant-loop-piece : goal.invariant-loop-piece
invariant-loop-piece l = IsBitfieldBelow l.unmarked l.bytes.items l.piece × (l.piece ≤ length l.unmarked)
