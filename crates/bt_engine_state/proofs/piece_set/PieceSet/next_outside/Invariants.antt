use Rattle.std.proofs.Common.{◌-◌, ◌≤◌}
use Rattle.bt_engine_state.specs.PieceSets.{without}
use Rattle.bt_engine_state.specs.PieceSetSteps.{HasNoneTo}
use Rattle.bt_engine_state.proofs.piece_set.PieceSet.next_outside.Given as goal

abbrev pub invariant-loop-piece : goal.invariant-loop-piece
invariant-loop-piece l = record { from : l.from ≤ l.piece; none : HasNoneTo (without l.self l.other) l.from l.piece }

abbrev pub decreases-loop-piece : goal.decreases-loop-piece
decreases-loop-piece l = l.pieces - l.piece
