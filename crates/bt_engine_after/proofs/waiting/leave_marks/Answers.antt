use Rattle.std.proofs.Common.{List, map, sym, ap, arith}
use Rattle.std.specs.Prelude.{filter}
use Rattle.bt_book.specs.declared.names.BlockId.{BlockId}
use Rattle.bt_machine.specs.Hints.{mark_of, add_hints}
use Rattle.bt_engine_state.specs.Parts.{state_of, pending_of}
use Rattle.bt_engine_after.specs.WaitingSteps.{room_in, is_marked_among}
use Rattle.bt_engine_after.proofs.OtherMarks.{none_listed}
use Rattle.bt_engine_after.proofs.waiting.leave_marks.Goals as goal

pub returns-in_default-clause-pending : goal.returns-in_default-clause-pending
returns-in_default-clause-pending g c =
    let none = none_listed c.args.listed.now c.requires.runs (omega (arith, c.requires.room, ap (λ o. room_in o) c.in_default.is)) in
    sym (ap (λ (blocks : List BlockId). add_hints (pending_of c.args.parts.now.log) (map (λ b. mark_of b) (filter (is_marked_among (state_of c.args.parts.now).files) blocks))) none)
