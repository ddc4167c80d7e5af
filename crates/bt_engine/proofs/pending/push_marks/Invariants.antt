use Rattle.std.proofs.Common.{◌≡◌, ◌≤◌, drop, length}
use Rattle.bt_machine.specs.Hints.{add_hints}
use Rattle.bt_engine.specs.PendingSteps.{marks_in}
use Rattle.bt_engine.proofs.pending.push_marks.Given as goal

abbrev pub invariant-loop-note : goal.invariant-loop-note
invariant-loop-note l =
    (add_hints l.pending.hints (marks_in (drop l.note-index l.notes)) ≡ add_hints l.initial.pending.hints (marks_in l.notes))
    × (length (marks_in (drop l.note-index l.notes)) ≤ l.pending.room)
