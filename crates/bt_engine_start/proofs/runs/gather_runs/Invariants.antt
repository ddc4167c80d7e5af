use Rattle.std.proofs.Common.{◌≡◌}
use Rattle.std.specs.Prelude.{◌||◌}
use Rattle.bt_book.specs.declared.names.BlockId.{BlockId}
use Rattle.bt_resume.specs.LogText.{hints_in}
use Rattle.bt_machine.specs.Hints.{is_recorded}
use Rattle.bt_engine_start.specs.Runs.{marks_of}
use Rattle.bt_engine_start.proofs.runs.gather_runs.Given as goal

abbrev pub invariant-loop-hint : goal.invariant-loop-hint
invariant-loop-hint l = record {
  can : goal.iterator-loop-hint.can_next l.hint-iterator;
  finite : goal.iterator-loop-hint.is_finite l.hint-iterator;
  leads : (b : BlockId) → (is_recorded (marks_of l.runs.items) b || is_recorded l.hint-iterator b) ≡ is_recorded (hints_in l.hints) b;
}
