-- The blocks that marks record, as runs.
use Rattle.std.specs.Prelude.{◌≡◌, ◌-◌, ◌<◌, ◌==◌, ◌&&◌, ◌⊎◌, nat_le, Bool, List, map}
use Rattle.std.specs.List.{AllPairs}
use Rattle.bt_book.specs.declared.names.BlockId.{BlockId}
use Rattle.bt_resume.specs.declared.hint.Hint.{Hint}
use Rattle.bt_resume.specs.declared.hint.Hint.TheVariants.{Marks}
use Rattle.bt_machine.specs.Hints.{is_recorded}
use Rattle.bt_engine_start.specs.declared.runs.MarkRun.{MarkRun}

-- the marks of a run, as a log has them
abbrev pub marks_of_run : MarkRun → Hint
marks_of_run run = Marks run.file run.first (run.end - run.first)

abbrev pub marks_of : List MarkRun → List Hint
marks_of runs = map marks_of_run runs

-- One run lies before another: in a file before its file, or in the same file and ends before it begins.
abbrev pub LiesBefore : MarkRun → MarkRun → Type 0
LiesBefore run next = (run.file < next.file) ⊎ ((run.file ≡ next.file) × (run.end < next.first))

-- The runs have just the blocks that the hints record, in ascending order, each once.
pub record AreRunsOf (hints : List Hint) (runs : List MarkRun) : Type 0 where
  pub recorded : (block : BlockId) → is_recorded (marks_of runs) block ≡ is_recorded hints block
  pub ascending : AllPairs LiesBefore runs

-- ---- what only private functions cite

-- a run that does not begin before another is of its file, and no block lies between the two
abbrev pub touches : MarkRun → MarkRun → Bool
touches run next = run.file == next.file && nat_le next.first run.end
