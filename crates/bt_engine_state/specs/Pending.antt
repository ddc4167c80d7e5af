-- Hints that wait to be written to a log.
use Rattle.std.specs.Prelude.{ℕ, List, All}
use Rattle.bt_resume.specs.Hint.{IsHint}
use Rattle.bt_resume.specs.declared.hint.Format.TheVariants.{Two}
use Rattle.bt_resume.specs.declared.hint.Hint.{Hint}

-- What contracts see of them: the hints, in the order of events, and for how many more there is room.
pub record PendingView : Type 0 where
  pub hints : List Hint
  pub room : ℕ

-- each of them may be appended to a log
abbrev pub AreWritable : List Hint → Type 0
AreWritable hints = All (IsHint Two) hints
