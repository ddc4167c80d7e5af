-- The lines by which a part of a check tells what it found: one for each run of blocks.
use Rattle.std.specs.Prelude.{[], ◌≡◌, ℕ, ◌∷◌, ◌++◌, List, codes}
use Rattle.std.specs.Fmt.{decimal}
use Rattle.bt_parts.specs.Field.{IsNumber, fields_of}
use Rattle.bt_parts.specs.declared.run.Met.{Met}
use Rattle.bt_parts.specs.declared.run.Met.TheVariants.{Nothing, Absent, Longer, Unmeasured, Unread}
use Rattle.bt_parts.specs.declared.run.Run.{Run}

-- the word for what was met in a file beside its blocks
abbrev pub word_text : Met → List ℕ
word_text Nothing = codes "sound"
word_text Absent = codes "absent"
word_text Longer = codes "longer"
word_text Unmeasured = codes "unmeasured"
word_text Unread = codes "unread"

-- A line, without its end, tells a run: the number of the file, the run's first block, the block after its last,
-- how many are right, and what was met.
pub record IsRunLine (line : List ℕ) (run : Run) : Type 0 where
  pub file : List ℕ
  pub first : List ℕ
  pub last : List ℕ
  pub right : List ℕ
  pub fields : fields_of line ≡ file ∷ first ∷ last ∷ right ∷ word_text run.met ∷ []
  pub file_number : IsNumber file run.file
  pub first_number : IsNumber first run.from
  pub last_number : IsNumber last run.to
  pub right_number : IsNumber right run.marked

-- how a part writes it, before what ends it
abbrev pub line_before : List ℕ → Run → List ℕ
line_before end run =
    decimal run.file ++ codes " " ++ decimal run.from ++ codes " " ++ decimal run.to ++ codes " "
    ++ decimal run.marked ++ codes " " ++ word_text run.met ++ end

-- the line with its end, one line feed
abbrev pub run_line : Run → List ℕ
run_line run = line_before (10 ∷ []) run
