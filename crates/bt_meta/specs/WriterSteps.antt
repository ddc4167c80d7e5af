-- The steps of checking the files that a torrent is made of. No public contract cites them.
use Rattle.std.specs.Prelude.{◌≡◌, ℕ, ◌≤◌, ◌⊎◌, List, length, map, sum_by, Some, None, false}
use Rattle.bt_meta.specs.PropertySteps.{HasLengths}
use Rattle.bt_meta.specs.declared.writer.Tally.{Tally}
use Rattle.bt_meta.specs.Files.{piece_count}
use Rattle.bt_meta.specs.declared.writer.MakeError.{MakeError}
use Rattle.bt_meta.specs.declared.writer.MakeError.TheVariants.{OutOfMemory}
use Rattle.bt_meta.specs.GivenFiles.{Given, content_given}
use Rattle.bt_meta.specs.WriterRefusals.{Check, own_refusal, conflict_with, file_refusal}
use Rattle.bt_meta.specs.Limits.{max_file_count, max_piece_count}

-- these files were taken
pub record IsTallyOf (piece_length : ℕ) (files : List Given) (tally : Tally) : Type 0 where
  pub count : tally.files ≡ length files
  pub pieces : tally.pieces ≡ sum_by (λ g. piece_count piece_length g.length) files
  pub lengths : HasLengths tally.lengths (map content_given files)

-- there is room for these, and no more
pub record IsWithinLimits (tally : Tally) : Type 0 where
  pub files : tally.files ≤ max_file_count
  pub pieces : tally.pieces ≤ max_piece_count

-- out of memory, or the refusal that the check finds
abbrev pub Refuses : Check → MakeError → Type 0
Refuses check e = (e ≡ OutOfMemory) ⊎ (check ≡ Some e)

-- what refuses a file after others: the first of its checks, or out of memory, where its own checks pass and
-- its root has no conflict
abbrev pub RefusesFile : ℕ → List Given → Given → MakeError → Type 0
RefusesFile piece_length files f e =
    ((e ≡ OutOfMemory) × (own_refusal piece_length f ≡ None) × (conflict_with files f ≡ false))
    ⊎ (file_refusal piece_length files f ≡ Some e)
