-- What the parts of a check tell, as far as it was read.
use Rattle.std.specs.Prelude.{◌≡◌, ◌≢◌, ℕ, List, [], ◌∷◌, ◌++◌}
use Rattle.std.specs.List.{All, AllZip, flat_map}
use Rattle.std.specs.List.Sorted.{IsPermutation}
use Rattle.bt_parts.specs.Line.{IsRunLine}
use Rattle.bt_parts.specs.declared.run.Run.{Run}
use Rattle.bt_jobs.specs.declared.told.Told.{Told}

-- a line with its end, one line feed
abbrev pub ended : List ℕ → List ℕ
ended line = line ++ 10 ∷ []

-- The text is lines that tell the runs, one each, and the beginning of a line that has not ended yet.
pub record IsToldBy (text : List ℕ) (told : Told) : Type 0 where
  pub lines : List (List ℕ)
  pub parted : text ≡ flat_map ended lines ++ told.rest.items
  pub tell : AllZip IsRunLine lines told.runs.items
  pub unended : All (λ byte. byte ≢ 10) told.rest.items

-- The text is lines that tell the runs, one each, and nothing else.
pub record IsWhollyToldBy (text : List ℕ) (runs : List Run) : Type 0 where
  pub lines : List (List ℕ)
  pub parted : text ≡ flat_map ended lines
  pub tell : AllZip IsRunLine lines runs

-- The text is lines that tell these runs, each once, in whatever order.
pub record TellsEach (text : List ℕ) (runs : List Run) : Type 0 where
  pub told : List Run
  pub lines : IsWhollyToldBy text told
  pub same : IsPermutation told runs
