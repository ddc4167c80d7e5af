-- How a hint is told.
use Rattle.std.specs.Prelude.{ℕ, List, ◌++◌, codes}
use Rattle.bt_progress.specs.Escape.{escaped_text}

abbrev pub hint_text : List ℕ → List ℕ
hint_text hint = codes "btseed: " ++ escaped_text hint ++ codes "\n"
