-- Ranges that were asked for, and have not come.
use Rattle.std.specs.Prelude.{◌≡◌, ℕ, ◌<◌, ◌∷◌, ◌++◌, [], List, Contains, length, slice_index_or, swap_remove}
use Rattle.bt_book.specs.Book.{max_requests}
use Rattle.bt_wire.specs.declared.message.Ask.{Ask}

-- One more is noted, unless it was already, or as many were as may be.
pub record IsOpened (old : List Ask) (ask : Ask) (new : List Ask) : Type 0 where
  pub again : Contains old ask → new ≡ old
  pub full : length old ≡ max_requests → new ≡ old
  pub opened : ¬ Contains old ask → length old < max_requests → new ≡ old ++ ask ∷ []

-- one of the open requests is taken out, and the last one takes its place
abbrev pub IsWithout : List Ask → Ask → List Ask → Type 0
IsWithout old ask new = (i : ℕ) × (i < length old) × (slice_index_or old i ask ≡ ask)
    × (new ≡ swap_remove old i ask)
