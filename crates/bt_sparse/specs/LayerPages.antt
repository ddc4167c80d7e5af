-- The digests of a layer, in tables of pages.
use Rattle.std.specs.Prelude.{◌≡◌, ◌≢◌, ℕ, ◌/◌, ◌%◌, ◌≤◌, List, [], length, slice_index_or, Option, Some}
use Rattle.bt_sparse.specs.PageTable.{Pages, slot_at}

-- how many nodes a table is for
abbrev pub table_length : ℕ
table_length = 262144

-- the tables, and what they have at an index
abbrev pub Tables : Type 0
Tables = List Pages

abbrev pub entry_at : Tables → ℕ → Option (List ℕ)
entry_at tables i = slot_at (slice_index_or tables (i / table_length) []) (i % table_length)

-- there is as much as before, in pages that are as long or longer
pub record KeepsTables (old new : Tables) : Type 0 where
  pub same : (i : ℕ) → entry_at new i ≡ entry_at old i
  pub longer : (t p : ℕ) → length (slice_index_or (slice_index_or old t []) p [])
      ≤ length (slice_index_or (slice_index_or new t []) p [])

-- a digest was put at an index
pub record IsPutInto (i : ℕ) (d : List ℕ) (old new : Tables) : Type 0 where
  pub here : entry_at new i ≡ Some d
  pub others : (j : ℕ) → j ≢ i → entry_at new j ≡ entry_at old j
  pub longer : (t p : ℕ) → length (slice_index_or (slice_index_or old t []) p [])
      ≤ length (slice_index_or (slice_index_or new t []) p [])
