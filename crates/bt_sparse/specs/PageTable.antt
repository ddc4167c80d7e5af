-- Up to 512 pages of neighbouring nodes of a layer.
use Rattle.std.specs.Prelude.{◌≡◌, ◌≢◌, ℕ, ◌/◌, ◌%◌, ◌≤◌, List, [], length, slice_index_or, Option, Some, None}
use Rattle.bt_sparse.specs.Page.{Slots, page_length}

-- the pages, and what they have at an index
abbrev pub Pages : Type 0
Pages = List Slots

abbrev pub slot_at : Pages → ℕ → Option (List ℕ)
slot_at pages i = slice_index_or (slice_index_or pages (i / page_length) []) (i % page_length) None

-- there is as much as before, in pages that are as long or longer
pub record KeepsPages (old new : Pages) : Type 0 where
  pub same : (i : ℕ) → slot_at new i ≡ slot_at old i
  pub longer : (p : ℕ) → length (slice_index_or old p []) ≤ length (slice_index_or new p [])

-- a digest was put at an index
pub record IsPutIn (i : ℕ) (d : List ℕ) (old new : Pages) : Type 0 where
  pub here : slot_at new i ≡ Some d
  pub others : (j : ℕ) → j ≢ i → slot_at new j ≡ slot_at old j
  pub longer : (p : ℕ) → length (slice_index_or old p []) ≤ length (slice_index_or new p [])
