-- The digests of neighbouring nodes of a layer, some of which are there.
use Rattle.std.specs.Prelude.{◌≡◌, ◌≢◌, ℕ, ◌*◌, ◌/◌, ◌%◌, ◌≤◌, ◌==◌, Bool, false, List, [], length, map, slice_index, slice_index_or, Option, Some, None, if◌then◌else◌}
use Rattle.std.specs.List.{range_with_len}
use Rattle.std.specs.Int.{bit_at}

-- the digest at each place, where there is one
abbrev pub Slots : Type 0
Slots = List (Option (List ℕ))

-- how many places a page has at most
abbrev pub page_length : ℕ
page_length = 512

-- whether a place's bit is set, of 64 bits in each word, the lowest first
abbrev pub is_present : List ℕ → ℕ → Bool
is_present words i = bit_at (slice_index words (i / 64)) (i % 64) == 1

-- a digest is there where the bit is set
unfoldable pub slots_of : List (List ℕ) → List ℕ → Slots
slots_of digests words =
    map (λ i. if is_present words i then Some (slice_index_or digests i []) else None)
    (range_with_len 0 (length digests))

-- each place has a bit, and none is set past the last place
pub record HasBits (digests : List (List ℕ)) (words : List ℕ) : Type 0 where
  pub room : length digests ≤ 64 * length words
  pub clear : (i : ℕ) → length digests ≤ i → is_present words i ≡ false

-- there is as much as before, at as many places or more
pub record IsLonger (old new : Slots) : Type 0 where
  pub same : (i : ℕ) → slice_index_or new i None ≡ slice_index_or old i None
  pub longer : length old ≤ length new

-- a digest was put at a place
pub record IsPutAt (i : ℕ) (d : List ℕ) (old new : Slots) : Type 0 where
  pub here : slice_index_or new i None ≡ Some d
  pub others : (j : ℕ) → j ≢ i → slice_index_or new j None ≡ slice_index_or old j None
  pub length_is : length new ≡ length old
