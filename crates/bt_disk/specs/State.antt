-- What a device holds, and what a crash makes of it. Bytes are a list; a range is its first byte and its
-- length.
use Rattle.std.specs.Prelude.{◌≡◌, ℕ, ◌+◌, ◌-◌, ◌<◌, ◌≤◌, ◌⊎◌, min, max, List, [], ◌∷◌, ◌++◌, length, take, drop, replicate, slice_index, slice_get, Some, All}

-- The bytes as a read gives them; and since the last sync the ranges that were written, in order, and the
-- least and the greatest length.
pub record State : Type 0 where
  pub bytes : List ℕ
  pub ranges : List (ℕ × ℕ)
  pub least_length : ℕ
  pub greatest_length : ℕ

-- all of it is on the medium
abbrev pub synced_state : List ℕ → State
synced_state bytes = record {
  bytes = bytes;
  ranges = [];
  least_length = length bytes;
  greatest_length = length bytes;
}

-- byte i lies in none of the ranges
abbrev pub IsOutside : ℕ → List (ℕ × ℕ) → Type 0
IsOutside i ranges = All (λ range. (i < range.0) ⊎ (range.0 + range.1 ≤ i)) ranges

-- A crash now may leave these bytes: any in a range that was written and past the least length since the last
-- sync, and else the bytes that a read gives.
pub record IsImage (s : State) (image : List ℕ) : Type 0 where
  pub no_shorter : s.least_length ≤ length image
  pub no_longer : length image ≤ s.greatest_length
  pub kept : (i : ℕ) → i < s.least_length → IsOutside i s.ranges → slice_index image i ≡ slice_index s.bytes i

-- whatever a crash now leaves, it has this byte at i
abbrev pub IsKept : State → ℕ → ℕ → Type 0
IsKept s i byte = (image : List ℕ) → IsImage s image → slice_get image i ≡ Some byte

-- whatever a crash now leaves, it has at most n bytes
abbrev pub IsWithin : State → ℕ → Type 0
IsWithin s n = (image : List ℕ) → IsImage s image → length image ≤ n

-- the bytes with one or more others put at a place, and zeros in a gap before it
abbrev pub written : List ℕ → ℕ → List ℕ → List ℕ
written bytes at more =
    take at bytes ++ replicate (at - length bytes) 0 ++ more ++ drop (at + length more) bytes

-- the bytes cut to a length, or with zeros after them up to it
abbrev pub resized : List ℕ → ℕ → List ℕ
resized bytes len = take len bytes ++ replicate (len - length bytes) 0

-- after a write of one or more bytes
abbrev pub write_state : State → ℕ → List ℕ → State
write_state s at more = record {
  bytes = written s.bytes at more;
  ranges = s.ranges ++ (at, length more) ∷ [];
  least_length = s.least_length;
  greatest_length = max s.greatest_length (at + length more);
}

abbrev pub resize_state : State → ℕ → State
resize_state s len = record {
  bytes = resized s.bytes len;
  ranges = s.ranges;
  least_length = min s.least_length len;
  greatest_length = max s.greatest_length len;
}

-- after a write of one or more bytes that failed: at most its range and a gap before it changed
pub record IsTornWrite (at count : ℕ) (old new : State) : Type 0 where
  pub before : take (min at (length old.bytes)) new.bytes ≡ take (min at (length old.bytes)) old.bytes
  pub after : drop (at + count) new.bytes ≡ drop (at + count) old.bytes
  pub no_shorter : length old.bytes ≤ length new.bytes
  pub no_longer : length new.bytes ≤ max (length old.bytes) (at + count)
  pub ranges : new.ranges ≡ old.ranges ++ (at, count) ∷ []
  pub least_length : new.least_length ≡ old.least_length
  pub greatest_length : new.greatest_length ≡ max old.greatest_length (at + count)

-- after a change of the length that failed: the length stopped between the old one and the new one, and the
-- bytes below both are the same
pub record IsTornResize (len : ℕ) (old new : State) : Type 0 where
  pub front : take (min len (length old.bytes)) new.bytes ≡ take (min len (length old.bytes)) old.bytes
  pub no_shorter : min len (length old.bytes) ≤ length new.bytes
  pub no_longer : length new.bytes ≤ max len (length old.bytes)
  pub ranges : new.ranges ≡ old.ranges
  pub least_length : new.least_length ≡ min old.least_length len
  pub greatest_length : new.greatest_length ≡ max old.greatest_length len
