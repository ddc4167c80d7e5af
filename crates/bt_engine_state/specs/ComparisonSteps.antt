-- What a comparison of bytes says of their bits.
use Rattle.std.specs.Prelude.{◌≡◌, ℕ, ◌+◌, ◌<◌, ◌≤◌, List, slice_index}
use Rattle.std.specs.Int.{bit_at}

-- this many bytes from byte `at` on have no bit that those of another list lack
abbrev pub AddsNothing : ℕ → ℕ → List ℕ → List ℕ → Type 0
AddsNothing at count own other = (i j : ℕ) → at ≤ i → i < at + count → j < 8
    → bit_at (slice_index own i) j ≡ 1 → bit_at (slice_index other i) j ≡ 1

-- this many bytes from byte `at` on have no bit
abbrev pub HasNoBit : ℕ → ℕ → List ℕ → Type 0
HasNoBit at count bytes = (i j : ℕ) → at ≤ i → i < at + count → j < 8 → bit_at (slice_index bytes i) j ≡ 0
