-- Bytes that are put at a place.
use Rattle.std.proofs.Common.{◌≡◌, ℕ, ◌+◌, ◌-◌, ◌<◌, ◌≤◌, List, ◌++◌, length, take, drop, refl, arith, rules}
use Rattle.std.proofs.lemmas.List.{places, same_lists, append-nil}
use Rattle.bt_disk.specs.State.{written, resized}

-- over bytes that are there
pub written_within : (bytes : List ℕ) (at : ℕ) (more : List ℕ) → at + length more ≤ length bytes
    → take at bytes ++ more ++ drop (at + length more) bytes ≡ written bytes at more
written_within bytes at more within =
    let no_gap : at - length bytes ≡ 0 = omega arith in
    rw (no_gap, append-nil (take at bytes)) refl

-- over bytes that were resized before
pub written_past : (bytes : List ℕ) (at : ℕ) (more : List ℕ) → length bytes < at + length more
    → take at (resized bytes (at + length more)) ++ more ++ drop (at + length more) (resized bytes (at + length more)) ≡ written bytes at more
written_past bytes at more past = same_lists _ _ (search (rules, places)) (λ k d h. grind (arith, places))
