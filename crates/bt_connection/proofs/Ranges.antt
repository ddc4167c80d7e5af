-- Parts of a list from one place to another.
use Rattle.std.proofs.Common.{◌≡◌, ◌≤◌, ℕ, ◌+◌, ◌-◌, List, ◌++◌, take, drop, length, slice_range, refl, sym, ◌∙◌, ap, arith, append_assoc, length-append, length-take, length-drop, drop-drop, take_at, take-append-drop}
use Rattle.std.proofs.lemmas.List.{drop-take, length-take-le}
use lib.Seq.{take-add}

-- a part that begins later
pub advanced : (xs : List ℕ) (start count end : ℕ) → start + count ≤ end
    → drop count (slice_range xs start end) ≡ slice_range xs (start + count) end
advanced xs start count end fits =
    let rest : ℕ = end - (start + count) in
    let whole : end - start ≡ count + rest = omega arith in
    ap (λ (k : ℕ). drop count (take k (drop start xs))) whole
    ∙ drop-take count rest (drop start xs)
    ∙ ap (λ (l : List ℕ). take rest l) (drop-drop count start xs)

-- what stands in front, with the elements after it
pub joined : (xs front : List ℕ) (size count : ℕ) → take size xs ≡ front
    → slice_range xs 0 (size + count) ≡ front ++ take count (drop size xs)
joined xs front size count first =
    let whole : size + count - 0 ≡ size + count = omega arith in
    ap (λ (k : ℕ). take k xs) whole
    ∙ take-add size count xs
    ∙ ap (λ (l : List ℕ). l ++ take count (drop size xs)) first

pub length_behind : (xs : List ℕ) (size count : ℕ) → size + count ≤ length xs → length (take count (drop size xs)) ≡ count
length_behind xs size count fits = length-take-le count (drop size xs) (omega (arith, length-drop size xs))

pub length_range : (xs : List ℕ) (start end : ℕ) → end ≤ length xs → length (slice_range xs start end) ≡ end - start
length_range xs start end within = length-take-le (end - start) (drop start xs) (omega (arith, length-drop start xs))

-- a part that takes the place of what is in front
pub held_in : (xs part : List ℕ) → slice_range (take 0 xs ++ part ++ drop (0 + length part) xs) 0 (length part) ≡ part
held_in xs part =
    let whole : length part - 0 ≡ length part = omega arith in
    ap (λ (k : ℕ). take k (part ++ drop (0 + length part) xs)) whole ∙ take_at part (drop (0 + length part) xs) (length part) refl

-- the first of them go to two places
pub shared : (old front mid other new : List ℕ) (rest : ℕ) → old ≡ front ++ mid → other ≡ take rest mid → new ≡ drop rest mid
    → old ≡ front ++ other ++ new
shared old front mid other new rest is part left =
    is
    ∙ ap (λ (l : List ℕ). front ++ l) (sym (take-append-drop rest mid))
    ∙ sym (append_assoc front (take rest mid) (drop rest mid))
    ∙ ap (λ (l : List ℕ). front ++ l ++ drop rest mid) (sym part)
    ∙ ap (λ (l : List ℕ). front ++ other ++ l) (sym left)

pub shared_size : (old front mid other : List ℕ) (len count : ℕ) → old ≡ front ++ mid → other ≡ take (len - count) mid → length front ≡ count
    → count ≤ len → len ≤ length old → length (front ++ other) ≡ len
shared_size old front mid other len count is part size few room =
    omega (
      arith,
      ap (λ (l : List ℕ). length l) is,
      length-append front mid,
      ap (λ (l : List ℕ). length l) part,
      length-take (len - count) mid,
      length-append front other,
      size,
      few,
      room,
    )
