-- What a crash leaves of a device in memory.
use Rattle.std.proofs.Common.{◌≡◌, ℕ, ◌+◌, ◌<◌, ◌≤◌, ◌⊎◌, inl, inr, List, [], ◌∷◌, length, All, slice_index, sym, subst, ◌∙◌, arith}
use Rattle.std.proofs.lemmas.Bool.{cases_lt}
use Rattle.std.proofs.lemmas.List.{ext_get_or}
use Rattle.std.proofs.lemmas.List.Elements.{All-nil, All-cons, All-head, All-tail}
use Rattle.bt_disk.specs.State.{State, IsOutside, IsImage}
use Rattle.bt_disk.specs.MemoryDisk.{Record, history_of, HasOnly, IsFilled, IsLeftBy}
use Rattle.bt_disk.specs.Law.{LeavesOneImage}
use Rattle.bt_disk.specs.RecordSteps.{LeadsTo}
use Rattle.bt_disk.specs.declared.loss.Loss.{Loss}
use Rattle.bt_disk.specs.declared.loss.Loss.TheVariants.{Kept, Filled}

-- what is left of the parts of the present state is left of it
pub left_now : (kept : Record) (bytes image : List ℕ) (ranges : List (ℕ × ℕ)) (least : ℕ) (loss : Loss) → LeadsTo kept bytes ranges least
    → ((greatest : ℕ) → IsLeftBy loss (record { bytes = bytes; ranges = ranges; least_length = least; greatest_length = greatest }) image)
    → IsLeftBy loss (history_of kept).now image
left_now kept bytes image ranges least loss leads left =
    let now = (history_of kept).now in
    let P : List ℕ → List (ℕ × ℕ) → ℕ → Type 0 = λ b r n.
    IsLeftBy loss (record { bytes = b; ranges = r; least_length = n; greatest_length = now.greatest_length }) image in
    subst (λ n. P now.bytes now.ranges n) (sym leads.least_now)
    (subst (λ r. P now.bytes r least) (sym leads.ranges_now) (subst (λ b. P b ranges least) (sym leads.bytes_now) (left now.greatest_length)))

-- whatever is lost, an image is left
pub left_is_image : (loss : Loss) (s : State) (image : List ℕ) → IsImage s s.bytes → IsLeftBy loss s image → IsImage s image
left_is_image Kept s image reads left = rw left reads
left_is_image (Filled byte) s image reads left =
    record { no_shorter = omega (arith, left.same_length, reads.no_shorter); no_longer = omega (arith, left.same_length, reads.no_longer); kept = left.kept }

-- ---- a loss leaves one image

abbrev IsBeside : ℕ → ℕ × ℕ → Type 0
IsBeside i range = (i < range.0) ⊎ (range.0 + range.1 ≤ i)

-- a byte lies in none of the ranges, or is the one that they were filled with
filled_at : (byte : ℕ) (image : List ℕ) (i : ℕ) (ranges : List (ℕ × ℕ)) → i < length image → All (HasOnly byte image) ranges
    → IsOutside i ranges ⊎ (slice_index image i ≡ byte)
filled_at byte image i [] lt filled = inl (All-nil (IsBeside i))
filled_at byte image i (range ∷ ranges) lt filled =
    let here = All-head (HasOnly byte image) range ranges filled in
    let others = filled_at byte image i ranges lt (All-tail (HasOnly byte image) range ranges filled) in
    elim (cases_lt i range.0) [
      | inl before ↦ elim others [ inl out ↦ inl (All-cons (IsBeside i) range ranges (inl before) out) | inr same ↦ inr same ]
      | inr from ↦ elim (cases_lt i (range.0 + range.1)) [
        | inl inside ↦ inr (here i lt from inside)
        | inr past ↦ elim others [ inl out ↦ inl (All-cons (IsBeside i) range ranges (inr past) out) | inr same ↦ inr same ]
      ]
    ]

same_byte : (s : State) (byte : ℕ) (a b : List ℕ) (i : ℕ) → IsFilled s byte a → IsFilled s byte b → i < length a → slice_index a i ≡ slice_index b i
same_byte s byte a b i p q lt =
    let in_b : i < length b = omega (arith, lt, p.same_length, q.same_length) in
    elim (cases_lt i s.least_length) [
      | inl below ↦ elim (filled_at byte a i s.ranges lt p.written) [
        | inl out ↦ p.kept i below out ∙ sym (q.kept i below out)
        | inr same ↦ elim (filled_at byte b i s.ranges in_b q.written) [
          | inl out ↦ p.kept i below out ∙ sym (q.kept i below out)
          | inr other ↦ same ∙ sym other
        ]
      ]
      | inr past ↦
          let inside : i < length s.bytes = omega (arith, lt, p.same_length) in p.past i inside past ∙ sym (q.past i inside past)
    ]

pub leaves_one_image : LeavesOneImage
leaves_one_image Kept s a b p q = p ∙ sym q
leaves_one_image (Filled byte) s a b p q =
    ext_get_or 0 a b (omega (arith, p.same_length, q.same_length)) (λ i lt. same_byte s byte a b i p q lt)
