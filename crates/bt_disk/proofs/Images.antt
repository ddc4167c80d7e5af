-- What one call leaves in the images of a crash.
use Rattle.std.proofs.Common.{◌≡◌, ℕ, zero, suc, ◌+◌, ◌-◌, ◌<◌, ◌≤◌, ◌⊎◌, inl, inr, min, max, Bool, true, false, ◌&&◌, cond, nat_le, nat_lt, List, [], ◌∷◌, ◌++◌, map, length, get_or, Some, refl, sym, ap, ◌∙◌, subst, arith, rules}
use Rattle.std.specs.Prelude.{slice_index, slice_get}
use Rattle.std.specs.List.{range_with_len}
use Rattle.std.proofs.lemmas.Bool.{cases_lt, cases_Bool, cond-true, cond-false}
use Rattle.std.proofs.lemmas.Bool.Decides.{nat_tests}
use Rattle.std.proofs.lemmas.List.{places, get_or-take, get_or-drop, ext_get_or}
use Rattle.std.proofs.lemmas.List.FromFn.{length-map-range_with_len, get_or-map-range_with_len}
use Rattle.std.proofs.lemmas.Option.{get_or_from_slice_get, slice_get-get_or, slice_get_within}
use Rattle.bt_disk.specs.State.{State, IsImage, IsOutside, IsTornWrite, IsTornResize, written, resized, write_state, resize_state, synced_state}
use Rattle.bt_disk.specs.History.{History, after_write}
use Rattle.bt_disk.specs.Calls.{Call, bytes_written, write_fault, length_set, resize_fault, sync_made, sync_fault, length_given, length_fault, bytes_given, read_fault, AfterWriteFault, AfterResizeFault, Spares}
use Rattle.bt_disk.specs.Law.{IsReached, CallsReachTheirRange}

-- ---- an image with the bytes of another list where a call reaches

abbrev pub mended : (ℕ → Bool) → List ℕ → List ℕ → ℕ → List ℕ
mended reached bytes image n = map (λ i. cond (reached i) (get_or bytes i 0) (get_or image i 0)) (range_with_len 0 n)

mended_reached : (reached : ℕ → Bool) (bytes image : List ℕ) (n i : ℕ) → i < n → reached i ≡ true → get_or (mended reached bytes image n) i 0 ≡ get_or bytes i 0
mended_reached reached bytes image n i lt e =
    get_or-map-range_with_len (λ i. cond (reached i) (get_or bytes i 0) (get_or image i 0)) 0 n i i 0 lt (omega arith) ∙ cond-true (reached i) _ _ e

mended_spared : (reached : ℕ → Bool) (bytes image : List ℕ) (n i : ℕ) → i < n → reached i ≡ false → get_or (mended reached bytes image n) i 0 ≡ get_or image i 0
mended_spared reached bytes image n i lt e =
    get_or-map-range_with_len (λ i. cond (reached i) (get_or bytes i 0) (get_or image i 0)) 0 n i i 0 lt (omega arith) ∙ cond-false (reached i) _ _ e

length-mended : (reached : ℕ → Bool) (bytes image : List ℕ) (n : ℕ) → length (mended reached bytes image n) ≡ n
length-mended reached bytes image n = length-map-range_with_len (λ i. cond (reached i) (get_or bytes i 0) (get_or image i 0)) 0 n

-- it is an image of a state whose bytes it takes, if the other one has them elsewhere
mended_is_image : (s : State) (reached : ℕ → Bool) (image : List ℕ) (n : ℕ) → s.least_length ≤ n → n ≤ s.greatest_length
    → ((i : ℕ) → i < s.least_length → IsOutside i s.ranges → reached i ≡ false → slice_index image i ≡ slice_index s.bytes i) → IsImage s (mended reached s.bytes image n)
mended_is_image s reached image n low high same =
    let e = length-mended reached s.bytes image n in
    record {
      no_shorter = omega (arith, e);
      no_longer = omega (arith, e);
      kept = λ i below outside.
          let lt : i < n = omega arith in
          elim (cases_Bool (reached i)) [
            | inl yes_reached ↦ mended_reached reached s.bytes image n i lt yes_reached
            | inr not_reached ↦ mended_spared reached s.bytes image n i lt not_reached ∙ same i below outside not_reached
          ];
    }

-- a byte of it that was not reached is the other one's
mended_agrees : (reached : ℕ → Bool) (bytes image : List ℕ) (n i byte : ℕ) → reached i ≡ false → (i < n → i < length image)
    → slice_get (mended reached bytes image n) i ≡ Some byte → slice_get image i ≡ Some byte
mended_agrees reached bytes image n i byte e inside is =
    let lt : i < n = omega (arith, slice_get_within _ i byte is, length-mended reached bytes image n) in
    let same : get_or image i 0 ≡ byte = sym (mended_spared reached bytes image n i lt e) ∙ get_or_from_slice_get _ i byte 0 is in
    slice_get-get_or image i 0 (inside lt) ∙ ap Some same

-- ---- a write

abbrev pub is_within : ℕ → ℕ → ℕ → Bool
is_within at count i = nat_le at i && nat_lt i (at + count)

is_within_not : (at count i : ℕ) → (i < at) ⊎ (at + count ≤ i) → is_within at count i ≡ false
is_within_not at count i (inl before) = grind (arith, nat_tests)
is_within_not at count i (inr after) = grind (arith, nat_tests)

outside_range : (at count i : ℕ) → is_within at count i ≡ false → (i < at) ⊎ (at + count ≤ i)
outside_range at count i e = elim (cases_lt i at) [
  | inl before ↦ inl before
  | inr from ↦ elim (cases_lt i (at + count)) [
    | inl inside ↦ absurd (let f : is_within at count i ≡ true = grind (arith, nat_tests) in cc)
    | inr after ↦ inr after
  ]
]

pub written_outside : (bytes more : List ℕ) (at i : ℕ) → i < length bytes → (i < at) ⊎ (at + length more ≤ i) → slice_index (written bytes at more) i ≡ slice_index bytes i
written_outside bytes more at i lt (inl before) = search (rules, places)
written_outside bytes more at i lt (inr after) = search (rules, places)

outside_more : (i at count : ℕ) (ranges : List (ℕ × ℕ)) → (i < at) ⊎ (at + count ≤ i) → IsOutside i ranges → IsOutside i (ranges ++ (at, count) ∷ [])
outside_more i at count [] out rest zero d lt = out
outside_more i at count [] out rest (suc k) d lt = absurd (omega arith)
outside_more i at count (range ∷ ranges) out rest zero d lt = rest zero d (omega arith)
outside_more i at count (range ∷ ranges) out rest (suc k) d lt = outside_more i at count ranges out (λ j e below. rest (suc j) e (omega arith)) k d (omega arith)

-- a write, made or torn, of which it is known what it left outside its range
reaches_range : (old new : State) (call : Call) (at count : ℕ) (image : List ℕ) → IsImage old old.bytes → IsImage new image
    → ((i : ℕ) → Spares i call → (i < at) ⊎ (at + count ≤ i)) → new.least_length ≡ old.least_length → new.ranges ≡ old.ranges ++ (at, count) ∷ []
    → ((i : ℕ) → i < length old.bytes → (i < at) ⊎ (at + count ≤ i) → slice_index new.bytes i ≡ slice_index old.bytes i)
    → (before : List ℕ) × IsReached old call before image
reaches_range old new call at count image reads left spares least ranges same =
    let n : ℕ = min (length image) old.greatest_length in (
      mended (is_within at count) old.bytes image n,
      record {
        possible = mended_is_image old (is_within at count) image n
            (omega (arith, left.no_shorter, reads.no_shorter, reads.no_longer)) (omega arith)
            (λ i below outside e.
            let out = outside_range at count i e in
            left.kept i (omega arith) (rw ranges (outside_more i at count old.ranges out outside)) ∙ same i (omega (arith, reads.no_shorter)) out);
        spared = λ i byte spare is.
            mended_agrees (is_within at count) old.bytes image n i byte (is_within_not at count i (spares i spare)) (λ lt. omega arith) is;
      },
    )

pub torn_outside : (old new : State) (at count i : ℕ) → IsTornWrite at count old new → i < length old.bytes → (i < at) ⊎ (at + count ≤ i)
    → slice_index new.bytes i ≡ slice_index old.bytes i
torn_outside old new at count i torn lt (inl before) =
    let m : ℕ = min at (length old.bytes) in
    let below : i < m = omega arith in
    sym (get_or-take m new.bytes i 0 below) ∙ ap (λ xs. get_or xs i 0) torn.before ∙ get_or-take m old.bytes i 0 below
torn_outside old new at count i torn lt (inr after) =
    let place : at + count + (i - (at + count)) ≡ i = omega arith in
    sym (get_or-drop (at + count) new.bytes (i - (at + count)) 0 ∙ ap (λ x. get_or new.bytes x 0) place) ∙ ap (λ xs. get_or xs (i - (at + count)) 0) torn.after
    ∙ get_or-drop (at + count) old.bytes (i - (at + count)) 0 ∙ ap (λ x. get_or old.bytes x 0) place

-- ---- a change of the length

pub resized_below : (bytes : List ℕ) (len i : ℕ) → i < length bytes → i < len → slice_index (resized bytes len) i ≡ slice_index bytes i
resized_below bytes len i lt below = search (rules, places)

torn_below : (old new : State) (len i : ℕ) → IsTornResize len old new → i < length old.bytes → i < len → slice_index new.bytes i ≡ slice_index old.bytes i
torn_below old new len i torn lt below =
    let m : ℕ = min len (length old.bytes) in
    let front : i < m = omega arith in
    sym (get_or-take m new.bytes i 0 front) ∙ ap (λ xs. get_or xs i 0) torn.front ∙ get_or-take m old.bytes i 0 front

not_past : (len i : ℕ) → i < len → nat_le len i ≡ false
not_past len i below = grind (arith, nat_tests)

below_from : (len i : ℕ) → nat_le len i ≡ false → i < len
below_from len i e = grind (arith, nat_tests)

reaches_past : (old new : State) (call : Call) (len : ℕ) (image : List ℕ) → IsImage old old.bytes → IsImage new image
    → ((i : ℕ) → Spares i call → i < len) → new.least_length ≡ min old.least_length len → new.ranges ≡ old.ranges
    → ((i : ℕ) → i < length old.bytes → i < len → slice_index new.bytes i ≡ slice_index old.bytes i)
    → (before : List ℕ) × IsReached old call before image
reaches_past old new call len image reads left spares least ranges same =
    let n : ℕ = max old.least_length (min (length image) old.greatest_length) in (
      mended (nat_le len) old.bytes image n,
      record {
        possible = mended_is_image old (nat_le len) image n (omega arith) (omega (arith, reads.no_shorter, reads.no_longer))
            (λ i below outside e.
            let front = below_from len i e in
            left.kept i (omega (arith, least, front)) (rw ranges outside) ∙ same i (omega (arith, reads.no_shorter)) front);
        spared = λ i byte spare is.
            let front = spares i spare in
            mended_agrees (nat_le len) old.bytes image n i byte (not_past len i front) (λ lt. omega (arith, front, left.no_shorter, least)) is;
      },
    )

-- ---- a sync

pub synced_image : (bytes image : List ℕ) → IsImage (synced_state bytes) image → image ≡ bytes
synced_image bytes image left =
    ext_get_or 0 image bytes (omega (arith, left.no_shorter, left.no_longer))
    (λ i lt. left.kept i (omega (arith, left.no_longer)) (λ k d none. absurd (omega arith)))

-- ---- any call

unreached : (old : State) (call : Call) (image : List ℕ) → IsImage old image → (before : List ℕ) × IsReached old call before image
unreached old call image left = (image, record { possible = left; spared = λ i byte spare is. is })

write_reaches : (old : History) (call : Call) (at : ℕ) (bytes image : List ℕ) → ((i : ℕ) → Spares i call → (i < at) ⊎ (at + length bytes ≤ i))
    → IsImage old.now old.now.bytes → IsImage (after_write old at bytes).now image → (before : List ℕ) × IsReached old.now call before image
write_reaches old call at [] image spares reads left = unreached old.now call image left
write_reaches old call at (byte ∷ bytes) image spares reads left =
    reaches_range old.now (write_state old.now at (byte ∷ bytes)) call at (length (byte ∷ bytes)) image reads left spares refl refl
    (λ i lt out. written_outside old.now.bytes (byte ∷ bytes) at i lt out)

write_fault_reaches : (old new : History) (call : Call) (at : ℕ) (bytes image : List ℕ) → ((i : ℕ) → Spares i call → (i < at) ⊎ (at + length bytes ≤ i))
    → IsImage old.now old.now.bytes → AfterWriteFault at bytes old new → IsImage new.now image → (before : List ℕ) × IsReached old.now call before image
write_fault_reaches old new call at [] image spares reads same left = unreached old.now call image (subst (λ h. IsImage h.now image) same left)
write_fault_reaches old new call at (byte ∷ bytes) image spares reads (inl same) left = unreached old.now call image (subst (λ h. IsImage h.now image) same left)
write_fault_reaches old new call at (byte ∷ bytes) image spares reads (inr torn) left =
    reaches_range old.now torn.0 call at (length (byte ∷ bytes)) image reads (subst (λ h. IsImage h.now image) torn.2 left) spares torn.1.least_length torn.1.ranges
    (λ i lt out. torn_outside old.now torn.0 at (length (byte ∷ bytes)) i torn.1 lt out)

resize_fault_reaches : (old new : History) (call : Call) (len : ℕ) (image : List ℕ) → ((i : ℕ) → Spares i call → i < len)
    → IsImage old.now old.now.bytes → AfterResizeFault len old new → IsImage new.now image → (before : List ℕ) × IsReached old.now call before image
resize_fault_reaches old new call len image spares reads (inl same) left = unreached old.now call image (subst (λ h. IsImage h.now image) same left)
resize_fault_reaches old new call len image spares reads (inr torn) left =
    reaches_past old.now torn.0 call len image reads (subst (λ h. IsImage h.now image) torn.2 left) spares torn.1.least_length torn.1.ranges
    (λ i lt below. torn_below old.now torn.0 len i torn.1 lt below)

pub call_reaches : CallsReachTheirRange
call_reaches old new (length_given len) image reads answered left = unreached old.now _ image (subst (λ h. IsImage h.now image) answered.1 left)
call_reaches old new length_fault image reads answered left = unreached old.now _ image (subst (λ h. IsImage h.now image) answered left)
call_reaches old new (bytes_given at wanted bytes) image reads answered left = unreached old.now _ image (subst (λ h. IsImage h.now image) answered.1 left)
call_reaches old new (read_fault at wanted) image reads answered left = unreached old.now _ image (subst (λ h. IsImage h.now image) answered left)
call_reaches old new (bytes_written at bytes) image reads answered left =
    write_reaches old _ at bytes image (λ i spare. spare) reads (subst (λ h. IsImage h.now image) answered left)
call_reaches old new (write_fault at bytes) image reads answered left = write_fault_reaches old new _ at bytes image (λ i spare. spare) reads answered left
call_reaches old new (length_set len) image reads answered left =
    reaches_past old.now (resize_state old.now len) _ len image reads (subst (λ h. IsImage h.now image) answered left) (λ i spare. spare) refl refl
    (λ i lt below. resized_below old.now.bytes len i lt below)
call_reaches old new (resize_fault len) image reads answered left = resize_fault_reaches old new _ len image (λ i spare. spare) reads answered left
call_reaches old new sync_made image reads answered left =
    let same = synced_image old.now.bytes image (subst (λ h. IsImage h.now image) answered left) in
    unreached old.now _ image (subst (λ bytes. IsImage old.now bytes) (sym same) reads)
call_reaches old new sync_fault image reads answered left = unreached old.now _ image (subst (λ h. IsImage h.now image) answered left)
