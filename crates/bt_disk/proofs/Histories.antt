-- What several calls leave in the images of a crash, within them too.
use Rattle.std.proofs.Common.{◌≡◌, ℕ, zero, suc, ◌≤◌, ◌⊎◌, inl, inr, List, [], ◌∷◌, length, refl, sym, ap, ◌∙◌, subst, arith}
use Rattle.std.specs.Prelude.{All, Some, slice_get}
use Rattle.bt_disk.specs.State.{State, IsImage, IsKept, IsWithin, resized}
use Rattle.bt_disk.specs.History.{History, then, moment_of, LeftBefore, LeftSince, IsKeptSince, IsWithinSince}
use Rattle.bt_disk.specs.Calls.{Call, bytes_written, write_fault, length_set, resize_fault, sync_made, sync_fault, length_given, length_fault, bytes_given, read_fault, IsAnswered, IsRead, Spares, EndsWithin}
use Rattle.bt_disk.specs.ReadsImage.{HasLength, has_length-call, has_length-synced, length-resized}
use Rattle.bt_disk.specs.Law.{SyncKeepsAll, ReadsChangeNothing, CallsKeepBytes, KeptFromNow, CallsKeepLengths, WithinFromNow}
use Rattle.bt_disk.proofs.Images.{call_reaches, synced_image, resized_below}

pub sync_keeps_all : SyncKeepsAll
sync_keeps_all old new image answered left =
    (synced_image old.now.bytes image (subst (λ h. IsImage h.now image) answered left), ap (λ h. h.now.bytes) answered)

-- ---- reads

read_changes_nothing : (old new : History) (call : Call) → IsRead call → IsAnswered old call new → new ≡ old
read_changes_nothing old new (length_given len) reads answered = answered.1
read_changes_nothing old new length_fault reads answered = answered
read_changes_nothing old new (bytes_given at wanted bytes) reads answered = answered.1
read_changes_nothing old new (read_fault at wanted) reads answered = answered
read_changes_nothing old new (bytes_written at bytes) reads answered = absurd reads
read_changes_nothing old new (write_fault at bytes) reads answered = absurd reads
read_changes_nothing old new (length_set len) reads answered = absurd reads
read_changes_nothing old new (resize_fault len) reads answered = absurd reads
read_changes_nothing old new sync_made reads answered = absurd reads
read_changes_nothing old new sync_fault reads answered = absurd reads

pub all_rest : {A : Type 0} (P : A → Type 0) (x : A) (xs : List A) → All P (x ∷ xs) → All P xs
all_rest P x xs all k d lt = all (suc k) d (omega arith)

pub reads_change_nothing : ReadsChangeNothing
reads_change_nothing old new [] reads answered = answered
reads_change_nothing old new (call ∷ calls) reads answered =
    reads_change_nothing answered.0 new calls (all_rest IsRead call calls reads) answered.2
    ∙ read_changes_nothing old answered.0 call (reads zero call (omega arith)) answered.1

-- ---- the present state

before_none : (past : List State) (t : ℕ) (image : List ℕ) → length past ≤ t → LeftBefore past t image → ⊥
before_none [] t image le left = left
before_none (s ∷ past) t image le (inl at) = absurd (omega (arith, at.0))
before_none (s ∷ past) t image le (inr left) = before_none past t image (omega arith) left

-- what holds of every image now, holds of every image since now
from_now : (P : List ℕ → Type 0) (h : History) → ((image : List ℕ) → IsImage h.now image → P image)
    → (image : List ℕ) → LeftSince h (moment_of h) image → P image
from_now P h now image (inl left) = now image left
from_now P h now image (inr before) = absurd (before_none h.past (length h.past) image (omega arith) before)

pub kept_from_now : KeptFromNow
kept_from_now h i byte = from_now (λ image. slice_get image i ≡ Some byte) h

pub within_from_now : WithinFromNow
within_from_now h n = from_now (λ image. length image ≤ n) h

-- ---- what a read gives stays an image

has_length : (s : State) → IsImage s s.bytes → HasLength s
has_length s reads = record { no_shorter = reads.no_shorter; no_longer = reads.no_longer }

image_from : (s : State) → HasLength s → IsImage s s.bytes
image_from s has = record { no_shorter = has.no_shorter; no_longer = has.no_longer; kept = λ i below outside. refl }

-- an honest device goes on to give an image
pub reads_after : (old new : History) (call : Call) → IsImage old.now old.now.bytes → IsAnswered old call new → IsImage new.now new.now.bytes
reads_after old new (length_given len) reads answered = rw answered.1 reads
reads_after old new length_fault reads answered = rw answered reads
reads_after old new (bytes_given at wanted bytes) reads answered = rw answered.1 reads
reads_after old new (read_fault at wanted) reads answered = rw answered reads
reads_after old new (bytes_written at bytes) reads answered = rw answered (image_from _ (has_length-call old (bytes_written at bytes) (has_length old.now reads)))
reads_after old new (write_fault at []) reads answered = rw answered reads
reads_after old new (write_fault at (byte ∷ bytes)) reads (inl same) = rw same reads
reads_after old new (write_fault at (byte ∷ bytes)) reads (inr torn) = rw torn.2 (image_from torn.0 (record {
  no_shorter = omega (arith, torn.1.least_length, torn.1.no_shorter, reads.no_shorter);
  no_longer = omega (arith, torn.1.greatest_length, torn.1.no_longer, reads.no_longer);
}))
reads_after old new (length_set len) reads answered = rw answered (image_from _ (has_length-call old (length_set len) (has_length old.now reads)))
reads_after old new (resize_fault len) reads (inl same) = rw same reads
reads_after old new (resize_fault len) reads (inr torn) = rw torn.2 (image_from torn.0 (record {
  no_shorter = omega (arith, torn.1.least_length, torn.1.no_shorter, reads.no_shorter);
  no_longer = omega (arith, torn.1.greatest_length, torn.1.no_longer, reads.no_longer);
}))
reads_after old new sync_made reads answered = rw answered (image_from _ (has_length-synced old.now.bytes))
reads_after old new sync_fault reads answered = rw answered reads

-- ---- one call, and several

-- a call leaves the history as it was, or adds one state
step_of : (old new : History) (call : Call) → IsAnswered old call new → (new ≡ old) ⊎ (new ≡ then old new.now)
step_of old new (length_given len) answered = inl answered.1
step_of old new length_fault answered = inl answered
step_of old new (bytes_given at wanted bytes) answered = inl answered.1
step_of old new (read_fault at wanted) answered = inl answered
step_of old new (bytes_written at []) answered = inl answered
step_of old new (bytes_written at (byte ∷ bytes)) answered = inr (answered ∙ ap (λ h. then old h.now) (sym answered))
step_of old new (write_fault at []) answered = inl answered
step_of old new (write_fault at (byte ∷ bytes)) (inl same) = inl same
step_of old new (write_fault at (byte ∷ bytes)) (inr torn) = inr (torn.2 ∙ ap (λ h. then old h.now) (sym torn.2))
step_of old new (length_set len) answered = inr (answered ∙ ap (λ h. then old h.now) (sym answered))
step_of old new (resize_fault len) (inl same) = inl same
step_of old new (resize_fault len) (inr torn) = inr (torn.2 ∙ ap (λ h. then old h.now) (sym torn.2))
step_of old new sync_made answered = inr (answered ∙ ap (λ h. then old h.now) (sym answered))
step_of old new sync_fault answered = inl answered

kept_after : (old new : History) (call : Call) (i byte : ℕ) → IsImage old.now old.now.bytes → IsAnswered old call new → Spares i call
    → IsKept old.now i byte → IsKept new.now i byte
kept_after old new call i byte reads answered spare kept image left =
    let earlier = call_reaches old new call image reads answered left in
    earlier.1.spared i byte spare (kept earlier.0 earlier.1.possible)

-- what holds of every image since a moment, and of every image now, goes on to hold since then

images_then : (P : List ℕ → Type 0) (old : History) (s : State) (t : ℕ) → ((image : List ℕ) → LeftSince old t image → P image)
    → ((image : List ℕ) → IsImage s image → P image) → (image : List ℕ) → LeftSince (then old s) t image → P image
images_then P old s t since now image (inl left) = now image left
images_then P old s t since now image (inr (inl left)) = since image (inl left.1)
images_then P old s t since now image (inr (inr before)) = since image (inr before)

images_after : (P : List ℕ → Type 0) (old new : History) (call : Call) (t : ℕ) → IsAnswered old call new
    → ((image : List ℕ) → LeftSince old t image → P image) → ((image : List ℕ) → IsImage new.now image → P image)
    → (image : List ℕ) → LeftSince new t image → P image
images_after P old new call t answered since now = elim (step_of old new call answered) [
  | inl same ↦ subst (λ h. (image : List ℕ) → LeftSince h t image → P image) (sym same) since
  | inr more ↦ subst (λ h. (image : List ℕ) → LeftSince h t image → P image) (sym more) (images_then P old new.now t since now)
]

kept_since_after : (old new : History) (call : Call) (t i byte : ℕ) → IsImage old.now old.now.bytes → IsAnswered old call new → Spares i call
    → IsKeptSince old t i byte → IsKeptSince new t i byte
kept_since_after old new call t i byte reads answered spare since =
    images_after (λ image. slice_get image i ≡ Some byte) old new call t answered since
    (kept_after old new call i byte reads answered spare (λ image left. since image (inl left)))

pub calls_keep_bytes : CallsKeepBytes
calls_keep_bytes old new [] t i byte reads answered spare since = subst (λ h. IsKeptSince h t i byte) (sym answered) since
calls_keep_bytes old new (call ∷ calls) t i byte reads answered spare since =
    calls_keep_bytes answered.0 new calls t i byte (reads_after old answered.0 call reads answered.1) answered.2
    (all_rest (Spares i) call calls spare) (kept_since_after old answered.0 call t i byte reads answered.1 (spare zero call (omega arith)) since)

-- ---- lengths

-- an image is as long as any length since the last sync
greatest_within : (s : State) (n : ℕ) → IsImage s s.bytes → IsWithin s n → s.greatest_length ≤ n
greatest_within s n reads within =
    let image = resized s.bytes s.greatest_length in
    let size = length-resized s.bytes s.greatest_length in
    let possible : IsImage s image = record {
      no_shorter = omega (arith, size, reads.no_shorter, reads.no_longer);
      no_longer = omega (arith, size);
      kept = λ i below outside.
          resized_below s.bytes s.greatest_length i (omega (arith, below, reads.no_shorter)) (omega (arith, below, reads.no_shorter, reads.no_longer));
    } in
    omega (arith, size, within image possible)

greatest_after : (old new : History) (call : Call) (n : ℕ) → IsImage old.now old.now.bytes → IsAnswered old call new → EndsWithin n call
    → old.now.greatest_length ≤ n → new.now.greatest_length ≤ n
greatest_after old new (length_given len) n reads answered ends le = rw answered.1 le
greatest_after old new length_fault n reads answered ends le = rw answered le
greatest_after old new (bytes_given at wanted bytes) n reads answered ends le = rw answered.1 le
greatest_after old new (read_fault at wanted) n reads answered ends le = rw answered le
greatest_after old new (bytes_written at []) n reads answered ends le = rw answered le
greatest_after old new (bytes_written at (byte ∷ bytes)) n reads answered ends le = rw answered (omega (arith, ends, le))
greatest_after old new (write_fault at []) n reads answered ends le = rw answered le
greatest_after old new (write_fault at (byte ∷ bytes)) n reads (inl same) ends le = rw same le
greatest_after old new (write_fault at (byte ∷ bytes)) n reads (inr torn) ends le = rw torn.2 (omega (arith, torn.1.greatest_length, ends, le))
greatest_after old new (length_set len) n reads answered ends le = rw answered (omega (arith, ends, le))
greatest_after old new (resize_fault len) n reads (inl same) ends le = rw same le
greatest_after old new (resize_fault len) n reads (inr torn) ends le = rw torn.2 (omega (arith, torn.1.greatest_length, ends, le))
greatest_after old new sync_made n reads answered ends le = rw answered (omega (arith, reads.no_longer, le))
greatest_after old new sync_fault n reads answered ends le = rw answered le

within_since_after : (old new : History) (call : Call) (t n : ℕ) → IsImage old.now old.now.bytes → IsAnswered old call new → EndsWithin n call
    → IsWithinSince old t n → IsWithinSince new t n
within_since_after old new call t n reads answered ends since =
    let greatest = greatest_within old.now n reads (λ image left. since image (inl left)) in
    images_after (λ image. length image ≤ n) old new call t answered since
    (λ image left. omega (arith, left.no_longer, greatest_after old new call n reads answered ends greatest))

pub calls_keep_lengths : CallsKeepLengths
calls_keep_lengths old new [] t n reads answered ends since = subst (λ h. IsWithinSince h t n) (sym answered) since
calls_keep_lengths old new (call ∷ calls) t n reads answered ends since =
    calls_keep_lengths answered.0 new calls t n (reads_after old answered.0 call reads answered.1) answered.2
    (all_rest (EndsWithin n) call calls ends) (within_since_after old answered.0 call t n reads answered.1 (ends zero call (omega arith)) since)
