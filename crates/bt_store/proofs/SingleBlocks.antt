-- What one block comes to that is read, to be lent or to be found again.
use Rattle.std.proofs.Common.{◌≡◌, ℕ, ◌≤◌, inl, inr, Bool, true, false, cond, List, [], ◌∷◌, length, take, Some, Result, Ok, Err, true≢false, refl, sym, ap, ◌∙◌, subst, eq-eqb}
use Rattle.std.specs.Prelude.{nat_eq, slice_get, slice_set}
use Rattle.std.specs.Cmp.Lexicographic.{pointwise, other_text}
use Rattle.std.proofs.lemmas.Bool.{cases_Bool}
use Rattle.std.proofs.lemmas.List.{length-take-le}
use Rattle.bt_tree.specs.Blocks.{block_length}
use Rattle.bt_sparse.specs.SparseTree.{Facts, value_at}
use Rattle.bt_disk.specs.Conduct.{Conduct}
use Rattle.bt_disk.specs.Calls.{HasCalls}
use Rattle.bt_store.specs.FileStore.{StoreView}
use Rattle.bt_store.specs.BlockReads.{BlockRead, given, call_of, is_leaf, is_right, IsRight}
use Rattle.bt_store.specs.BatchesSteps.{found_of}
use Rattle.bt_store.specs.ReviewSteps.{verdict_of}
use Rattle.bt_store.specs.SingleBlock.{IsLost, IsLent, IsRestored, Lends, right as lent, damaged, fault as not_lent, Restores, right as restored, wrong as not_restored, fault as not_read}
use Rattle.bt_store.specs.SingleBlockSteps.{ComesTo, right, wrong, fault}
use Rattle.bt_store.specs.declared.block_states.BlockState.{BlockState}
use Rattle.bt_store.specs.declared.block_states.BlockState.TheVariants.{Missing, Marked}
use Rattle.bt_store.specs.declared.error.ReadError.{ReadError}
use Rattle.bt_store.specs.declared.error.StoreError.{StoreError}
use Rattle.bt_store.specs.declared.error.ReadError.TheVariants.{Damaged, Device as ReadDevice}
use Rattle.bt_store.specs.declared.error.StoreError.TheVariants.{Device}
use Rattle.bt_store.specs.declared.review.Verdict.TheVariants.{Right, Wrong, Fault}
use Rattle.bt_store.proofs.AdoptionMarks.{right_then}
use Rattle.bt_store.proofs.Judgements.{same_verdict}

same_leaf : (digest : List ℕ) → is_leaf (Some digest) digest ≡ true
same_leaf digest = elim (cases_Bool (pointwise nat_eq digest digest)) [ inl e ↦ e | inr e ↦ absurd (other_text digest digest (sym e) refl) ]

pub right_told : (dig : List ℕ → List ℕ) (k : Facts) (i : ℕ) (bytes : List ℕ) → IsRight dig k i bytes → is_right dig k i bytes ≡ true
right_told dig k i bytes r =
    rw (eq-eqb (length bytes) (block_length k.file_length i) r.whole) (ap (λ o. is_leaf o (dig bytes)) r.leaf ∙ same_leaf (dig bytes))

module _ (dig : List ℕ → List ℕ) (k : Facts) (i : ℕ) (out : List ℕ) where
  bytes_come : (bytes : List ℕ) (b : Bool) → (length bytes ≡ block_length k.file_length i → bytes ≡ take (block_length k.file_length i) out)
      → is_right dig k i bytes ≡ b → ComesTo dig k i out (given i bytes) (cond b Right Wrong)
  bytes_come bytes true front e =
      let r = right_then dig k i bytes e in
      let same = front r.whole in
      subst (λ x. ComesTo dig k i out (given i x) Right) (sym same) (right (subst (IsRight dig k i) same r))
  bytes_come bytes false front e = wrong bytes (λ r. absurd (true≢false (sym (right_told dig k i bytes r) ∙ e)))

  -- what was given of a block, with which `out` begins
  pub given_comes : (n : ℕ) (slot : List ℕ) → n ≤ length slot → take n out ≡ take n slot
      → ComesTo dig k i out (given i (take n slot)) (verdict_of (value_at dig k 0 i) (found_of dig k.file_length i (Some n) slot))
  given_comes n slot within front =
      let size : length (take n slot) ≡ n = length-take-le n slot within in
      subst (ComesTo dig k i out (given i (take n slot))) (same_verdict dig k i (Some n) slot within)
      (bytes_come (take n slot) (is_right dig k i (take n slot)) (λ whole. sym front ∙ ap (λ m. take m out) (sym size ∙ whole)) refl)

  pub lends_right : (n : ℕ) {read : BlockRead} {states : List BlockState} → n ≡ block_length k.file_length i → slice_get states i ≡ Some Marked
      → ComesTo dig k i out read Right → Lends dig k i out states (read ∷ []) (Ok n) states
  lends_right n {states = states} size marked (right r) =
      subst (λ m. Lends dig k i out states (given i (take m out) ∷ []) (Ok n) states) size
      (lent n marked size (subst (λ m. IsRight dig k i (take m out)) (sym size) r))

  pub lends_wrong : {read : BlockRead} {states : List BlockState} → slice_get states i ≡ Some Marked → ComesTo dig k i out read Wrong
      → Lends dig k i out states (read ∷ []) (Err Damaged) (slice_set states i Missing)
  lends_wrong marked (wrong bytes other) = damaged bytes marked other

  pub lends_none : {read : BlockRead} {states : List BlockState} → slice_get states i ≡ Some Marked → ComesTo dig k i out read Fault
      → Lends dig k i out states (read ∷ []) (Err ReadDevice) states
  lends_none marked fault = not_lent marked

  pub restores_right : {read : BlockRead} {states : List BlockState} → IsLost dig k i states → ComesTo dig k i out read Right
      → Restores dig k i states (read ∷ []) (Ok true) (slice_set states i Marked)
  restores_right lost (right r) = restored _ lost r

  pub restores_wrong : {read : BlockRead} {states : List BlockState} → IsLost dig k i states → ComesTo dig k i out read Wrong
      → Restores dig k i states (read ∷ []) (Ok false) states
  restores_wrong lost (wrong bytes other) = not_restored bytes lost other

  pub restores_none : {read : BlockRead} {states : List BlockState} → IsLost dig k i states → ComesTo dig k i out read Fault
      → Restores dig k i states (read ∷ []) (Err Device) states
  restores_none lost fault = not_read lost

moved : {D : Type 0} (conduct : Conduct D) (m n : ℕ) (a c b : D) (read : BlockRead) → a ≡ c → m ≡ n
    → HasCalls conduct a (call_of m read ∷ []) b → HasCalls conduct c (call_of n read ∷ []) b
moved conduct m n a c b read disk size made =
    subst (λ d. HasCalls conduct d (call_of n read ∷ []) b) disk (subst (λ l. HasCalls conduct a (call_of l read ∷ []) b) size made)

-- with the read's call of the device, in a store that is seen so
module _ {D : Type 0} (conduct : Conduct D) (dig : List ℕ → List ℕ) (k : Facts) (i : ℕ) {n : ℕ} {a b : D}
    {old new after : List BlockState} {s : StoreView D} {read : BlockRead} (view : record { file_length = n; disk = a; states = old } ≡ s)
    (same : k.file_length ≡ s.file_length) (made : HasCalls conduct a (call_of k.file_length read ∷ []) b) (states : after ≡ new) where
  pub is_lent : {out : List ℕ} {answer : Result ℕ ReadError} → Lends dig k i out s.states (read ∷ []) answer new
      → (reads : List BlockRead) × IsLent conduct dig k i out s reads answer (record { file_length = n; disk = b; states = after })
  is_lent lends = (read ∷ [], record { calls = moved conduct k.file_length s.file_length a s.disk b read (ap (λ (t : StoreView D). t.disk) view) same made; answer = rw states lends; same_file = ap (λ (t : StoreView D). t.file_length) view })

  pub is_restored : {answer : Result Bool StoreError} → Restores dig k i s.states (read ∷ []) answer new
      → (reads : List BlockRead) × IsRestored conduct dig k i s reads answer (record { file_length = n; disk = b; states = after })
  is_restored restores = (read ∷ [], record { calls = moved conduct k.file_length s.file_length a s.disk b read (ap (λ (t : StoreView D). t.disk) view) same made; answer = rw states restores; same_file = ap (λ (t : StoreView D). t.file_length) view })
