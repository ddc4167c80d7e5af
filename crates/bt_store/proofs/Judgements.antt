-- What reads make of the states of blocks, read by read.
use Rattle.std.proofs.Common.{◌≡◌, ℕ, zero, suc, ◌+◌, ◌*◌, ◌<◌, ◌≤◌, Bool, true, false, not, ◌&&◌, cond, List, [], ◌∷◌, ◌++◌, map, length, take, drop, get_or, Option, Some, None, IfSome, refl, sym, ap, ◌∙◌, subst, arith, add-one}
use Rattle.std.specs.Prelude.{slice_set, nat_eq}
use Rattle.std.specs.List.{range_with_len}
use Rattle.std.proofs.Math.ListN.{length-set}
use Rattle.std.proofs.lemmas.List.{map-append, length-take-le, length-take, length-drop}
use Rattle.std.proofs.lemmas.Option.{IfSome_then}
use Rattle.std.proofs.lemmas.List.Sums.{sum_by_push}
use Rattle.bt_tree.specs.Blocks.{block_length, block_at}
use Rattle.bt_sparse.specs.SparseTree.{Facts, value_at}
use Rattle.bt_store.specs.BlockReads.{BlockRead, given, failed, block_of, is_leaf, is_right, is_right_read, is_wrong_read, is_fault, after_read, judged}
use Rattle.bt_store.specs.BatchesSteps.{read_of, batch_reads, found_of}
use Rattle.bt_store.specs.ReviewSteps.{verdict_of, verdict_at, after_verdict, judged_found, no_reads, added, tally_of, tally_sum, IsTallyOf}
use Rattle.bt_store.proofs.BatchReads.{reads_none, reads_more}
use Rattle.bt_store.specs.declared.block_states.BlockState.{BlockState}
use Rattle.bt_store.specs.declared.block_states.BlockState.TheVariants.{Missing, Marked}
use Rattle.bt_store.specs.declared.batches.BlockFound.{BlockFound}
use Rattle.bt_store.specs.declared.batches.BlockFound.TheVariants.{Whole, Short, Failed}
use Rattle.bt_store.specs.declared.review.Verdict.{Verdict}
use Rattle.bt_store.specs.declared.review.Verdict.TheVariants.{Right, Wrong, Fault}
use Rattle.bt_store.specs.declared.review.Tally.{Tally}

pub length-after_verdict : (forgiving : Bool) (i : ℕ) (v : Verdict) (states : List BlockState) → length (after_verdict forgiving i v states) ≡ length states
length-after_verdict forgiving i Right states = length-set states i Marked
length-after_verdict forgiving i Wrong states = length-set states i Missing
length-after_verdict true i Fault states = refl
length-after_verdict false i Fault states = length-set states i Missing

pub sum_added : (v : Verdict) (tally : Tally) → tally_sum (added v tally) ≡ tally_sum tally + 1
sum_added Right tally = omega arith
sum_added Wrong tally = omega arith
sum_added Fault tally = omega arith

module _ (dig : List ℕ → List ℕ) (k : Facts) (first : ℕ) (blocks_found : List BlockFound) where
  pub judged_none : (forgiving : Bool) (states : List BlockState) → states ≡ judged_found dig k forgiving first blocks_found 0 states
  unfolding judged_found
  judged_none forgiving states = refl

  pub judged_next : (forgiving : Bool) (j : ℕ) (states : List BlockState) → judged_found dig k forgiving first blocks_found (j + 1) states
      ≡ after_verdict forgiving (first + j) (verdict_at dig k first blocks_found j) (judged_found dig k forgiving first blocks_found j states)
  unfolding judged_found
  judged_next forgiving j states = rw (add-one j) refl

  pub tally_none : no_reads ≡ tally_of dig k first blocks_found 0
  unfolding tally_of
  tally_none = refl

  pub tally_next : (j : ℕ) → tally_of dig k first blocks_found (j + 1) ≡ added (verdict_at dig k first blocks_found j) (tally_of dig k first blocks_found j)
  unfolding tally_of
  tally_next j = rw (add-one j) refl

-- ---- a read and what it found

abbrev pub verdict_of_read : (List ℕ → List ℕ) → Facts → BlockRead → Verdict
verdict_of_read dig k (given i bytes) = cond (is_right dig k i bytes) Right Wrong
verdict_of_read dig k (failed i) = Fault

chosen_state : (b forgiving : Bool) (i : ℕ) (states : List BlockState) → slice_set states i (cond b Marked Missing) ≡ after_verdict forgiving i (cond b Right Wrong) states
chosen_state true forgiving i states = refl
chosen_state false forgiving i states = refl

after_read-verdict : (dig : List ℕ → List ℕ) (k : Facts) (forgiving : Bool) (read : BlockRead) (states : List BlockState)
    → after_read dig k forgiving read states ≡ after_verdict forgiving (block_of read) (verdict_of_read dig k read) states
after_read-verdict dig k forgiving (given i bytes) states = chosen_state (is_right dig k i bytes) forgiving i states
after_read-verdict dig k forgiving (failed i) states = refl

by_length : (b leaf : Bool) (digest : List ℕ) (known : Option (List ℕ)) → leaf ≡ is_leaf known digest → cond (b && leaf) Right Wrong ≡ verdict_of known (cond b (Whole digest) Short)
by_length true leaf digest known e = ap (λ x. cond x Right Wrong) e
by_length false leaf digest known e = refl

-- what was found of a slot comes to what its read comes to
pub same_verdict : (dig : List ℕ → List ℕ) (k : Facts) (i : ℕ) (count : Option ℕ) (slot : List ℕ) → IfSome count (λ n. n ≤ length slot)
    → verdict_of_read dig k (read_of i count slot) ≡ verdict_of (value_at dig k 0 i) (found_of dig k.file_length i count slot)
same_verdict dig k i None slot within = refl
same_verdict dig k i (Some n) slot within =
    let size : length (take n slot) ≡ n = length-take-le n slot within in
    let bytes = take n slot in
    ap (λ m. cond (nat_eq m (block_length k.file_length i) && is_leaf (value_at dig k 0 i) (dig bytes)) Right Wrong) size
    ∙ by_length (nat_eq n (block_length k.file_length i)) (is_leaf (value_at dig k 0 i) (dig bytes)) (dig bytes) (value_at dig k 0 i) refl

block_of-read_of : (i : ℕ) (count : Option ℕ) (slot : List ℕ) → block_of (read_of i count slot) ≡ i
block_of-read_of i None slot = refl
block_of-read_of i (Some n) slot = refl

-- ---- several reads

pub judged-append : (dig : List ℕ → List ℕ) (k : Facts) (forgiving : Bool) (xs ys : List BlockRead) (states : List BlockState)
    → judged dig k forgiving (xs ++ ys) states ≡ judged dig k forgiving ys (judged dig k forgiving xs states)
judged-append dig k forgiving [] ys states = refl
judged-append dig k forgiving (x ∷ xs) ys states = judged-append dig k forgiving xs ys (after_read dig k forgiving x states)

pub range_more : (a n : ℕ) → range_with_len a (suc n) ≡ range_with_len a n ++ (a + n) ∷ []
range_more a zero = ap (λ x. x ∷ []) (omega arith)
range_more a (suc n) =
    let place : a + 1 + n ≡ a + suc n = omega arith in
    ap (λ xs. a ∷ xs) (range_more (a + 1) n ∙ ap (λ x. range_with_len (a + 1) n ++ x ∷ []) place)

pub blocks_of_batch : (first : ℕ) (counts : List (Option ℕ)) (buffer : List ℕ) (j : ℕ) → map block_of (batch_reads first counts buffer j) ≡ range_with_len first j
blocks_of_batch first counts buffer zero = ap (map block_of) (reads_none first counts buffer)
blocks_of_batch first counts buffer (suc j) =
    let read = read_of (first + j) (get_or counts j None) (block_at buffer j) in
    ap (map block_of) (reads_more first counts buffer j) ∙ map-append block_of (batch_reads first counts buffer j) (read ∷ [])
    ∙ ap (λ xs. xs ++ block_of read ∷ []) (blocks_of_batch first counts buffer j)
    ∙ ap (λ x. range_with_len first j ++ x ∷ []) (block_of-read_of (first + j) (get_or counts j None) (block_at buffer j)) ∙ sym (range_more first j)

added_right : (b : Bool) (tally : Tally) → (added (cond b Right Wrong) tally).right ≡ tally.right + cond b 1 0
added_right true tally = refl
added_right false tally = omega arith

added_wrong : (b : Bool) (tally : Tally) → (added (cond b Right Wrong) tally).wrong ≡ tally.wrong + cond (not b) 1 0
added_wrong true tally = omega arith
added_wrong false tally = refl

added_faults : (b : Bool) (tally : Tally) → (added (cond b Right Wrong) tally).faults ≡ tally.faults + 0
added_faults true tally = omega arith
added_faults false tally = omega arith

-- the tally of one read more
tally_more : (dig : List ℕ → List ℕ) (k : Facts) (reads : List BlockRead) (read : BlockRead) (tally : Tally) → IsTallyOf dig k reads tally
    → IsTallyOf dig k (reads ++ read ∷ []) (added (verdict_of_read dig k read) tally)
tally_more dig k reads (given i bytes) tally before =
    let b = is_right dig k i bytes in
    record {
      right = added_right b tally ∙ ap (λ n. n + cond b 1 0) before.right ∙ sym (sum_by_push (λ x. cond (is_right_read dig k x) 1 0) reads (given i bytes));
      wrong = added_wrong b tally ∙ ap (λ n. n + cond (not b) 1 0) before.wrong ∙ sym (sum_by_push (λ x. cond (is_wrong_read dig k x) 1 0) reads (given i bytes));
      faults = added_faults b tally ∙ ap (λ n. n + 0) before.faults ∙ sym (sum_by_push (λ x. cond (is_fault x) 1 0) reads (given i bytes));
    }
tally_more dig k reads (failed i) tally before =
    record {
      right = omega (arith, before.right, sum_by_push (λ x. cond (is_right_read dig k x) 1 0) reads (failed i));
      wrong = omega (arith, before.wrong, sum_by_push (λ x. cond (is_wrong_read dig k x) 1 0) reads (failed i));
      faults = omega (arith, before.faults, sum_by_push (λ x. cond (is_fault x) 1 0) reads (failed i));
    }

-- each read gave at most its part of the buffer
abbrev pub IsWithinParts : List (Option ℕ) → List ℕ → ℕ → Type 0
IsWithinParts counts buffer j = (t : ℕ) → t < j → IfSome (get_or counts t None) (λ n. n ≤ length (block_at buffer t))

-- these were found of the blocks from the first on
abbrev pub AreFound : (List ℕ → List ℕ) → ℕ → ℕ → List (Option ℕ) → List ℕ → List BlockFound → ℕ → Type 0
AreFound dig n first counts buffer blocks_found j =
    (t : ℕ) → t < j → get_or blocks_found t Failed ≡ found_of dig n (first + t) (get_or counts t None) (block_at buffer t)

module _ (dig : List ℕ → List ℕ) (k : Facts) (first : ℕ) (counts : List (Option ℕ)) (buffer : List ℕ) (blocks_found : List BlockFound) where
  read_verdict : (j : ℕ) → IfSome (get_or counts j None) (λ n. n ≤ length (block_at buffer j))
      → get_or blocks_found j Failed ≡ found_of dig k.file_length (first + j) (get_or counts j None) (block_at buffer j)
      → verdict_of_read dig k (read_of (first + j) (get_or counts j None) (block_at buffer j)) ≡ verdict_at dig k first blocks_found j
  read_verdict j within found =
      same_verdict dig k (first + j) (get_or counts j None) (block_at buffer j) within ∙ ap (verdict_of (value_at dig k 0 (first + j))) (sym found)

  pub batch_judged : (forgiving : Bool) (states : List BlockState) (j : ℕ) → IsWithinParts counts buffer j → AreFound dig k.file_length first counts buffer blocks_found j
      → judged dig k forgiving (batch_reads first counts buffer j) states ≡ judged_found dig k forgiving first blocks_found j states
  batch_judged forgiving states zero within found = ap (λ reads. judged dig k forgiving reads states) (reads_none first counts buffer) ∙ judged_none dig k first blocks_found forgiving states
  batch_judged forgiving states (suc j) within found =
      let read = read_of (first + j) (get_or counts j None) (block_at buffer j) in
      let reads = batch_reads first counts buffer j in
      let verdict = read_verdict j (within j (omega arith)) (found j (omega arith)) in
      let place : block_of read ≡ first + j = block_of-read_of (first + j) (get_or counts j None) (block_at buffer j) in
      let before = batch_judged forgiving states j (λ t lt. within t (omega arith)) (λ t lt. found t (omega arith)) in
      ap (λ xs. judged dig k forgiving xs states) (reads_more first counts buffer j) ∙ judged-append dig k forgiving reads (read ∷ []) states
      ∙ after_read-verdict dig k forgiving read (judged dig k forgiving reads states)
      ∙ ap (λ i. after_verdict forgiving i (verdict_of_read dig k read) (judged dig k forgiving reads states)) place
      ∙ ap (λ v. after_verdict forgiving (first + j) v (judged dig k forgiving reads states)) verdict
      ∙ ap (after_verdict forgiving (first + j) (verdict_at dig k first blocks_found j)) before
      ∙ sym (judged_next dig k first blocks_found forgiving j states) ∙ ap (λ m. judged_found dig k forgiving first blocks_found m states) (add-one j)

  pub batch_tally : (j : ℕ) → IsWithinParts counts buffer j → AreFound dig k.file_length first counts buffer blocks_found j
      → IsTallyOf dig k (batch_reads first counts buffer j) (tally_of dig k first blocks_found j)
  batch_tally zero within found =
      subst (λ reads. IsTallyOf dig k reads (tally_of dig k first blocks_found 0)) (sym (reads_none first counts buffer))
      (subst (IsTallyOf dig k []) (tally_none dig k first blocks_found) (record { right = refl; wrong = refl; faults = refl }))
  batch_tally (suc j) within found =
      let read = read_of (first + j) (get_or counts j None) (block_at buffer j) in
      let verdict = read_verdict j (within j (omega arith)) (found j (omega arith)) in
      let before = batch_tally j (λ t lt. within t (omega arith)) (λ t lt. found t (omega arith)) in
      let next : added (verdict_of_read dig k read) (tally_of dig k first blocks_found j) ≡ tally_of dig k first blocks_found (suc j) =
      ap (λ v. added v (tally_of dig k first blocks_found j)) verdict ∙ sym (tally_next dig k first blocks_found j) ∙ ap (tally_of dig k first blocks_found) (add-one j) in
      subst (λ reads. IsTallyOf dig k reads (tally_of dig k first blocks_found (suc j))) (sym (reads_more first counts buffer j))
      (subst (IsTallyOf dig k (batch_reads first counts buffer j ++ read ∷ [])) next (tally_more dig k (batch_reads first counts buffer j) read (tally_of dig k first blocks_found j) before))

-- a part of the buffer is full
part_size : (buffer : List ℕ) (j : ℕ) → j * 16384 + 16384 ≤ length buffer → length (block_at buffer j) ≡ 16384
part_size buffer j size =
    omega (arith, length-take 16384 (drop (16384 * j) buffer), length-drop (16384 * j) buffer)

pub within_parts : (n first count : ℕ) (counts : List (Option ℕ)) (buffer : List ℕ) → count * 16384 ≤ length buffer
    → ((t : ℕ) → t < count → IfSome (get_or counts t None) (λ m. m ≤ block_length n (first + t))) → IsWithinParts counts buffer count
within_parts n first count counts buffer size within t lt =
    IfSome_then (get_or counts t None) (within t lt) (λ m le. omega (arith, part_size buffer t (omega (arith, size, lt))))
