-- Blocks that are read one after the other, each into its part of a buffer.
use Rattle.std.proofs.Common.{◌≡◌, ℕ, zero, suc, ◌+◌, ◌-◌, ◌*◌, ◌<◌, ◌≤◌, ◌↔◌, List, [], ◌∷◌, ◌++◌, map, length, take, drop, get_or, Option, None, Result, Ok, Err, IfOk, IfSome, refl, sym, ap, ◌∙◌, subst, arith, add-one}
use Rattle.std.proofs.Math.ListN.{set}
use Rattle.std.proofs.lemmas.List.{drop-take, take-take, get_or-set_other, get_or-set_same, map-append}
use Rattle.std.proofs.lemmas.Slice.{take-put_mid_below, between-put_mid}
use Rattle.std.specs.Result.{result_ok}
use borrow.Rule.Slice.PartMut.{put_mid}
use Rattle.bt_tree.specs.Blocks.{block_at, block_length}
use Rattle.bt_disk.specs.Limits.{count_after, one_more}
use Rattle.bt_disk.specs.Conduct.{Conduct}
use Rattle.bt_disk.specs.Calls.{bytes_given, read_fault, HasCalls, IsAnswered, read_call}
use Rattle.bt_disk.proofs.CallLists.{has_one, has_then, count_read}
use Rattle.bt_store.specs.BlockReads.{given, failed, call_of}
use Rattle.bt_store.specs.BatchesSteps.{read_of, batch_reads}

-- a part before the one that is written stays
part_kept : (a k : ℕ) (buffer out : List ℕ) (t : ℕ) → 16384 * t + 16384 ≤ a → a ≤ length buffer → block_at (put_mid a k buffer out) t ≡ block_at buffer t
part_kept a k buffer out t before inside =
    sym (drop-take (16384 * t) 16384 (put_mid a k buffer out)) ∙ ap (drop (16384 * t)) (take-put_mid_below a k buffer out (16384 * t + 16384) before inside)
    ∙ drop-take (16384 * t) 16384 buffer

-- the part that is written begins with what was given
part_written : (a k n t : ℕ) (buffer out : List ℕ) → a ≡ 16384 * t → a ≤ length buffer → n ≤ length out → length out ≤ 16384 → take n (block_at (put_mid a k buffer out) t) ≡ take n out
part_written a k n t buffer out place inside few small =
    let pasted = put_mid a k buffer out in
    let size : length out ≡ a + length out - a = omega arith in
    let written : take (length out) (drop a pasted) ≡ out = ap (λ m. take m (drop a pasted)) size ∙ between-put_mid a k buffer out (a + length out) inside size in
    take-take n 16384 (drop (16384 * t) pasted) (omega arith) ∙ ap (λ m. take n (drop m pasted)) (sym place) ∙ sym (take-take n (length out) (drop a pasted) few) ∙ ap (take n) written

-- the reads are those of equal counts and parts
reads_kept : (first : ℕ) (counts others : List (Option ℕ)) (buffer pasted : List ℕ) (j : ℕ) → ((t : ℕ) → t < j → get_or others t None ≡ get_or counts t None)
    → ((t : ℕ) → t < j → block_at pasted t ≡ block_at buffer t) → batch_reads first others pasted j ≡ batch_reads first counts buffer j
unfolding batch_reads
reads_kept first counts others buffer pasted zero same parts = refl
reads_kept first counts others buffer pasted (suc j) same parts =
    let here : read_of (first + j) (get_or others j None) (block_at pasted j) ≡ read_of (first + j) (get_or counts j None) (block_at buffer j) =
    ap (λ c. read_of (first + j) c (block_at pasted j)) (same j (omega arith)) ∙ ap (read_of (first + j) (get_or counts j None)) (parts j (omega arith)) in
    ap (λ xs. xs ++ read_of (first + j) (get_or others j None) (block_at pasted j) ∷ []) (reads_kept first counts others buffer pasted j (λ t lt. same t (omega arith)) (λ t lt. parts t (omega arith)))
    ∙ ap (λ x. batch_reads first counts buffer j ++ x ∷ []) here

pub reads_none : (first : ℕ) (counts : List (Option ℕ)) (buffer : List ℕ) → batch_reads first counts buffer 0 ≡ []
unfolding batch_reads
reads_none first counts buffer = refl

pub reads_more : (first : ℕ) (counts : List (Option ℕ)) (buffer : List ℕ) (j : ℕ)
    → batch_reads first counts buffer (suc j) ≡ batch_reads first counts buffer j ++ read_of (first + j) (get_or counts j None) (block_at buffer j) ∷ []
unfolding batch_reads
reads_more first counts buffer j = refl

-- the call that a read is
call_same : {E : Type 0} (n i : ℕ) (slot out : List ℕ) (r : Result ℕ E) → length out ≡ block_length n i → IfOk r (λ count. take count slot ≡ take count out)
    → call_of n (read_of i (result_ok r) slot) ≡ read_call (16384 * i) out r
call_same n i slot out (Ok count) size same =
    ap (λ l. bytes_given (16384 * i) l (take count slot)) (sym size) ∙ ap (bytes_given (16384 * i) (length out)) same
call_same n i slot out (Err e) size same = ap (read_fault (16384 * i)) (sym size)

written_by : {E : Type 0} (j k : ℕ) (buffer out : List ℕ) (r : Result ℕ E) → j * 16384 ≤ length buffer → length out ≤ 16384 → IfOk r (λ count. count ≤ length out)
    → IfOk r (λ count. take count (block_at (put_mid (j * 16384) k buffer out) j) ≡ take count out)
written_by j k buffer out (Ok count) inside small within = part_written (j * 16384) k count j buffer out (omega arith) inside within small
written_by j k buffer out (Err e) inside small within = within

-- one read more
pub run_next : {D E : Type 0} (conduct : Conduct D) (n first j k : ℕ) (a b c : D) (counts : List (Option ℕ)) (buffer out : List ℕ) (r : Result ℕ E)
    → HasCalls conduct a (map (call_of n) (batch_reads first counts buffer j)) b → j < length counts → j * 16384 ≤ length buffer
    → length out ≡ block_length n (first + j) → IfOk r (λ count. count ≤ length out)
    → conduct.faults c ≡ count_after (conduct.faults b) r → conduct.honest b ↔ conduct.honest c → (conduct.honest b → IsAnswered (conduct.history b) (read_call (16384 * (first + j)) out r) (conduct.history c))
    → HasCalls conduct a (map (call_of n) (batch_reads first (set counts j (result_ok r)) (put_mid (j * 16384) k buffer out) (j + 1))) c
run_next conduct n first j k a b c counts buffer out r made in_counts in_buffer size within counted as_honest answered =
    let call = read_call (16384 * (first + j)) out r in
    let after = set counts j (result_ok r) in
    let pasted = put_mid (j * 16384) k buffer out in
    let one : HasCalls conduct b (call ∷ []) c =
    has_one conduct b call c (counted ∙ count_read (conduct.faults b) (16384 * (first + j)) out r) as_honest answered in
    let both : HasCalls conduct a (map (call_of n) (batch_reads first counts buffer j) ++ call ∷ []) c = has_then conduct a b c _ _ made one in
    let kept : batch_reads first after pasted j ≡ batch_reads first counts buffer j =
    reads_kept first counts after buffer pasted j (λ t lt. get_or-set_other counts j t (result_ok r) None (λ e. absurd (omega arith)))
    (λ t lt. part_kept (j * 16384) k buffer out t (omega arith) in_buffer) in
    let here : get_or after j None ≡ result_ok r = get_or-set_same counts j (result_ok r) None in_counts in
    let same : call_of n (read_of (first + j) (get_or after j None) (block_at pasted j)) ≡ call =
    ap (λ count. call_of n (read_of (first + j) count (block_at pasted j))) here
    ∙ call_same n (first + j) (block_at pasted j) out r size (written_by j k buffer out r in_buffer (omega (arith, size)) within) in
    let all : map (call_of n) (batch_reads first after pasted (j + 1)) ≡ map (call_of n) (batch_reads first counts buffer j) ++ call ∷ [] =
    ap (λ m. map (call_of n) (batch_reads first after pasted m)) (add-one j) ∙ ap (map (call_of n)) (reads_more first after pasted j) ∙ map-append (call_of n) _ _
    ∙ ap (λ xs. map (call_of n) xs ++ call_of n (read_of (first + j) (get_or after j None) (block_at pasted j)) ∷ []) kept
    ∙ ap (λ x. map (call_of n) (batch_reads first counts buffer j) ++ x ∷ []) same in
    subst (λ xs. HasCalls conduct a xs c) (sym all) both

-- a part of the buffer, as code cuts it out
pub part_is : (j : ℕ) (buffer : List ℕ) → take (j * 16384 + 16384 - j * 16384) (drop (j * 16384) buffer) ≡ block_at buffer j
part_is j buffer =
    let size : j * 16384 + 16384 - j * 16384 ≡ 16384 = omega arith in
    let place : j * 16384 ≡ 16384 * j = omega arith in
    ap (λ m. take m (drop (j * 16384) buffer)) size ∙ ap (λ m. take 16384 (drop m buffer)) place

-- and as the front of a longer buffer has it
pub front_part : (j : ℕ) (buffer : List ℕ) → j < 8 → block_at (take 131072 buffer) j ≡ block_at buffer j
front_part j buffer few =
    sym (drop-take (16384 * j) 16384 (take 131072 buffer)) ∙ ap (drop (16384 * j)) (take-take (16384 * j + 16384) 131072 buffer (omega arith))
    ∙ drop-take (16384 * j) 16384 buffer

pub given_within : {E : Type 0} (n : ℕ) (out : List ℕ) (r : Result ℕ E) → length out ≡ n → IfOk r (λ count. count ≤ length out) → IfSome (result_ok r) (λ count. count ≤ n)
given_within n out (Ok count) size within = omega arith
given_within n out (Err e) size within = within

-- ---- one block alone

module _ {D : Type 0} (conduct : Conduct D) (n i : ℕ) (b c : D) (out : List ℕ) where
  pub one_given : (count : ℕ) → length out ≡ block_length n i → conduct.faults c ≡ conduct.faults b → conduct.honest b ↔ conduct.honest c
      → (conduct.honest b → IsAnswered (conduct.history b) (bytes_given (16384 * i) (length out) (take count out)) (conduct.history c))
      → HasCalls conduct b (call_of n (given i (take count out)) ∷ []) c
  one_given count size counted as_honest answered =
      has_one conduct b (call_of n (given i (take count out))) c counted as_honest
      (λ h. subst (λ l. IsAnswered (conduct.history b) (bytes_given (16384 * i) l (take count out)) (conduct.history c)) size (answered h))

  pub one_failed : length out ≡ block_length n i → conduct.faults c ≡ one_more (conduct.faults b) → conduct.honest b ↔ conduct.honest c
      → (conduct.honest b → IsAnswered (conduct.history b) (read_fault (16384 * i) (length out)) (conduct.history c)) → HasCalls conduct b (call_of n (failed i) ∷ []) c
  one_failed size counted as_honest answered =
      has_one conduct b (call_of n (failed i)) c counted as_honest
      (λ h. subst (λ l. IsAnswered (conduct.history b) (read_fault (16384 * i) l) (conduct.history c)) size (answered h))
