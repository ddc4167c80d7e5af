-- What is marked where a group is taken in, and what becomes of its tree.
use Rattle.std.proofs.Common.{◌≡◌, ℕ, zero, suc, ◌+◌, ◌-◌, ◌*◌, ◌/◌, ◌%◌, ◌^◌, ◌<◌, ◌⊎◌, inl, inr, Bool, true, false, cond, List, [], ◌∷◌, ◌++◌, map, length, replicate, get_or, Option, Some, None, refl, sym, ap, ◌∙◌, subst, arith, length-append, eq-eqb}
use Rattle.std.specs.Prelude.{slice_get, slice_set, Contains, ◌&&◌, ◌==◌}
use Rattle.std.specs.List.{count_by}
use Rattle.std.specs.Cmp.Lexicographic.{same_text}
use Rattle.std.proofs.Math.Nat.{div-add-mod}
use Rattle.std.proofs.lemmas.Nat.{div-mul-add}
use Rattle.std.proofs.lemmas.Bool.{eqb-true}
use Rattle.std.proofs.lemmas.List.{get_or-map, get_or_append_left, get_or_default, length-map}
use Rattle.std.proofs.lemmas.List.FromFn.{get_or-range_with_len, length-range_with_len}
use Rattle.std.proofs.lemmas.List.Sums.{count_by-le-length, sum_by-cons}
use Rattle.bt_tree.specs.Blocks.{block_length}
use Rattle.bt_tree.specs.Tree.{padding_digest}
use Rattle.bt_tree.specs.Peaks.{row_node}
use Rattle.bt_sparse.specs.SparseTree.{Facts, height, value_at}
use Rattle.bt_sparse.specs.Claim.{Claims, in_run, run_height, HasShape}
use Rattle.bt_sparse.specs.Acceptance.{Accepts}
use Rattle.bt_sparse.specs.declared.claim.Claim.{Claim}
use Rattle.bt_sparse.proofs.Joins.{value_kept, claimed_value, keeps_rooted}
use Rattle.bt_store.specs.BlockReads.{BlockRead, given, failed, block_of, is_leaf, is_right, IsRight, judged}
use Rattle.bt_store.specs.Adoption.{AreWhole, is_whole, claimed_digest, claim_of_reads, marked_group, Adopts, none, known, accepted, refused, short, unread}
use Rattle.bt_store.specs.Law.{IsReadRight, Extends}
use Rattle.bt_store.specs.declared.block_states.BlockState.{BlockState}
use Rattle.bt_store.specs.declared.block_states.BlockState.TheVariants.{Missing, Marked}
use Rattle.bt_store.specs.declared.adoption.Adopted.{Adopted}

-- ---- lists

same_some : {X : Type 0} (x y : X) → Some x ≡ Some y → x ≡ y
same_some x y e = cc

-- what stands there is the one that was set, or stood there before
set_cases : {X : Type 0} (xs : List X) (i j : ℕ) (x y : X) → slice_get (slice_set xs i x) j ≡ Some y → ((j ≡ i) × (y ≡ x)) ⊎ (slice_get xs j ≡ Some y)
set_cases [] i j x y e = inr e
set_cases (z ∷ xs) zero zero x y e = inl (refl, same_some y x (sym e))
set_cases (z ∷ xs) zero (suc j) x y e = inr e
set_cases (z ∷ xs) (suc i) zero x y e = inr e
set_cases (z ∷ xs) (suc i) (suc j) x y e = elim (set_cases xs i j x y e) [ inl s ↦ inl (ap (λ n. suc n) s.0, s.1) | inr s ↦ inr s ]

both_true : (a b : Bool) → (a && b) ≡ true → (a ≡ true) × (b ≡ true)
both_true true b e = (refl, e)
both_true false b e = absurd cc

-- ---- blocks that are judged one by one

leaf_then : (o : Option (List ℕ)) (d : List ℕ) → is_leaf o d ≡ true → o ≡ Some d
leaf_then None d e = absurd cc
leaf_then (Some x) d e = ap (λ y. Some y) (same_text x d (sym e))

pub right_then : (dig : List ℕ → List ℕ) (k : Facts) (i : ℕ) (bytes : List ℕ) → is_right dig k i bytes ≡ true → IsRight dig k i bytes
right_then dig k i bytes e =
    let both = both_true (length bytes == block_length k.file_length i) (is_leaf (value_at dig k 0 i) (dig bytes)) e in
    record { whole = eqb-true (length bytes) (block_length k.file_length i) both.0; leaf = leaf_then (value_at dig k 0 i) (dig bytes) both.1 }

marked_true : (b : Bool) → Marked ≡ cond b Marked Missing → b ≡ true
marked_true true e = refl
marked_true false e = absurd cc

later_read : (dig : List ℕ → List ℕ) (k : Facts) (read : BlockRead) (reads : List BlockRead) (i : ℕ) → IsReadRight dig k reads i → IsReadRight dig k (read ∷ reads) i
later_read dig k read reads i g = record { bytes = g.bytes; gives = (suc g.gives.0, omega (arith, g.gives.1), g.gives.2); right = g.right }

missing_marks : (states : List BlockState) (b i : ℕ) → slice_get (slice_set states b Missing) i ≡ Some Marked → slice_get states i ≡ Some Marked
missing_marks states b i e = elim (set_cases states b i Missing Marked e) [ inl wrong ↦ (let no : Marked ≡ Missing = wrong.1 in absurd cc) | inr old ↦ old ]

forgiven_marks : (forgiving : Bool) (states : List BlockState) (b i : ℕ) → slice_get (cond forgiving states (slice_set states b Missing)) i ≡ Some Marked → slice_get states i ≡ Some Marked
forgiven_marks true states b i e = e
forgiven_marks false states b i e = missing_marks states b i e

judged_marks : (dig : List ℕ → List ℕ) (k : Facts) (forgiving : Bool) (reads : List BlockRead) (states : List BlockState) (i : ℕ)
    → slice_get (judged dig k forgiving reads states) i ≡ Some Marked → (slice_get states i ≡ Some Marked) ⊎ IsReadRight dig k reads i
judged_marks dig k forgiving [] states i e = inl e
judged_marks dig k forgiving (given b bytes ∷ reads) states i e = elim (judged_marks dig k forgiving reads _ i e) [
  | inl now ↦ elim (set_cases states b i (cond (is_right dig k b bytes) Marked Missing) Marked now) [
    | inl one ↦
        let right : is_right dig k b bytes ≡ true = marked_true (is_right dig k b bytes) one.1 in
        inr (record {
          bytes = bytes;
          gives = (0, omega arith, ap (λ j. given j bytes) (sym one.0));
          right = right_then dig k i bytes (ap (λ j. is_right dig k j bytes) one.0 ∙ right);
        })
    | inr old ↦ inl old
  ]
  | inr later ↦ inr (later_read dig k (given b bytes) reads i later)
]
judged_marks dig k forgiving (failed b ∷ reads) states i e = elim (judged_marks dig k forgiving reads _ i e) [
  | inl now ↦ inl (forgiven_marks forgiving states b i now)
  | inr later ↦ inr (later_read dig k (failed b) reads i later)
]

-- ---- blocks that are claimed together

marked_cases : (first count : ℕ) (states : List BlockState) (i : ℕ) → slice_get (marked_group first count states) i ≡ Some Marked
    → (slice_get states i ≡ Some Marked) ⊎ ((j : ℕ) × (j < count) × (i ≡ first + j))
unfolding marked_group
marked_cases first zero states i e = inl e
marked_cases first (suc count) states i e = elim (set_cases (marked_group first count states) (first + count) i Marked Marked e) [
  | inl here ↦ inr (count, omega arith, here.0)
  | inr before ↦ elim (marked_cases first count states i before) [
    | inl old ↦ inl old
    | inr one ↦ inr (one.0, omega (arith, one.1), one.2)
  ]
]

abbrev one_if : Bool → ℕ
one_if b = cond b 1 0

-- where as many reads are whole as there are, each is
each_whole : (n : ℕ) (reads : List BlockRead) → count_by (is_whole n) reads ≡ length reads → (j : ℕ) → j < length reads → is_whole n (get_or reads j (failed 0)) ≡ true
each_whole n [] all j lt = absurd (omega arith)
each_whole n (read ∷ reads) all j lt = by (is_whole n read) refl (each_whole n reads) j lt
  where
    more : count_by (is_whole n) (read ∷ reads) ≡ one_if (is_whole n read) + count_by (is_whole n) reads
    more = sum_by-cons (λ x. one_if (is_whole n x)) read reads

    by : (b : Bool) → is_whole n read ≡ b → (count_by (is_whole n) reads ≡ length reads → (j : ℕ) → j < length reads → is_whole n (get_or reads j (failed 0)) ≡ true)
        → (j : ℕ) → j < length (read ∷ reads) → is_whole n (get_or (read ∷ reads) j (failed 0)) ≡ true
    by true e rest zero lt = e
    by true e rest (suc j) lt = rest (omega (arith, all, more, ap one_if e)) j (omega (arith, lt))
    by false e rest j lt = absurd (omega (arith, all, more, ap one_if e, count_by-le-length (is_whole n) reads))

whole_read : (n : ℕ) (read : BlockRead) → is_whole n read ≡ true → (bytes : List ℕ) × (read ≡ given (block_of read) bytes) × (length bytes ≡ block_length n (block_of read))
whole_read n (given i bytes) e = (bytes, refl, eqb-true (length bytes) (block_length n i) e)
whole_read n (failed i) e = absurd cc

-- the read of the group's block this many places on gave it whole
pub record IsWholeAt (n first : ℕ) (reads : List BlockRead) (j : ℕ) : Type 0 where
  pub bytes : List ℕ
  pub read : get_or reads j (failed 0) ≡ given (first + j) bytes
  pub size : length bytes ≡ block_length n (first + j)

reads_count : (n first count : ℕ) (reads : List BlockRead) → AreWhole n first count reads → length reads ≡ count
reads_count n first count reads whole = sym (length-map reads block_of) ∙ ap length whole.blocks ∙ length-range_with_len first count

whole_at : (n first count : ℕ) (reads : List BlockRead) → AreWhole n first count reads → (j : ℕ) → j < count → IsWholeAt n first reads j
whole_at n first count reads whole j lt =
    let size : length reads ≡ count = reads_count n first count reads whole in
    let read = get_or reads j (failed 0) in
    let inside : j < length reads = omega (arith, size, lt) in
    let place : block_of read ≡ first + j =
    sym (get_or-map block_of reads j (failed 0) 0 inside) ∙ ap (λ l. get_or l j 0) whole.blocks ∙ get_or-range_with_len first count j 0 lt in
    let w = whole_read n read (each_whole n reads (whole.whole ∙ sym size) j inside) in
    record { bytes = w.0; read = w.1 ∙ ap (λ i. given i w.0) place; size = w.2 ∙ ap (block_length n) place }

whole_digest : (dig : List ℕ → List ℕ) (n i : ℕ) (bytes : List ℕ) → length bytes ≡ block_length n i → claimed_digest dig n (given i bytes) ≡ dig bytes
whole_digest dig n i bytes size = ap (λ b. cond b (dig bytes) (padding_digest dig 0)) (eq-eqb (length bytes) (block_length n i) size)

-- a claim of leaves says its run's digests of them
leaf_claimed : (dig : List ℕ → List ℕ) (h : ℕ) (c : Claim) (j : ℕ) → c.base ≡ 0 → HasShape h c → j < length c.run → Claims dig c 0 (c.index + j) (get_or c.run j [])
unfolding row_node
leaf_claimed dig h c j base shape within =
    let all : run_height c - 0 ≡ run_height c = omega arith in
    let width : length c.run ≡ 2 ^ run_height c = shape.power in
    let aligned : c.index % 2 ^ run_height c ≡ 0 = ap (λ m. c.index % m) (sym width) ∙ shape.aligned in
    let split : 2 ^ run_height c * (c.index / 2 ^ run_height c) + c.index % 2 ^ run_height c ≡ c.index = div-add-mod c.index (2 ^ run_height c) in
    let place : c.index + j ≡ c.index / 2 ^ run_height c * 2 ^ run_height c + j = omega (arith, split, aligned) in
    let back : c.index + j - c.index ≡ j = omega arith in
    in_run record {
      above = 0;
      here = omega (arith, base);
      low = omega arith;
      under = ap (λ m. (c.index + j) / 2 ^ m) all ∙ ap (λ i. i / 2 ^ run_height c) place ∙ div-mul-add (c.index / 2 ^ run_height c) (2 ^ run_height c) j (omega (arith, within, width));
      digest = ap (λ m. get_or c.run m []) (sym back);
    }

module _ (dig : List ℕ → List ℕ) (k grown : Facts) (anchor first count : ℕ) (reads : List BlockRead) where
  -- the bytes of each block of the group are right
  right_at : AreWhole k.file_length first count reads → Accepts dig k (claim_of_reads dig k.file_length anchor first reads) grown
      → (j : ℕ) → j < count → (w : IsWholeAt k.file_length first reads j) → IsRight dig grown (first + j) w.bytes
  right_at whole accepts j lt w =
      let n = k.file_length in
      let c = claim_of_reads dig n anchor first reads in
      let digests = map (claimed_digest dig n) reads in
      let rest = replicate (2 ^ anchor - length reads) (padding_digest dig 0) in
      let size : length digests ≡ count = length-map reads (claimed_digest dig n) ∙ reads_count n first count reads whole in
      let within : j < length reads = omega (arith, reads_count n first count reads whole, lt) in
      let digest : get_or (digests ++ rest) j [] ≡ dig w.bytes =
      get_or_append_left digests rest [] j (omega (arith, size, lt)) ∙ get_or-map (claimed_digest dig n) reads j (failed 0) [] within
      ∙ ap (claimed_digest dig n) w.read ∙ whole_digest dig n (first + j) w.bytes w.size in
      let claim : Claims dig c 0 (first + j) (get_or (digests ++ rest) j []) =
      leaf_claimed dig (height k) c j refl accepts.conditions.shape (omega (arith, length-append digests rest, size, lt)) in
      record {
        whole = w.size ∙ ap (λ m. block_length m (first + j)) (sym accepts.joins.file_length);
        leaf = claimed_value dig k grown c 0 (first + j) (dig w.bytes) accepts (subst (Claims dig c 0 (first + j)) digest claim);
      }

same_bytes : (i j : ℕ) (xs ys : List ℕ) → given i xs ≡ given j ys → (i ≡ j) × (xs ≡ ys)
same_bytes i j xs ys e = (cc, cc)

pub accepted_reads : (dig : List ℕ → List ℕ) (k grown : Facts) (anchor first count : ℕ) (reads : List BlockRead)
    → AreWhole k.file_length first count reads → Accepts dig k (claim_of_reads dig k.file_length anchor first reads) grown
    → (i : ℕ) (bytes : List ℕ) → Contains reads (given i bytes) → IsRight dig grown i bytes
accepted_reads dig k grown anchor first count reads whole accepts i bytes (j, lt, here) =
    let below : j < count = omega (arith, reads_count k.file_length first count reads whole, lt) in
    let w = whole_at k.file_length first count reads whole j below in
    let same = same_bytes i (first + j) bytes w.bytes (sym here ∙ get_or_default reads j (given i bytes) (failed 0) lt ∙ w.read) in
    subst (λ b. IsRight dig grown i b) (sym same.1) (subst (λ m. IsRight dig grown m w.bytes) (sym same.0) (right_at dig k grown anchor first count reads whole accepts j below w))

accepted_marks : (dig : List ℕ → List ℕ) (k grown : Facts) (anchor first count : ℕ) (reads : List BlockRead)
    → AreWhole k.file_length first count reads → Accepts dig k (claim_of_reads dig k.file_length anchor first reads) grown
    → (j : ℕ) → j < count → IsReadRight dig grown reads (first + j)
accepted_marks dig k grown anchor first count reads whole accepts j lt =
    let w = whole_at k.file_length first count reads whole j lt in
    let within : j < length reads = omega (arith, reads_count k.file_length first count reads whole, lt) in
    record {
      bytes = w.bytes;
      gives = (j, within, get_or_default reads j (given (first + j) w.bytes) (failed 0) within ∙ w.read);
      right = right_at dig k grown anchor first count reads whole accepts j lt w;
    }

-- ---- a group

pub adopt_marks : (dig : List ℕ → List ℕ) (k grown : Facts) (from : ℕ) (old new : List BlockState) (reads : List BlockRead) (adopted : Adopted)
    → Adopts dig k from old reads adopted grown new → (i : ℕ) → slice_get new i ≡ Some Marked → (slice_get old i ≡ Some Marked) ⊎ IsReadRight dig grown reads i
adopt_marks dig k grown from old new reads adopted (none end) i e = inl e
adopt_marks dig k grown from old new reads adopted (known count rs group order) i e = judged_marks dig k true rs old i e
adopt_marks dig k grown from old new reads adopted (accepted anchor first count rs g group whole accepts) i e = elim (marked_cases first count old i e) [
  | inl before ↦ inl before
  | inr one ↦ inr (subst (IsReadRight dig g rs) (sym one.2) (accepted_marks dig k g anchor first count rs whole accepts one.0 one.1))
]
adopt_marks dig k grown from old new reads adopted (refused anchor first count rs error group whole why other) i e = inl e
adopt_marks dig k grown from old new reads adopted (short anchor first count rs group order faults few) i e = inl e
adopt_marks dig k grown from old new reads adopted (unread anchor first count rs group order some) i e = inl e

extends_itself : (dig : List ℕ → List ℕ) (k : Facts) → Extends dig k k
extends_itself dig k = record { file_length = refl; root = refl; values = λ layer i d e. e; rooted = λ r. r }

pub adopt_extends : (dig : List ℕ → List ℕ) (k grown : Facts) (from : ℕ) (old new : List BlockState) (reads : List BlockRead) (adopted : Adopted)
    → Adopts dig k from old reads adopted grown new → Extends dig k grown
adopt_extends dig k grown from old new reads adopted (none end) = extends_itself dig k
adopt_extends dig k grown from old new reads adopted (known count rs group order) = extends_itself dig k
adopt_extends dig k grown from old new reads adopted (accepted anchor first count rs g group whole accepts) = record {
  file_length = accepts.joins.file_length;
  root = accepts.joins.root;
  values = λ layer i d. value_kept dig k g (claim_of_reads dig k.file_length anchor first rs) layer i d accepts.joins;
  rooted = keeps_rooted dig k g (claim_of_reads dig k.file_length anchor first rs) accepts;
}
adopt_extends dig k grown from old new reads adopted (refused anchor first count rs error group whole why other) = extends_itself dig k
adopt_extends dig k grown from old new reads adopted (short anchor first count rs group order faults few) = extends_itself dig k
adopt_extends dig k grown from old new reads adopted (unread anchor first count rs group order some) = extends_itself dig k
