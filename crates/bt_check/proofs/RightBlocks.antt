-- Lemmas on the reads of a piece, and on how many blocks are right.
use Rattle.std.proofs.Common.{◌≡◌, ℕ, zero, suc, ◌+◌, ◌-◌, ◌*◌, ◌^◌, ◌<◌, ◌≤◌, ◌⊎◌, Bool, true, false, cond, List, [], ◌∷◌, ◌++◌, length, take, drop, get_or, inl, inr, arith, refl, sym, ap, ◌∙◌, take_all, if◌then◌else◌}
use Rattle.std.specs.List.{count_by, list_all, range_with_len}
use Rattle.std.proofs.lemmas.List.{drop-append-le, length-drop, take-append-le}
use Rattle.std.proofs.lemmas.List.FromFn.{length-range_with_len}
use Rattle.std.proofs.lemmas.List.Sums.{sum_by-append, count_by-le-length}
use Rattle.bt_store.specs.BlockReads.{BlockRead, given, failed, fault_count, is_fault}
use Rattle.bt_store.specs.Adoption.{is_whole}
use Rattle.bt_check.specs.EntryCheck.{reads_below, is_node_read}

pub cases_bool : (b : Bool) → (b ≡ true) ⊎ (b ≡ false)
cases_bool true = inl refl
cases_bool false = inr refl

-- ---- counts

pub count_cons : {X : Type 0} (p : X → Bool) (x : X) (xs : List X) → count_by p (x ∷ xs) ≡ cond (p x) 1 0 + count_by p xs
count_cons p x xs = sum_by-append (λ y. cond (p y) 1 0) (x ∷ []) xs ∙ omega arith

-- numbers that pass the same tests as some values do
pub count_along : {X : Type 0} (p : X → Bool) (q : ℕ → Bool) (d : X) (a : ℕ) (xs : List X) → ((j : ℕ) → j < length xs → p (get_or xs j d) ≡ q (a + j))
    → count_by p xs ≡ count_by q (range_with_len a (length xs))
count_along p q d a [] same = refl
count_along p q d a (x ∷ xs) same =
    let here : a + 0 ≡ a = omega arith in
    let rest = count_along p q d (a + 1) xs (λ j lt. let up : a + suc j ≡ a + 1 + j = omega arith in same (suc j) (omega (arith, lt)) ∙ ap q up) in
    count_cons p x xs ∙ ap (λ b. cond b 1 0 + count_by p xs) (same 0 (omega arith) ∙ ap q here) ∙ ap (λ m. cond (q a) 1 0 + m) rest
    ∙ sym (count_cons q a (range_with_len (a + 1) (length xs)))

-- two tests that are the same there
pub count_same : (p q : ℕ → Bool) (a m : ℕ) → ((i : ℕ) → a ≤ i → i < a + m → p i ≡ q i) → count_by p (range_with_len a m) ≡ count_by q (range_with_len a m)
count_same p q a zero same = refl
count_same p q a (suc m) same =
    let rest = count_same p q (a + 1) m (λ i low high. same i (omega (arith, low)) (omega (arith, high))) in
    count_cons p a (range_with_len (a + 1) m) ∙ ap (λ b. cond b 1 0 + count_by p (range_with_len (a + 1) m)) (same a (omega arith) (omega arith))
    ∙ ap (λ k. cond (q a) 1 0 + k) rest ∙ sym (count_cons q a (range_with_len (a + 1) m))

-- all of them pass, or none does
pub count_const : (p : ℕ → Bool) (b : Bool) (a m : ℕ) → ((i : ℕ) → a ≤ i → i < a + m → p i ≡ b) → count_by p (range_with_len a m) ≡ (if b then m else 0)
count_const p b a m is = count_same p (λ _. b) a m is ∙ all b a m
  where
    all : (b : Bool) (a m : ℕ) → count_by {X = ℕ} (λ _. b) (range_with_len a m) ≡ (if b then m else 0)
    all true a zero = refl
    all false a zero = refl
    all true a (suc m) = count_cons (λ _. true) a (range_with_len (a + 1) m) ∙ omega (arith, all true (a + 1) m)
    all false a (suc m) = count_cons (λ _. false) a (range_with_len (a + 1) m) ∙ omega (arith, all false (a + 1) m)

pub ranges_joined : (a b c m : ℕ) → m ≡ a + b → range_with_len a b ++ range_with_len m c ≡ range_with_len a (b + c)
ranges_joined a zero c m e =
    let same : m ≡ a = omega (arith, e) in
    let all : 0 + c ≡ c = omega arith in
    ap (λ s. range_with_len s c) same ∙ ap (range_with_len a) (sym all)
ranges_joined a (suc b) c m e =
    let up : suc b + c ≡ suc (b + c) = omega arith in
    ap (λ l. a ∷ l) (ranges_joined (a + 1) b c m (omega (arith, e))) ∙ ap (range_with_len a) (sym up)

pub count_joined : (p : ℕ → Bool) (m k : ℕ) → count_by p (range_with_len 0 (m + k)) ≡ count_by p (range_with_len 0 m) + count_by p (range_with_len m k)
count_joined p m k =
    ap (count_by p) (sym (ranges_joined 0 m k m (omega arith))) ∙ sum_by-append (λ i. cond (p i) 1 0) (range_with_len 0 m) (range_with_len m k)

pub count_few : (p : ℕ → Bool) (a m : ℕ) → count_by p (range_with_len a m) ≤ m
count_few p a m = omega (arith, count_by-le-length p (range_with_len a m), length-range_with_len a m)

-- ---- the reads below a node

-- one all of whose blocks were read before
below_kept : (before more : List BlockRead) (layer j : ℕ) → (j + 1) * 2 ^ layer ≤ length before
    → reads_below (before ++ more) layer j ≡ reads_below before layer j
below_kept before more layer j h =
    let inside : j * 2 ^ layer ≤ length before = omega (arith, h) in
    let left : length (drop (j * 2 ^ layer) before) ≡ length before - j * 2 ^ layer = length-drop (j * 2 ^ layer) before in
    ap (take (2 ^ layer)) (drop-append-le (j * 2 ^ layer) before more inside)
    ∙ take-append-le (2 ^ layer) (drop (j * 2 ^ layer) before) more (omega (arith, left, h))

pub node_kept : (before more : List BlockRead) (n layer j : ℕ) (digest : List ℕ) → (j + 1) * 2 ^ layer ≤ length before
    → is_node_read (before ++ more) n layer j digest ≡ is_node_read before n layer j digest
node_kept before more n layer j digest h = rw (below_kept before more layer j h) refl

-- and one whose blocks were read last
pub below_last : (before more : List BlockRead) (layer j : ℕ) → length before ≡ j * 2 ^ layer → length more ≤ 2 ^ layer
    → reads_below (before ++ more) layer j ≡ more
below_last before more layer j here few =
    let none : drop (j * 2 ^ layer) before ≡ [] = sym (ap (λ m. drop m before) here) ∙ drop_whole before in
    ap (take (2 ^ layer)) (drop-append-le (j * 2 ^ layer) before more (omega (arith, here)) ∙ ap (λ l. l ++ more) none) ∙ take_all (2 ^ layer) more few
  where
    drop_whole : (xs : List BlockRead) → drop (length xs) xs ≡ []
    drop_whole [] = refl
    drop_whole (x ∷ xs) = drop_whole xs

-- ---- reads that gave whole blocks

-- all of them
pub all_whole : (n : ℕ) (reads : List BlockRead) → length reads ≤ count_by (is_whole n) reads → list_all (is_whole n) reads ≡ true
all_whole n [] h = refl
all_whole n (read ∷ reads) h =
    let step = count_cons (is_whole n) read reads in
    let few = count_by-le-length (is_whole n) reads in
    elim (cases_bool (is_whole n read)) [
      | inl is ↦
          let count : count_by (is_whole n) (read ∷ reads) ≡ 1 + count_by (is_whole n) reads = step ∙ ap (λ t. cond t 1 0 + count_by (is_whole n) reads) is in
          rw is (all_whole n reads (omega (arith, h, count)))
      | inr is ↦
          let count : count_by (is_whole n) (read ∷ reads) ≡ 0 + count_by (is_whole n) reads = step ∙ ap (λ t. cond t 1 0 + count_by (is_whole n) reads) is in
          absurd (omega (arith, h, count, few))
    ]

-- not all of them
pub not_all_whole : (n : ℕ) (reads : List BlockRead) → count_by (is_whole n) reads < length reads → list_all (is_whole n) reads ≡ false
not_all_whole n [] h = absurd (omega (arith, h))
not_all_whole n (read ∷ reads) h =
    let step = count_cons (is_whole n) read reads in
    elim (cases_bool (is_whole n read)) [
      | inl is ↦
          let count : count_by (is_whole n) (read ∷ reads) ≡ 1 + count_by (is_whole n) reads = step ∙ ap (λ t. cond t 1 0 + count_by (is_whole n) reads) is in
          rw is (not_all_whole n reads (omega (arith, h, count)))
      | inr is ↦ rw is refl
    ]

-- a read that failed gave no whole block
pub whole_or_fault : (n : ℕ) (reads : List BlockRead) → count_by (is_whole n) reads + fault_count reads ≤ length reads
whole_or_fault n [] = omega arith
whole_or_fault n (read ∷ reads) =
    let whole = count_cons (is_whole n) read reads in
    let faults = count_cons is_fault read reads in
    let rest = whole_or_fault n reads in
    omega (arith, whole, faults, rest, one read)
  where
    one_of : (b : Bool) → cond b 1 0 ≤ 1
    one_of true = omega arith
    one_of false = omega arith

    one : (r : BlockRead) → cond (is_whole n r) 1 0 + cond (is_fault r) 1 0 ≤ 1
    one (given i bytes) = let h = one_of (is_whole n (given i bytes)) in omega (arith, h)
    one (failed i) = omega arith
