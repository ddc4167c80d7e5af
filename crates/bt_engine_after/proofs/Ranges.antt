-- Lists over numbers that follow each other.
use Rattle.bt_machine.proofs.Base.{[], ◌≡◌, ◌≢◌, ℕ, zero, suc, ◌+◌, ◌-◌, ◌<◌, ◌≤◌, inl, inr, Bool, true, false, not, cond, ◌&&◌, List, ◌∷◌, ◌++◌, length, take, get_or, flat_map, filter, refl, sym, ap, ◌∙◌, arith, cases_lt, append-nil, range_with_len, filter-append}
use Rattle.std.proofs.Common.{append_assoc}
use Rattle.std.proofs.lemmas.Bool.{cases_eq}
use Rattle.std.proofs.lemmas.List.{take_more}
use Rattle.bt_store.proofs.Reviews.{range_split}

-- ---- what a filter keeps

pub and_not : (b : Bool) → (b && not b) ≡ false
and_not true = refl
and_not false = refl

-- tests that agree on the numbers keep the same
pub filter_alike : (p q : ℕ → Bool) (a n : ℕ) → ((i : ℕ) → a ≤ i → i < a + n → p i ≡ q i) → filter p (range_with_len a n) ≡ filter q (range_with_len a n)
filter_alike p q a zero same = refl
filter_alike p q a (suc n) same =
    ap (λ b. cond b (a ∷ filter p (range_with_len (a + 1) n)) (filter p (range_with_len (a + 1) n))) (same a (omega arith) (omega arith))
    ∙ ap (λ xs. cond (q a) (a ∷ xs) xs) (filter_alike p q (a + 1) n (λ i low high. same i (omega arith) (omega arith)))

pub keeps_none : {X : Type 0} (xs : List X) → filter (λ x. false) xs ≡ []
keeps_none [] = refl
keeps_none (x ∷ xs) = keeps_none xs

filter_nothing : (a n : ℕ) → filter (λ i. false) (range_with_len a n) ≡ []
filter_nothing a zero = refl
filter_nothing a (suc n) = filter_nothing (a + 1) n

pub filter_off : (p : ℕ → Bool) (a n : ℕ) → ((i : ℕ) → a ≤ i → i < a + n → p i ≡ false) → filter p (range_with_len a n) ≡ []
filter_off p a n off = filter_alike p (λ i. false) a n off ∙ filter_nothing a n

-- what passes lies within these numbers
pub filter_within : (p : ℕ → Bool) (first count size : ℕ) → first + count ≤ size → ((i : ℕ) → i < first → p i ≡ false) → ((i : ℕ) → first + count ≤ i → p i ≡ false)
    → filter p (range_with_len 0 size) ≡ filter p (range_with_len first count)
filter_within p first count size inside low high =
    let rest = size - (first + count) in
    let split : size ≡ first + (count + (size - (first + count))) = omega arith in
    let place : 0 + first ≡ first = omega arith in
    ap (λ n. filter p (range_with_len 0 n)) split ∙ ap (filter p) (range_split 0 first (count + rest))
    ∙ filter-append p (range_with_len 0 first) (range_with_len (0 + first) (count + rest))
    ∙ ap (λ xs. xs ++ filter p (range_with_len (0 + first) (count + rest))) (filter_off p 0 first (λ i from to. low i (omega arith)))
    ∙ ap (λ a. filter p (range_with_len a (count + rest))) place ∙ ap (filter p) (range_split first count rest)
    ∙ filter-append p (range_with_len first count) (range_with_len (first + count) rest)
    ∙ ap (λ xs. filter p (range_with_len first count) ++ xs) (filter_off p (first + count) rest (λ i from to. high i from)) ∙ append-nil (filter p (range_with_len first count))

both_by : {X : Type 0} (p q : X → Bool) (x : X) (xs : List X) (a b : Bool) → p x ≡ a → filter p (filter q xs) ≡ filter (λ y. p y && q y) xs
    → filter p (cond b (x ∷ filter q xs) (filter q xs)) ≡ cond (a && b) (x ∷ filter (λ y. p y && q y) xs) (filter (λ y. p y && q y) xs)
both_by p q x xs true true e same = ap (λ t. cond t (x ∷ filter p (filter q xs)) (filter p (filter q xs))) e ∙ ap (λ ys. x ∷ ys) same
both_by p q x xs false true e same = ap (λ t. cond t (x ∷ filter p (filter q xs)) (filter p (filter q xs))) e ∙ same
both_by p q x xs true false e same = same
both_by p q x xs false false e same = same

pub filter_both : {X : Type 0} (p q : X → Bool) (xs : List X) → filter p (filter q xs) ≡ filter (λ x. p x && q x) xs
filter_both p q [] = refl
filter_both p q (x ∷ xs) = both_by p q x xs (p x) (q x) refl (filter_both p q xs)

pub filter_flat : {X Y : Type 0} (p : Y → Bool) (f : X → List Y) (xs : List X) → filter p (flat_map f xs) ≡ flat_map (λ x. filter p (f x)) xs
filter_flat p f [] = refl
filter_flat p f (x ∷ xs) = filter-append p (f x) (flat_map f xs) ∙ ap (λ ys. filter p (f x) ++ ys) (filter_flat p f xs)

-- one number more
pub range_more : (a n : ℕ) → range_with_len a (n + 1) ≡ range_with_len a n ++ (a + n) ∷ []
range_more a n = range_split a n 1

-- ---- lists that are put together

pub flat_map_more : {X Y : Type 0} (f : X → List Y) (xs ys : List X) → flat_map f (xs ++ ys) ≡ flat_map f xs ++ flat_map f ys
flat_map_more f [] ys = refl
flat_map_more f (x ∷ xs) ys = ap (λ zs. f x ++ zs) (flat_map_more f xs ys) ∙ sym (append_assoc (f x) (flat_map f xs) (flat_map f ys))

-- with the lists of one element more
pub flat_map_take : {X Y : Type 0} (f : X → List Y) (xs : List X) (i : ℕ) {x : X} (d : X) → i < length xs → x ≡ get_or xs i d
    → flat_map f (take (i + 1) xs) ≡ flat_map f (take i xs) ++ f x
flat_map_take f xs i {x} d lt is =
    ap (flat_map f) (take_more xs i d lt ∙ ap (λ y. take i xs ++ y ∷ []) (sym is))
    ∙ flat_map_more f (take i xs) (x ∷ []) ∙ ap (λ ys. flat_map f (take i xs) ++ ys) (append-nil (f x))

module _ {Y : Type 0} where
  pub flat_map_alike : (f g : ℕ → List Y) (a n : ℕ) → ((i : ℕ) → a ≤ i → i < a + n → f i ≡ g i) → flat_map f (range_with_len a n) ≡ flat_map g (range_with_len a n)
  flat_map_alike f g a zero same = refl
  flat_map_alike f g a (suc n) same =
      ap (λ ys. ys ++ flat_map f (range_with_len (a + 1) n)) (same a (omega arith) (omega arith))
      ∙ ap (λ ys. g a ++ ys) (flat_map_alike f g (a + 1) n (λ i low high. same i (omega arith) (omega arith)))

  pub flat_map_none : (f : ℕ → List Y) (a n : ℕ) → ((j : ℕ) → a ≤ j → j < a + n → f j ≡ []) → flat_map f (range_with_len a n) ≡ []
  flat_map_none f a zero none = refl
  flat_map_none f a (suc n) none =
      ap (λ ys. ys ++ flat_map f (range_with_len (a + 1) n)) (none a (omega arith) (omega arith))
      ∙ flat_map_none f (a + 1) n (λ j low high. none j (omega arith) (omega arith))

  pub flat_map_one : (f : ℕ → List Y) (i a n : ℕ) → a ≤ i → i < a + n → ((j : ℕ) → j ≢ i → f j ≡ []) → flat_map f (range_with_len a n) ≡ f i
  flat_map_one f i a zero low high none = absurd (omega arith)
  flat_map_one f i a (suc n) low high none = elim (cases_eq a i) [
    | inl same ↦
        ap (λ ys. f a ++ ys) (flat_map_none f (a + 1) n (λ j from to. none j (λ e. absurd (omega arith)))) ∙ append-nil (f a) ∙ ap f same
    | inr apart ↦
        ap (λ ys. ys ++ flat_map f (range_with_len (a + 1) n)) (none a apart) ∙ flat_map_one f i (a + 1) n (omega arith) (omega arith) none
  ]

  -- below a number as the one says, and from there on as the other
  pub flat_map_then : (f g h : ℕ → List Y) (i a n : ℕ) → ((j : ℕ) → j < a + n → j < i → (g j ≡ []) × (h j ≡ f j))
      → ((j : ℕ) → j < a + n → i ≤ j → (f j ≡ []) × (h j ≡ g j))
      → flat_map h (range_with_len a n) ≡ flat_map f (range_with_len a n) ++ flat_map g (range_with_len a n)
  flat_map_then f g h i a zero low high = refl
  flat_map_then f g h i a (suc n) low high =
      let rest = flat_map_then f g h i (a + 1) n (λ j lt. low j (omega arith)) (λ j lt. high j (omega arith)) in
      let fs = flat_map f (range_with_len (a + 1) n) in
      let gs = flat_map g (range_with_len (a + 1) n) in
      elim (cases_lt a i) [
        | inl lt ↦
            let e = low a (omega arith) lt in
            ap (λ ys. ys ++ flat_map h (range_with_len (a + 1) n)) e.1 ∙ ap (λ ys. f a ++ ys) rest ∙ sym (append_assoc (f a) fs gs)
            ∙ ap (λ ys. (f a ++ fs) ++ (ys ++ gs)) (sym e.0)
        | inr le ↦
            let e = high a (omega arith) le in
            let none : flat_map f (range_with_len (a + 1) n) ≡ [] = flat_map_none f (a + 1) n (λ j from to. (high j (omega arith) (omega arith)).0) in
            ap (λ ys. ys ++ flat_map h (range_with_len (a + 1) n)) e.1 ∙ ap (λ ys. g a ++ ys) (rest ∙ ap (λ ys. ys ++ gs) none)
            ∙ ap (λ ys. ys ++ (g a ++ gs)) (sym none ∙ ap (λ ys. ys ++ fs) (sym e.0))
      ]
