-- Lists in which a relation holds of each element and each later one.
use Rattle.bt_machine.proofs.Base.{[], ◌≡◌, ◌≢◌, ℕ, zero, suc, ◌+◌, ◌<◌, ◌≤◌, ◌⊎◌, inl, inr, List, ◌∷◌, ◌++◌, length, map, take, drop, get_or, Some, refl, sym, ap, ◌∙◌, arith, slice_get, slice_set, Contains, ⊤, AllPairs, get_or_default, Contains-append_cases}
use Rattle.bt_machine.proofs.Lists.{same_some, here, later, contains_none, contains_cases, contains_map}

-- the same by recursion on the list
abbrev pub Pairs : {X : Type 0} → (X → X → Type 0) → List X → Type 0
Pairs R [] = ⊤
Pairs {X} R (x ∷ xs) = ((y : X) → Contains xs y → R x y) × Pairs R xs

pub to_pairs : {X : Type 0} (R : X → X → Type 0) (xs : List X) → AllPairs R xs → Pairs R xs
to_pairs R [] h = tt
to_pairs R (x ∷ xs) h = (
  λ y c. rw (← c.2) (h 0 (suc c.0) y (omega arith) (omega arith)),
  to_pairs R xs (λ i j d lt within. h (suc i) (suc j) d (omega arith) (omega arith)),
)

pub contains_at : {X : Type 0} (xs : List X) (j : ℕ) (d : X) → j < length xs → Contains xs (get_or xs j d)
contains_at xs j d lt = (j, lt, get_or_default xs j (get_or xs j d) d lt)

pub from_pairs : {X : Type 0} (R : X → X → Type 0) (xs : List X) → Pairs R xs → AllPairs R xs
from_pairs R [] p i j d lt within = absurd (omega arith)
from_pairs R (x ∷ xs) p i zero d lt within = absurd (omega arith)
from_pairs R (x ∷ xs) p zero (suc j) d lt within = p.0 (get_or xs j d) (contains_at xs j d (omega arith))
from_pairs R (x ∷ xs) p (suc i) (suc j) d lt within = from_pairs R xs p.1 i j d (omega arith) (omega arith)

pub contains_some : {X : Type 0} (xs : List X) (i : ℕ) {x : X} → slice_get xs i ≡ Some x → Contains xs x
contains_some [] i e = absurd cc
contains_some (y ∷ xs) zero e = here xs (same_some refl e)
contains_some (y ∷ xs) (suc i) e = later y xs (contains_some xs i e)

pub some_at : {X : Type 0} (xs : List X) {y : X} → Contains xs y → (j : ℕ) × (slice_get xs j ≡ Some y)
some_at [] c = absurd (contains_none c)
some_at (x ∷ xs) c = elim (contains_cases xs c) [ inl e ↦ (0, ap (λ z. Some z) e) | inr more ↦ (let m = some_at xs more in (suc m.0, m.1)) ]

pub pairs_at : {X : Type 0} (R : X → X → Type 0) (xs : List X) (i j : ℕ) {x y : X} → Pairs R xs → slice_get xs i ≡ Some x → slice_get xs j ≡ Some y
    → i < j → R x y
pairs_at R [] i j p e f lt = absurd cc
pairs_at R (z ∷ xs) i zero p e f lt = absurd (omega arith)
pairs_at R (z ∷ xs) zero (suc j) {y} p e f lt = rw (← (same_some refl e)) (p.0 y (contains_some xs j f))
pairs_at R (z ∷ xs) (suc i) (suc j) p e f lt = pairs_at R xs i j p.1 e f (omega arith)

-- ---- an element is replaced

-- what is contained then is the new one, or stands at another place
pub contains_set : {X : Type 0} (xs : List X) (i : ℕ) {x y : X} → Contains (slice_set xs i x) y → (y ≡ x) ⊎ ((j : ℕ) × (j ≢ i) × (slice_get xs j ≡ Some y))
contains_set [] i c = absurd (contains_none c)
contains_set (z ∷ xs) zero c = elim (contains_cases xs c) [ inl e ↦ inl (sym e) | inr more ↦ inr (let m = some_at xs more in (suc m.0, (λ e. omega arith), m.1)) ]
contains_set (z ∷ xs) (suc i) {x} c = elim (contains_cases _ c) [
  | inl e ↦ inr (0, (λ f. omega arith), ap (λ w. Some w) e)
  | inr more ↦ elim (contains_set xs i more) [ inl e ↦ inl e | inr m ↦ inr (suc m.0, (λ f. m.1 (omega arith)), m.2) ]
]

pub pairs_set : {X : Type 0} (R : X → X → Type 0) (xs : List X) (i : ℕ) {old : X} (new : X) → slice_get xs i ≡ Some old
    → ((y : X) → Contains xs y → R old y → R new y) → ((y : X) → Contains xs y → R y old → R y new) → Pairs R xs → Pairs R (slice_set xs i new)
pairs_set R [] i new e right left p = absurd cc
pairs_set R (z ∷ xs) zero new e right left p = (λ y c. right y (later z xs c) (rw (← (same_some refl e)) (p.0 y c)), p.1)
pairs_set R (z ∷ xs) (suc i) {old} new e right left p = (
  λ y c. elim (contains_set xs i c) [
    | inl is ↦ rw is (left z (here xs refl) (p.0 old (contains_some xs i e)))
    | inr m ↦ p.0 y (contains_some xs m.0 m.2)
  ],
  pairs_set R xs i new e (λ y c. right y (later z xs c)) (λ y c. left y (later z xs c)) p.1,
)

-- ---- an element is removed

abbrev removed : {X : Type 0} → List X → ℕ → List X
removed [] i = []
removed (x ∷ xs) zero = xs
removed (x ∷ xs) (suc i) = x ∷ removed xs i

removed_is : {X : Type 0} (xs : List X) (i : ℕ) → take i xs ++ drop (i + 1) xs ≡ removed xs i
removed_is [] zero = refl
removed_is [] (suc i) = let next : suc i + 1 ≡ suc (i + 1) = omega arith in ap (λ n. take (suc i) [] ++ drop n []) next
removed_is (x ∷ xs) zero = refl
removed_is (x ∷ xs) (suc i) =
    let next : suc i + 1 ≡ suc (i + 1) = omega arith in
    ap (λ n. take (suc i) (x ∷ xs) ++ drop n (x ∷ xs)) next ∙ ap (λ ys. x ∷ ys) (removed_is xs i)

contains_removed : {X : Type 0} (xs : List X) (i : ℕ) {y : X} → Contains (removed xs i) y → Contains xs y
contains_removed [] i c = c
contains_removed (x ∷ xs) zero c = later x xs c
contains_removed (x ∷ xs) (suc i) c = elim (contains_cases _ c) [ inl e ↦ here xs e | inr more ↦ later x xs (contains_removed xs i more) ]

pairs_removed : {X : Type 0} (R : X → X → Type 0) (xs : List X) (i : ℕ) → Pairs R xs → Pairs R (removed xs i)
pairs_removed R [] i p = p
pairs_removed R (x ∷ xs) zero p = p.1
pairs_removed R (x ∷ xs) (suc i) p = (λ y c. p.0 y (contains_removed xs i c), pairs_removed R xs i p.1)

length-removed : {X : Type 0} (xs : List X) (i : ℕ) → length (removed xs i) ≤ length xs
length-removed (x ∷ xs) (suc i) = let le = length-removed xs i in omega arith
length-removed _ _ = omega arith

pub contains_without : {X : Type 0} (xs : List X) (i : ℕ) {y : X} → Contains (take i xs ++ drop (i + 1) xs) y → Contains xs y
contains_without xs i {y} c = contains_removed xs i (rw (← (removed_is xs i)) c)

pub pairs_without : {X : Type 0} (R : X → X → Type 0) (xs : List X) (i : ℕ) → Pairs R xs → Pairs R (take i xs ++ drop (i + 1) xs)
pairs_without R xs i p = rw (removed_is xs i) (pairs_removed R xs i p)

pub length-without : {X : Type 0} (xs : List X) (i : ℕ) → length (take i xs ++ drop (i + 1) xs) ≤ length xs
length-without xs i = rw (removed_is xs i) (length-removed xs i)

-- ---- lists that are put together, filtered and mapped

pub pairs_append : {X : Type 0} (R : X → X → Type 0) (xs ys : List X) → Pairs R xs → Pairs R ys → ((x y : X) → Contains xs x → Contains ys y → R x y)
    → Pairs R (xs ++ ys)
pairs_append R [] ys p q across = q
pairs_append R (x ∷ xs) ys p q across = (
  λ y c. elim (Contains-append_cases xs ys y c) [ inl own ↦ p.0 y own | inr other ↦ across x y (here xs refl) other ],
  pairs_append R xs ys p.1 q (λ a b c d. across a b (later x xs c) d),
)

pub pairs_map : {X Y : Type 0} (R : X → X → Type 0) (S : Y → Y → Type 0) (f : X → Y) (xs : List X) → ((x y : X) → R x y → S (f x) (f y)) → Pairs R xs
    → Pairs S (map f xs)
pairs_map R S f [] keep p = tt
pairs_map R S f (x ∷ xs) keep p = (
  λ y c. (let m = contains_map f xs c in rw (← m.2) (keep x m.0 (p.0 m.0 m.1))),
  pairs_map R S f xs keep p.1,
)
