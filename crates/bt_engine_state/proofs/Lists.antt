-- Lists that are mapped, of which one element is replaced or goes.
use Rattle.std.proofs.Common.{[], ◌≡◌, ◌≢◌, ℕ, zero, suc, ◌+◌, ◌*◌, ◌<◌, ◌≤◌, Fits, w64, mul-le-mul_right, List, ◌∷◌, ◌++◌, length, map, take, drop, Some, refl, sym, ap, ◌∙◌, arith, get_or, add-one, Bool, true, false, cond, filter}
use Rattle.std.specs.Prelude.{slice_get, slice_set}
use Rattle.std.specs.List.{remove}

-- all but the one at i are seen alike
abbrev pub SeenAlike : {X Y : Type 0} → (X → Y) → (X → Y) → List X → ℕ → Type 0
SeenAlike {X} f g xs i = (j : ℕ) (x : X) → j ≢ i → slice_get xs j ≡ Some x → g x ≡ f x

pub map_agree : {X Y : Type 0} (f g : X → Y) (xs : List X) → ((j : ℕ) (x : X) → slice_get xs j ≡ Some x → g x ≡ f x)
    → map g xs ≡ map f xs
map_agree f g [] same = refl
map_agree f g (x ∷ xs) same =
    ap (λ y. y ∷ map g xs) (same 0 x refl) ∙ ap (λ ys. f x ∷ ys) (map_agree f g xs (λ j y e. same (suc j) y e))

after_first : {X Y : Type 0} (f g : X → Y) (x : X) (xs : List X) (i : ℕ) → SeenAlike f g (x ∷ xs) (suc i) → SeenAlike f g xs i
after_first f g x xs i same = λ j y apart e. same (suc j) y (λ h. apart (omega arith)) e

pub map_set : {X Y : Type 0} (f g : X → Y) (xs : List X) (i : ℕ) (new : X) → SeenAlike f g xs i
    → map g (slice_set xs i new) ≡ slice_set (map f xs) i (g new)
map_set f g [] zero new same = refl
map_set f g [] (suc i) new same = refl
map_set f g (x ∷ xs) zero new same =
    ap (λ ys. g new ∷ ys) (map_agree f g xs (λ j y e. same (suc j) y (λ h. absurd (omega arith)) e))
map_set f g (x ∷ xs) (suc i) new same =
    ap (λ y. y ∷ map g (slice_set xs i new)) (same 0 x (λ h. absurd (omega arith)) refl)
    ∙ ap (λ ys. f x ∷ ys) (map_set f g xs i new (after_first f g x xs i same))

map_gone : {X Y : Type 0} (f g : X → Y) (xs : List X) (i : ℕ) → SeenAlike f g xs i
    → map g (remove xs i) ≡ take i (map f xs) ++ drop (suc i) (map f xs)
map_gone f g [] zero same = refl
map_gone f g [] (suc i) same = refl
map_gone f g (x ∷ xs) zero same = map_agree f g xs (λ j y e. same (suc j) y (λ h. absurd (omega arith)) e)
map_gone f g (x ∷ xs) (suc i) same =
    ap (λ y. y ∷ map g (remove xs i)) (same 0 x (λ h. absurd (omega arith)) refl)
    ∙ ap (λ ys. f x ∷ ys) (map_gone f g xs i (after_first f g x xs i same))

pub map_remove : {X Y : Type 0} (f g : X → Y) (xs : List X) (i : ℕ) → SeenAlike f g xs i
    → map g (remove xs i) ≡ take i (map f xs) ++ drop (i + 1) (map f xs)
map_remove f g xs i same = rw (add-one i) (map_gone f g xs i same)

pub get_mapped : {X Y : Type 0} (f : X → Y) (xs : List X) (i : ℕ) {x : X} → slice_get xs i ≡ Some x
    → slice_get (map f xs) i ≡ Some (f x)
get_mapped f [] zero e = absurd cc
get_mapped f [] (suc i) e = absurd cc
get_mapped f (x ∷ xs) zero e = cc
get_mapped f (x ∷ xs) (suc i) e = get_mapped f xs i e

pub get_at : {X : Type 0} (xs : List X) (i : ℕ) (d : X) → i < length xs → slice_get xs i ≡ Some (get_or xs i d)
get_at [] i d lt = absurd (omega arith)
get_at (x ∷ xs) zero d lt = refl
get_at (x ∷ xs) (suc i) d lt = get_at xs i d (omega arith)

-- an element that was read
pub get_read : {X : Type 0} (xs : List X) (i : ℕ) (x : X) → i < length xs → x ≡ get_or xs i x → slice_get xs i ≡ Some x
get_read xs i x lt is = get_at xs i x lt ∙ ap (λ y. Some y) (sym is)

pub map_removed : {X Y : Type 0} (f : X → Y) (xs : List X) (i : ℕ) → map f (remove xs i) ≡ remove (map f xs) i
map_removed f xs i = map_gone f f xs i (λ j x apart e. refl)

filter_by : {X Y : Type 0} (f : X → Y) (x : X) (ys : List X) (zs : List Y) (t : Bool) → map f ys ≡ zs
    → map f (cond t (x ∷ ys) ys) ≡ cond t (f x ∷ zs) zs
filter_by f x ys zs true e = ap (λ ws. f x ∷ ws) e
filter_by f x ys zs false e = e

pub filter_mapped : {X Y : Type 0} (f : X → Y) (test : Y → Bool) (xs : List X)
    → map f (filter (λ x. test (f x)) xs) ≡ filter test (map f xs)
filter_mapped f test [] = refl
filter_mapped f test (x ∷ xs) =
    filter_by f x (filter (λ x. test (f x)) xs) (filter test (map f xs)) (test (f x)) (filter_mapped f test xs)

-- where an element below another lies
pub fits_below : (i n size : ℕ) → i < n → Fits w64 (n * size) → Fits w64 (i * size)
fits_below i n size lt fits = let le : i * size ≤ n * size = mul-le-mul_right size (omega arith) in omega (arith, fits, le)
