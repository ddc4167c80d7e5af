-- A list that is filled place by place.
use Rattle.std.proofs.Common.{◌≡◌, ℕ, ◌+◌, ◌<◌, List, length, get_or, sym, subst, ◌∙◌, arith, below_more}
use Rattle.std.proofs.Math.ListN.{set}
use Rattle.std.proofs.lemmas.List.{get_or-set_other, get_or-set_same}
use Rattle.std.proofs.lemmas.Option.{same_Some, slice_get-get_or}

pub filled_more : {X : Type 0} (f : ℕ → X) (xs : List X) (i : ℕ) (y d : X) → i < length xs → ((t : ℕ) → t < i → get_or xs t d ≡ f t) → y ≡ f i
    → (t : ℕ) → t < i + 1 → get_or (set xs i y) t d ≡ f t
filled_more f xs i y d within below here = below_more _ _
    (λ t lt. get_or-set_other xs i t y d (λ e. absurd (omega arith)) ∙ below t lt)
    (get_or-set_same xs i y d within ∙ here)

-- within a list no default shows
pub get_or_defaults : {X : Type 0} (xs : List X) (i : ℕ) (d e : X) → i < length xs → get_or xs i d ≡ get_or xs i e
get_or_defaults xs i d e within = same_Some (get_or xs i d) (get_or xs i e) (sym (slice_get-get_or xs i d within) ∙ slice_get-get_or xs i e within)

-- what holds at each place
pub filled_fact : {X : Type 0} (P : ℕ → X → Type 0) (xs : List X) (i : ℕ) (y d : X) → i < length xs → ((t : ℕ) → t < i → P t (get_or xs t d)) → P i y
    → (t : ℕ) → t < i + 1 → P t (get_or (set xs i y) t d)
filled_fact P xs i y d within below here = below_more _ _
    (λ t lt. subst (P t) (sym (get_or-set_other xs i t y d (λ e. absurd (omega arith)))) (below t lt))
    (subst (P i) (sym (get_or-set_same xs i y d within)) here)
