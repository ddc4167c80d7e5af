-- Hashes that come, and the files whose blocks waited for them.
use Rattle.bt_machine.proofs.Base.{◌≡◌, ℕ, List, get_or, map, Some, None, refl, sym, ap, ◌∙◌, All, slice_get, Facts, Result, Ok, Err, subst}
use Rattle.std.specs.Prelude.{IfOk, IfErr}
use Rattle.std.proofs.lemmas.Option.{slice_get-get_or}
use Rattle.bt_machine.proofs.Lists.{some_is}
use Rattle.bt_engine_state.specs.Roots.{Numbers, number_of, AreNumbered}
use Rattle.bt_engine_state.proofs.Chains.{numbered_tree, number_is}
use Rattle.bt_engine_messages.specs.RunSteps.{FitsLength}
use Rattle.bt_engine_messages.specs.LearningSteps.{HasRoot, LacksRoot, FitLengths}
use Rattle.bt_engine_state.specs.declared.slot.Slot.{Slot}

-- the tree keeps its length, so each slot of it still fits
pub fits_all : {D H : Type 0} (trees : List Facts) (slots : List (Slot D H)) (tree : ℕ) (old new : Facts) → FitLengths trees slots
    → slice_get trees tree ≡ Some old → new.file_length ≡ old.file_length → All (FitsLength new tree) slots
fits_all trees slots tree old new fit here same file slot lt = λ of_tree store has.
    let there = slice_get-get_or slots file slot lt in
    same ∙ fit file (get_or slots file slot) old there (ap (slice_get trees) of_tree ∙ here) refl store has

-- ---- the number of a root

module _ (trees : List Facts) (numbers : Numbers) (are : AreNumbered (map (λ k. k.root) trees) numbers) (root : List ℕ) where
  pub root_found : (i : ℕ) → number_of numbers root ≡ Some i → (k : Facts) × HasRoot trees root i k
  root_found i is = let k = numbered_tree trees numbers root are i is in (k.0, record { here = k.1; same_root = k.2 })

  pub root_lacks : number_of numbers root ≡ None → LacksRoot trees root
  root_lacks none i k has = absurd (let own = number_is trees numbers root are i has.here has.same_root in cc)

-- ---- refusals

pub if_ok_by : {X E : Type 0} {x : X} {P : Type 0} (T : X → Type 0) (r : Result X E) → IfOk r (λ y. y ≡ x) → IfOk r (λ y. P) → (P → T x) → IfOk r T
if_ok_by T (Ok y) e p f = subst T (sym e) (f p)
if_ok_by T (Err e) same p f = p

pub if_err_by : {X E : Type 0} {T : Type 0} (r : Result X E) → T → IfErr r (λ e. T)
if_err_by (Ok y) t = tt
if_err_by (Err e) t = t

-- the tree that was found is the one that is read there
pub root_at : (trees : List Facts) (root : List ℕ) (i : ℕ) {k : Facts} → slice_get trees i ≡ Some k → (j : Facts) × HasRoot trees root i j → HasRoot trees root i k
root_at trees root i here has = record { here = here; same_root = ap (λ (f : Facts). f.root) (some_is (sym here ∙ has.1.here)) ∙ has.1.same_root }
