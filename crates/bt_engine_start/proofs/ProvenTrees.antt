-- Trees that have taken the proofs of hints.
use Rattle.bt_machine.proofs.Base.{[], ◌≡◌, ◌≢◌, ℕ, inl, inr, List, ◌∷◌, length, map, Some, refl, sym, ap, ◌∙◌, subst, arith, cases_lt, AllPairs, Facts}
use Rattle.std.specs.Global.{Vec}
use Rattle.std.specs.Vec.{with_items}
use Rattle.std.proofs.lemmas.Option.{slice_get_past}
use Rattle.std.proofs.lemmas.Simd.{map-map}
use Rattle.bt_meta.specs.Torrent.{Metainfo}
use Rattle.bt_resume.specs.declared.hint.Hint.{Hint}
use Rattle.bt_machine.proofs.Lists.{heads, tails, get_some}
use Rattle.bt_machine.proofs.Pairs.{to_pairs, pairs_map, from_pairs}
use Rattle.bt_engine_state.specs.Ties.{root_and_length}
use Rattle.bt_engine_start.specs.MakingSteps.{AreTreesFrom}
use Rattle.bt_engine_start.specs.Taking.{TakeHints}
use Rattle.bt_engine_start.specs.TreesSteps.{AreTreesOf}
use Rattle.bt_engine_start.proofs.FileRecallings.{same_lists}
use Rattle.bt_engine_start.proofs.RootTrees.{trees_apart}

-- ---- where there is no hint, all trees stay

pub none_taken : (dig : List ℕ → List ℕ) (trees : List Facts) → TakeHints dig [] trees trees
none_taken dig trees = record { count = refl; each = λ t k at. (k, at, refl) }

pub same_trees : {dig : List ℕ → List ℕ} (old new : List Facts) → TakeHints dig [] old new → new ≡ old
same_trees old new takes = same_lists new old (λ t. elim (cases_lt t (length old)) [
  | inl lt ↦ (
      let k = get_some old t lt in
      let j = takes.each t k.0 k.1 in
      j.1 ∙ ap (λ (x : Facts). Some x) j.2 ∙ sym k.1
      )
  | inr past ↦ slice_get_past new t (omega (arith, past, takes.count)) ∙ sym (slice_get_past old t past)
])

-- ---- trees of the same roots and lengths

same_names : (ks js : List Facts) → map (λ k. k.root) ks ≡ map (λ k. k.root) js → map (λ k. k.file_length) ks ≡ map (λ k. k.file_length) js
    → map root_and_length ks ≡ map root_and_length js
same_names [] [] roots lengths = refl
same_names [] (j ∷ js) roots lengths = absurd cc
same_names (k ∷ ks) [] roots lengths = absurd cc
same_names (k ∷ ks) (j ∷ js) roots lengths =
    ap (λ root. (root, k.file_length) ∷ map root_and_length ks) (heads roots) ∙ ap (λ n. (j.root, n) ∷ map root_and_length ks) (heads lengths)
    ∙ ap (λ ps. (j.root, j.file_length) ∷ ps) (same_names ks js (tails roots) (tails lengths))

pub same_by : {X : Type 0} (f : List ℕ × ℕ → X) (ks js : List Facts) → map root_and_length ks ≡ map root_and_length js
    → map (λ k. f (root_and_length k)) ks ≡ map (λ k. f (root_and_length k)) js
same_by f ks js names = sym (map-map f root_and_length ks) ∙ ap (map f) names ∙ map-map f root_and_length js

-- they are apart where the others are
pub apart_alike : (ks js : List Facts) → map root_and_length ks ≡ map root_and_length js → AllPairs (λ j k. j.root ≢ k.root) js
    → AllPairs (λ j k. j.root ≢ k.root) ks
apart_alike ks js names apart =
    trees_apart ks (map (λ k. k.root) js) (same_by (λ p. p.0) ks js names)
    (from_pairs (λ r s. r ≢ s) (map (λ (k : Facts). k.root) js)
    (pairs_map (λ j k. j.root ≢ k.root) (λ r s. r ≢ s) (λ (k : Facts). k.root) js (λ j k e. e) (to_pairs (λ j k. j.root ≢ k.root) js apart)))

-- ---- trees that were lent, and have taken proofs

pub trees_from : {dig : List ℕ → List ℕ} {torrent : Metainfo} {hints : List Hint} (trees : Vec Facts) {lent made : List Facts} {given numbers : List ℕ}
    → AreTreesOf dig torrent given trees.items → given ≡ numbers → lent ≡ trees.items → (with_items trees made).items ≡ made → TakeHints dig hints lent made
    → map (λ k. k.root) made ≡ map (λ k. k.root) lent → map (λ k. k.file_length) made ≡ map (λ k. k.file_length) lent
    → AreTreesFrom dig torrent numbers hints (with_items trees made).items
trees_from {dig} {torrent} {hints} trees {lent} {made} of firsts lends are takes roots lengths = record {
  bases = trees.items;
  made = subst (λ ns. AreTreesOf dig torrent ns trees.items) firsts of;
  takes = subst (λ ks. TakeHints dig hints ks (with_items trees made).items) lends (subst (λ ks. TakeHints dig hints lent ks) (sym are) takes);
  names = ap (λ (ks : List Facts). map root_and_length ks) are ∙ same_names made lent roots lengths ∙ ap (λ (ks : List Facts). map root_and_length ks) lends;
}
