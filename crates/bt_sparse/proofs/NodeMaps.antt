-- Digests at nodes: what a look-up finds after a write.
use Rattle.std.proofs.Common.{◌≡◌, ℕ, zero, suc, ◌<◌, Option, arith, Bool, true, cond, eqb, ltb, ◌&&◌, List, [], Some, None, refl, sym, ap, ◌∙◌, ◌⊎◌, inl, inr}
use Rattle.std.specs.Ordering.{nat_cmp, eq_by_cmp, is_eq}
use Rattle.std.specs.declared.cmp.Ordering.{Ordering}
use Rattle.std.specs.declared.cmp.Ordering.TheVariants.{Less, Equal, Greater}
use Rattle.std.specs.Cmp.{IsTotalOrder, nat_cmp_total, eq_by_cmp_equiv}
use Rattle.std.specs.FinMap as finite
use Rattle.std.proofs.lemmas.Bool.{cases_Bool, cases_eq, lt-ltb}
use Rattle.std.proofs.lemmas.Bool.Decides.{nat_tests}
use Rattle.std.proofs.lemmas.Cmp.{then_total, on_total}
use Rattle.std.proofs.lemmas.Map.Lookups.{CmpEqualImpliesEq, exact_pairs, exact_unsigned}
use Rattle.bt_sparse.specs.NodeMap.{NodeIndex, node_cmp, Nodes, digest_at, Layers, slot_of, with_some, with_row, map_of, number_limit, nodes_in}

pub node_total : IsTotalOrder node_cmp
node_total = then_total (on_total (λ p. p.0) nat_cmp_total) (on_total (λ p. p.1) nat_cmp_total)

node_exact : CmpEqualImpliesEq node_cmp
node_exact = exact_pairs nat_cmp nat_cmp exact_unsigned exact_unsigned

-- maps that answer alike are one
pub same_map : {X : Type 0} (m n : finite.FinMap node_cmp X) → ((q : NodeIndex) → finite.get m q ≡ finite.get n q) → m ≡ n
same_map m n same = finite.same_map node_total node_exact m n same

alike : (r : Ordering) → is_eq r ≡ true → r ≡ Equal
alike Less e = absurd cc
alike Equal e = refl
alike Greater e = absurd cc

-- ---- a write
pub digest_at_empty : (layer i : ℕ) → digest_at finite.empty layer i ≡ None
digest_at_empty layer i = finite.get-empty node_cmp (layer, i)

pub digest_at_new : (m : Nodes) (layer i : ℕ) (d : List ℕ) → digest_at (finite.insert m (layer, i) d) layer i ≡ Some d
digest_at_new m layer i d = rw (finite.get-insert node_total m (layer, i) d (layer, i), (eq_by_cmp_equiv node_total).refl (layer, i))

-- another node keeps what it has
pub digest_at_other : (m : Nodes) (layer i l j : ℕ) (d : List ℕ) → (l ≡ layer → j ≡ i → ⊥) → digest_at (finite.insert m (layer, i) d) l j ≡ digest_at m l j
digest_at_other m layer i l j d apart = finite.get-insert node_total m (layer, i) d (l, j) ∙ elim (cases_Bool (eq_by_cmp node_cmp (l, j) (layer, i))) [
  | inl same ↦
      let is = node_exact (l, j) (layer, i) (alike (node_cmp (l, j) (layer, i)) same) in
      absurd (apart (ap (λ p. p.0) is) (ap (λ p. p.1) is))
  | inr other ↦ rw other
]

cases_same : (l j layer i : ℕ) → ((l ≡ layer) × (j ≡ i)) ⊎ (l ≡ layer → j ≡ i → ⊥)
cases_same l j layer i = elim (cases_eq l layer) [
  | inl p ↦ elim (cases_eq j i) [ inl q ↦ inl (p, q) | inr q ↦ inr (λ _. q) ]
  | inr p ↦ inr (λ e. absurd (p e))
]

-- what is found after a write is what was written, or was there
pub digest_at_cases : (m : Nodes) (layer i l j : ℕ) (d e : List ℕ) → digest_at (finite.insert m (layer, i) d) l j ≡ Some e
    → ((l ≡ layer) × (j ≡ i) × (e ≡ d)) ⊎ (digest_at m l j ≡ Some e)
digest_at_cases m layer i l j d e h = elim (cases_same l j layer i) [
  | inl at ↦
      let found = sym (digest_at_new m layer i d) ∙ (rw (at.0, at.1) at h) in
      inl (at.0, at.1, cc)
  | inr apart ↦ inr (sym (digest_at_other m layer i l j d apart) ∙ h)
]

-- what was there stays, where no other digest is written there
pub digest_at_kept : (m : Nodes) (layer i l j : ℕ) (d e : List ℕ) → (l ≡ layer → j ≡ i → e ≡ d) → digest_at m l j ≡ Some e
    → digest_at (finite.insert m (layer, i) d) l j ≡ Some e
digest_at_kept m layer i l j d e same h = elim (cases_same l j layer i) [
  | inl at ↦ rw (at.0, at.1, same at.0 at.1) (digest_at_new m layer i d)
  | inr apart ↦ digest_at_other m layer i l j d apart ∙ h
]

-- ---- the map of what a function gives at the first indices of the first layers
one_more : {X : Type 0} (f : ℕ → X) (b : Bool) (i n : ℕ) (o : X) → cond (b && eqb i n) (f n) (cond (b && ltb i n) (f i) o) ≡ cond (b && ltb i (suc n)) (f i) o
one_more f b i n o = grind (arith, nat_tests)

one_more_row : {X : Type 0} (f : ℕ → X) (b : Bool) (i n : ℕ) (o : X) → cond (eqb i n && b) (f n) (cond (ltb i n && b) (f i) o) ≡ cond (ltb i (suc n) && b) (f i) o
one_more_row f b i n o = grind (arith, nat_tests)

some_at : (o : Option (List ℕ)) (m : Nodes) (layer i l j : ℕ) → digest_at m layer i ≡ None
    → digest_at (with_some o layer i m) l j ≡ cond (eqb l layer && eqb j i) o (digest_at m l j)
some_at None m layer i l j none = elim (cases_same l j layer i) [ inl at ↦ rw (at.0, at.1) (grind (arith, nat_tests)) | inr apart ↦ grind (arith, nat_tests) ]
some_at (Some d) m layer i l j none = elim (cases_same l j layer i) [
  | inl at ↦ rw (at.0, at.1) (grind (arith, nat_tests, digest_at_new m layer i d))
  | inr apart ↦ grind (arith, nat_tests, digest_at_other m layer i l j d apart)
]

row_at : (f : ℕ → Option (List ℕ)) (layer width l j : ℕ) (m : Nodes) → ((i : ℕ) → digest_at m layer i ≡ None)
    → digest_at (with_row f layer width m) l j ≡ cond (eqb l layer && ltb j width) (f j) (digest_at m l j)
unfolding with_row
row_at f layer zero l j m none = grind (arith, nat_tests)
row_at f layer (suc width) l j m none =
    some_at (f width) (with_row f layer width m) layer width l j (row_at f layer width layer width m none ∙ grind (arith, nat_tests, none width))
    ∙ rw (row_at f layer width l j m none) (one_more f (eqb l layer) j width (digest_at m l j))

map_at : (f : ℕ → ℕ → Option (List ℕ)) (layers width l j : ℕ) → digest_at (map_of f layers width) l j ≡ cond (ltb l layers && ltb j width) (f l j) None
unfolding map_of
map_at f zero width l j = grind (arith, nat_tests, digest_at_empty)
map_at f (suc layer) width l j =
    row_at (f layer) layer width l j (map_of f layer width) (λ i. map_at f layer width layer i ∙ grind (arith, nat_tests))
    ∙ rw (map_at f layer width l j) (one_more_row (λ k. f k j) (ltb j width) l layer None)

-- ---- what the pages have
nodes_are : (layers : Layers) (m : Nodes) → ((l j : ℕ) → digest_at m l j ≡ cond (ltb l number_limit && ltb j number_limit) (slot_of layers l j) None) → nodes_in layers ≡ m
nodes_are layers m are = same_map (nodes_in layers) m (λ q. map_at (slot_of layers) number_limit number_limit q.0 q.1 ∙ sym (are q.0 q.1))

-- a look-up in the pages is the map's
pub node_at : (layers : Layers) (layer i : ℕ) → layer < number_limit → i < number_limit → digest_at (nodes_in layers) layer i ≡ slot_of layers layer i
node_at layers layer i low lt = map_at (slot_of layers) number_limit number_limit layer i ∙ rw (lt-ltb layer number_limit low, lt-ltb i number_limit lt)

pub no_nodes : (layers : Layers) → layers ≡ [] → nodes_in layers ≡ finite.empty
no_nodes layers e = rw e (nodes_are [] finite.empty (λ l j. digest_at_empty l j ∙ elim (cases_Bool (ltb l number_limit && ltb j number_limit)) [ inl is ↦ rw is | inr is ↦ rw is ]))

pub nodes_kept : (old new : Layers) → ((l j : ℕ) → slot_of new l j ≡ slot_of old l j) → nodes_in new ≡ nodes_in old
nodes_kept old new same = nodes_are new (nodes_in old) (λ l j. map_at (slot_of old) number_limit number_limit l j ∙ rw (same l j))

pub nodes_put : (old new : Layers) (layer i : ℕ) (d : List ℕ) → layer < number_limit → i < number_limit → slot_of new layer i ≡ Some d
    → ((l j : ℕ) → (l ≡ layer → j ≡ i → ⊥) → slot_of new l j ≡ slot_of old l j) → nodes_in new ≡ finite.insert (nodes_in old) (layer, i) d
nodes_put old new layer i d low lt here others = nodes_are new (finite.insert (nodes_in old) (layer, i) d) (λ l j. elim (cases_same l j layer i) [
  | inl at ↦ rw (at.0, at.1, lt-ltb layer number_limit low, lt-ltb i number_limit lt, here) (digest_at_new (nodes_in old) layer i d)
  | inr apart ↦ digest_at_other (nodes_in old) layer i l j d apart ∙ map_at (slot_of old) number_limit number_limit l j ∙ rw (others l j apart)
])
