-- Tables of pages and of layers: what is there after one of them has changed.
use Rattle.std.proofs.Common.{◌≡◌, ℕ, zero, suc, ◌+◌, ◌-◌, ◌/◌, ◌%◌, ◌<◌, ◌≤◌, inl, inr, List, [], ◌∷◌, ◌++◌, length, set, get_or, None, refl, sym, ap, ◌∙◌, get_or-set_same, get_or-set_other, arith}
use Rattle.std.proofs.lemmas.Bool.{cases_lt, cases_eq}
use Rattle.std.proofs.lemmas.List.{get_or_append_left, get_or-append_right, get_or_past, get_or_read}
use Rattle.std.specs.FinMap as finite
use Rattle.std.specs.Option.{IsSome}
use Rattle.bt_sparse.specs.Page.{page_length}
use Rattle.bt_sparse.specs.PageTable.{Pages, slot_at}
use Rattle.bt_sparse.specs.LayerPages.{Tables, table_length, entry_at, KeepsTables, IsPutInto}
use Rattle.bt_sparse.specs.NodeMap.{Layers, HasPlace, digest_at, number_limit, nodes_in}
use Rattle.bt_sparse.proofs.NodeMaps.{node_at, nodes_kept, nodes_put}

-- a default that is pushed changes no look-up
pub pushed_default : {X : Type 0} (xs : List X) (d : X) (i : ℕ) → get_or (xs ++ d ∷ []) i d ≡ get_or xs i d
pushed_default xs d i = elim (cases_lt i (length xs)) [
  | inl lt ↦ get_or_append_left xs (d ∷ []) d i lt
  | inr le ↦ get_or-append_right xs (d ∷ []) (length xs) i d refl le ∙ last (i - length xs) ∙ sym (get_or_past xs i d le)
]
  where
    last : (j : ℕ) → get_or (d ∷ []) j d ≡ d
    last zero = refl
    last (suc j) = refl

-- ---- a table of layers
-- pages were made in a layer
pub layer_nodes : (old mid : Layers) (layer : ℕ) (t q : Tables) → ((l : ℕ) → get_or mid l [] ≡ get_or old l []) → layer < length mid
    → t ≡ get_or mid layer t → KeepsTables t q → nodes_in (set mid layer q) ≡ nodes_in old
layer_nodes old mid layer t q same inside read kept = nodes_kept old (set mid layer q) (λ l j. elim (cases_eq l layer) [
  | inl here ↦ rw (here, get_or-set_same mid layer q [] inside, ← same layer) (rw (get_or_read mid layer t inside read []) at (kept.same j))
  | inr apart ↦ rw (get_or-set_other mid layer l q [] apart, same l)
])

-- the page of a node is in a layer of the table
pub has_layer : (layers : Layers) (layer i : ℕ) → HasPlace layers layer i → layer < length layers
has_layer layers layer i place = elim (cases_lt layer (length layers)) [
  | inl inside ↦ inside
  | inr past ↦ absurd (omega (arith, rw (get_or_past layers layer [] past) at place))
]

-- a digest was put into a layer
module _ (old : Layers) (layer i : ℕ) (t : Tables) (read : t ≡ get_or old layer t) (place : HasPlace old layer i) (low : layer < number_limit) (lt : i < number_limit) where
  pub node_read : digest_at (nodes_in old) layer i ≡ entry_at t i
  node_read = node_at old layer i low lt ∙ ap (λ (tables : Tables). entry_at tables i) (sym (get_or_read old layer t (has_layer old layer i place) read []))

  pub put_nodes : (d : List ℕ) (q : Tables) → IsPutInto i d t q → nodes_in (set old layer q) ≡ finite.insert (nodes_in old) (layer, i) d
  put_nodes d q put = nodes_put old (set old layer q) layer i d low lt
      (rw (get_or-set_same old layer q [] (has_layer old layer i place)) put.here)
      (λ l j apart. elim (cases_eq l layer) [
        | inl here ↦ rw (here, get_or-set_same old layer q [] (has_layer old layer i place))
            (rw (get_or_read old layer t (has_layer old layer i place) read []) at (put.others j (apart here)))
        | inr other ↦ rw (get_or-set_other old layer l q [] other)
      ])

-- ---- digests in a row, as far as a page goes
-- of a page, and so of its table
pub table_run : (pages : Pages) (i n : ℕ) → i % page_length + n ≤ page_length
    → ((j : ℕ) → j < n → IsSome (get_or (get_or pages (i / page_length) []) (i % page_length + j) None)) → (j : ℕ) → j < n → IsSome (slot_at pages (i + j))
table_run pages i n inside held j lt =
    let page : (i + j) / 512 ≡ i / 512 = omega arith in
    let place : (i + j) % 512 ≡ i % 512 + j = omega arith in
    rw (page, place) (held j lt)

-- of a table, and so of its layer
pub layer_run : (tables : Tables) (i n : ℕ) → i % page_length + n ≤ page_length
    → ((j : ℕ) → j < n → IsSome (slot_at (get_or tables (i / table_length) []) (i % table_length + j))) → (j : ℕ) → j < n → IsSome (entry_at tables (i + j))
layer_run tables i n inside held j lt =
    let flat : i % 262144 % 512 ≡ i % 512 = omega arith in
    let table : (i + j) / 262144 ≡ i / 262144 = omega arith in
    let place : (i + j) % 262144 ≡ i % 262144 + j = omega arith in
    rw (table, place) (held j lt)

-- of a layer, and so of the map
pub node_run : (layers : Layers) (layer i n : ℕ) → layer < number_limit → i < number_limit → i % page_length + n ≤ page_length
    → ((j : ℕ) → j < n → IsSome (entry_at (get_or layers layer []) (i + j))) → (j : ℕ) → j < n → IsSome (digest_at (nodes_in layers) layer (i + j))
node_run layers layer i n low fits inside held j lt = rw (node_at layers layer (i + j) low (omega arith)) (held j lt)
