-- An ordered map in place of pages, as the tests have it: it answers as the finite map of its entries.
use Rattle.std.proofs.Common.{◌≡◌, cond, List, [], ◌∷◌, Some, refl, sym, ap, ◌∙◌}
use Rattle.std.specs.Ordering.{eq_by_cmp}
use Rattle.std.specs.Cmp.{eq_by_cmp_equiv}
use Rattle.std.specs.FinMap as finite
use Rattle.std.specs.BTreeMap.{BTreeMap, get, get_by, is_at}
use Rattle.std.specs.Map.{lookup}
use Rattle.bt_sparse.specs.NodeMap.{NodeIndex, node_cmp}
use Rattle.bt_sparse.proofs.NodeMaps.{node_total, same_map}

found : {X : Type 0} (q : NodeIndex) (es : List (NodeIndex × X)) → finite.find node_cmp q es ≡ lookup (is_at (node_cmp q)) es
found q [] = refl
found q (e ∷ es) = ap (cond (eq_by_cmp node_cmp q e.0) (Some e.1)) (found q es)

-- a map, as the finite map of its entries, answers as it does itself
pub map_get : {X : Type 0} (m : BTreeMap NodeIndex X) (q : NodeIndex) → finite.get (finite.from_entries {R = node_cmp} m.entries) q ≡ get_by (node_cmp q) m
map_get m q = finite.get-from_entries node_total m.entries q ∙ found q m.entries

-- and an entry that is put into it is put into that finite map
pub map_insert : {X : Type 0} (m n : BTreeMap NodeIndex X) (k : NodeIndex) (v : X)
    → ((q : NodeIndex) → get node_cmp n q ≡ cond (is_at (node_cmp k) q) (Some v) (get node_cmp m q))
    → finite.from_entries {R = node_cmp} n.entries ≡ finite.insert (finite.from_entries m.entries) k v
map_insert m n k v updates = same_map _ _ (λ q.
    map_get n q ∙ updates q ∙ ap (λ b. cond b (Some v) (get node_cmp m q)) ((eq_by_cmp_equiv node_total).symm k q)
    ∙ ap (cond (eq_by_cmp node_cmp q k) (Some v)) (sym (map_get m q)) ∙ sym (finite.get-insert node_total (finite.from_entries m.entries) k v q))
