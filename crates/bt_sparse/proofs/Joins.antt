-- A claim that is accepted keeps a tree rooted.
use Rattle.std.proofs.Common.{◌≡◌, ℕ, ◌/◌, ◌<◌, inl, inr, List, Some, sym, ap, ◌∙◌, subst}
use Rattle.std.proofs.lemmas.Bool.{cases_lt}
use Rattle.bt_tree.specs.Blocks.{block_count}
use Rattle.bt_tree.specs.TreeShape.{height_of, CoversBlock}
use Rattle.bt_sparse.specs.SparseTree.{Facts, blocks_of, height, held_at, value_at, IsRooted, HasParent}
use Rattle.bt_sparse.specs.declared.claim.Claim.{Claim}
use Rattle.bt_sparse.specs.Claim.{Claims, top_layer, top_digest}
use Rattle.bt_sparse.specs.Acceptance.{IsJoined, Accepts}
use Rattle.bt_sparse.proofs.Values.{value_covers, value_padding, value_inside, cases_node, covers_parent}
use Rattle.bt_sparse.proofs.Claims.{pair_of, last_of, claim_inside}

-- no value changes
pub value_kept : (dig : List ℕ → List ℕ) (old new : Facts) (c : Claim) (layer i : ℕ) (d : List ℕ) → IsJoined dig old c new
    → value_at dig old layer i ≡ Some d → value_at dig new layer i ≡ Some d
value_kept dig old new c layer i d joins e =
    let same : blocks_of new ≡ blocks_of old = ap block_count joins.file_length in
    elim (cases_node (blocks_of old) layer i (value_inside dig old layer i d e)) [
      | inl covers ↦ value_covers dig new layer i (rw same covers) ∙ joins.kept layer i d (sym (value_covers dig old layer i covers) ∙ e)
      | inr past ↦ value_padding dig new layer i (rw same past) ∙ sym (value_padding dig old layer i past) ∙ e
    ]

-- what was claimed of a node is its value
pub claimed_value : (dig : List ℕ → List ℕ) (old new : Facts) (c : Claim) (layer i : ℕ) (d : List ℕ) → Accepts dig old c new
    → Claims dig c layer i d → value_at dig new layer i ≡ Some d
claimed_value dig old new c layer i d h claim =
    let same : blocks_of new ≡ blocks_of old = ap block_count h.joins.file_length in
    elim (cases_node (blocks_of old) layer i (claim_inside h.conditions.shape claim)) [
      | inl covers ↦ value_covers dig new layer i (rw same covers) ∙ h.joins.added layer i d claim covers
      | inr past ↦ value_padding dig new layer i (rw same past) ∙ ap (λ x. Some x) (sym (h.conditions.padding layer i d claim past))
    ]

pub keeps_rooted : (dig : List ℕ → List ℕ) (old new : Facts) (c : Claim) → Accepts dig old c new → IsRooted dig old → IsRooted dig new
keeps_rooted dig old new c h rooted =
    let joins = h.joins in
    let same : blocks_of new ≡ blocks_of old = ap block_count joins.file_length in
    let level : height new ≡ height old = ap height_of same in
    let was_below : (layer i : ℕ) (d : List ℕ) → held_at old layer i ≡ Some d → layer < height old → HasParent dig new layer (i / 2) =
    λ layer i d e low. let p = rooted.below layer i d e low in record {
      left = p.left;
      right = p.right;
      left_value = value_kept _ _ _ _ _ _ _ joins p.left_value;
      right_value = value_kept _ _ _ _ _ _ _ joins p.right_value;
      parent = joins.kept _ _ _ p.parent;
    } in
    let came_below : (layer i : ℕ) (d : List ℕ) → Claims dig c layer i d → CoversBlock (blocks_of old) layer i → layer < height old
    → HasParent dig new layer (i / 2) =
    λ layer i d claim covers low. elim (cases_lt layer (top_layer c)) [
      | inl lt ↦ let p = pair_of claim lt in record {
        left = p.left;
        right = p.right;
        left_value = claimed_value _ _ _ _ _ _ _ h p.is.left;
        right_value = claimed_value _ _ _ _ _ _ _ h p.is.right;
        parent = joins.added _ _ _ p.is.above (covers_parent (blocks_of old) layer i covers low);
      }
      | inr le ↦ let last = last_of claim le in was_below layer i (top_digest dig c) (rw (last.here, last.node) h.conditions.top) low
    ] in
    record {
      top = rw (level, joins.root) (joins.kept (height old) 0 old.root rooted.top);
      covers = λ layer i d e. rw same (elim (joins.only layer i d e) [ inl was ↦ rooted.covers layer i d was | inr came ↦ came.1 ]);
      below = λ layer i d e low. elim (joins.only layer i d e) [
        | inl was ↦ was_below layer i d was (subst (λ n. layer < n) level low)
        | inr came ↦ came_below layer i d came.0 came.1 (subst (λ n. layer < n) level low)
      ];
    }
