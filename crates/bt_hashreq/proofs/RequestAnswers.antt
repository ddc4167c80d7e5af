-- The answer to the key that asks for a leaf gives the leaf.
use Rattle.std.proofs.Common.{◌≡◌, ℕ, zero, suc, ◌+◌, ◌-◌, ◌*◌, ◌/◌, ◌^◌, ◌<◌, ◌≤◌, min, List, length, take, drop, Option, Some, None, IsSome, inl, inr, ap, sym, refl, ◌∙◌, subst, length-drop, add-one, arith}
use Rattle.std.proofs.Math.Nat.{pow-suc, div-div-eq-div-mul, mul-div_cancel}
use Rattle.std.proofs.lemmas.Nat.{pow_pos, pow-add}
use Rattle.std.proofs.lemmas.Bool.{false≢true}
use Rattle.std.proofs.lemmas.List.{length-take-le}
use Rattle.bt_tree.specs.Blocks.{block_count}
use Rattle.bt_tree.specs.TreeShape.{height_of, CoversBlock}
use Rattle.bt_tree.proofs.TreeShape.{real_lt}
use Rattle.bt_tree.specs.Peaks.{row_node}
use Rattle.bt_sparse.specs.declared.claim.Claim.{Claim}
use Rattle.bt_sparse.specs.SparseTree.{Facts, blocks_of, height, held_at, IsRooted}
use Rattle.bt_sparse.specs.Claim.{Claims, in_run, run_height, run_node, run_digest, top_layer, top_node}
use Rattle.bt_sparse.specs.Answer.{IsRequest, KnowsAll, claim_of, answer_size, answer_layer, answer_index, uncle_count}
use Rattle.bt_sparse.proofs.Values.{cases_node}
use Rattle.bt_sparse.proofs.Requests.{answer_inside, within_inside, known_held, known_padding}
use Rattle.bt_sparse.proofs.Taken.{answers_are_taken}
use Rattle.bt_hashreq.specs.declared.key.HashKey.{HashKey}
use Rattle.bt_hashreq.specs.Claim.{digests_in}
use Rattle.bt_hashreq.specs.Request.{max_run_height}
use Rattle.bt_hashreq.specs.Law.{HasLeaves, IsLawfulPlan, TeachesLeaf, PlansTeach}
use Rattle.bt_hashreq.proofs.ClaimRun.{height_of-pow}
use Rattle.bt_sparse.proofs.Anchors.{covers_above}
use Rattle.bt_hashreq.proofs.RequestShape.{plans_are_lawful, anchor_above}

-- ---- a rooted tree with all leaves holds every node that covers a block
parent_held : (dig : List ℕ → List ℕ) (k : Facts) (layer i : ℕ) → IsRooted dig k → layer < height k → IsSome (held_at k layer i)
    → IsSome (held_at k (layer + 1) (i / 2))
parent_held dig k layer i rooted low some = go (held_at k layer i) refl some
  where
    go : (o : Option (List ℕ)) → held_at k layer i ≡ o → IsSome o → IsSome (held_at k (layer + 1) (i / 2))
    go None e s = absurd (false≢true s)
    go (Some d) e s = let p = rooted.below layer i d e low in subst IsSome (sym p.parent) refl

above_held : (dig : List ℕ → List ℕ) (k : Facts) (leaf layer : ℕ) → IsRooted dig k → layer ≤ height k → IsSome (held_at k 0 leaf)
    → IsSome (held_at k layer (leaf / 2 ^ layer))
above_held dig k leaf zero rooted low some = let one : leaf ≡ leaf / 1 = omega arith in subst (λ (i : ℕ). IsSome (held_at k 0 i)) one some
above_held dig k leaf (suc layer) rooted low some =
    let below = above_held dig k leaf layer rooted (omega arith) some in
    let half : leaf / 2 ^ layer / 2 ≡ leaf / 2 ^ suc layer = div-div-eq-div-mul leaf (2 ^ layer) 2 ∙ ap (λ q. leaf / q) (sym (pow-suc 2 layer)) in
    subst (λ (l : ℕ). IsSome (held_at k l (leaf / 2 ^ suc layer))) (add-one layer)
    (subst (λ (i : ℕ). IsSome (held_at k (layer + 1) i)) half (parent_held dig k layer (leaf / 2 ^ layer) rooted (omega arith) below))

node_held : (dig : List ℕ → List ℕ) (k : Facts) (layer i : ℕ) → IsRooted dig k → HasLeaves k → CoversBlock (blocks_of k) layer i → IsSome (held_at k layer i)
node_held dig k layer i rooted all covers =
    let leaf = all (i * 2 ^ layer) (real_lt (blocks_of k) (2 ^ layer) i (pow_pos layer) covers.real) in
    subst (λ (j : ℕ). IsSome (held_at k layer j)) (mul-div_cancel i (pow_pos layer))
    (above_held dig k (i * 2 ^ layer) layer rooted covers.inside.in_height leaf)

knows_all : (dig : List ℕ → List ℕ) (k : Facts) (base index count layers : ℕ) → IsRooted dig k → HasLeaves k → IsRequest (height k) base index count layers
    → KnowsAll dig k base index count layers
knows_all dig k base index count layers rooted all request t within =
    let at = within_inside k (height k) (answer_layer base count t) (answer_index index count t) refl (answer_inside (height k) base index count layers t request within) in
    elim (cases_node (blocks_of k) (answer_layer base count t) (answer_index index count t) at) [
      | inl covers ↦ known_held dig k (answer_layer base count t) (answer_index index count t) covers
          (node_held dig k (answer_layer base count t) (answer_index index count t) rooted all covers)
      | inr past ↦ known_padding dig k (answer_layer base count t) (answer_index index count t) past
    ]

-- ---- the claim of an answer to the key that asks for a leaf, with a run of 2 ^ m below layer `anchor`
record HasPlannedTop (c : Claim) (leaf m anchor : ℕ) : Type 0 where
  height : run_height c ≡ m
  run : run_node c ≡ leaf / 2 ^ m
  layer : top_layer c ≡ anchor
  node : top_node c ≡ leaf / 2 ^ anchor

planned_top : (leaf m anchor : ℕ) (ds : List (List ℕ)) → 1 ≤ m → m ≤ anchor → length ds ≡ answer_size (2 ^ m) (anchor - 1)
    → HasPlannedTop (claim_of 0 (leaf / 2 ^ m * 2 ^ m) (2 ^ m) ds) leaf m anchor
planned_top leaf m anchor ds some low size =
    let level : height_of (2 ^ m) ≡ m = height_of-pow (2 ^ m) m refl in
    let uncles : uncle_count (height_of (2 ^ m)) (anchor - 1) ≡ anchor - m = omega (arith, level) in
    let run : length (take (2 ^ m) ds) ≡ 2 ^ m = length-take-le (2 ^ m) ds (omega (arith, size)) in
    let rest : length (drop (2 ^ m) ds) ≡ anchor - m = length-drop (2 ^ m) ds ∙ omega (arith, size, uncles) in
    let top : height_of (length (take (2 ^ m) ds)) ≡ m = ap height_of run ∙ level in
    let node : leaf / 2 ^ m * 2 ^ m / 2 ^ height_of (length (take (2 ^ m) ds)) ≡ leaf / 2 ^ m =
    ap (λ h. leaf / 2 ^ m * 2 ^ m / 2 ^ h) top ∙ mul-div_cancel (leaf / 2 ^ m) (pow_pos m) in
    let whole : m + (anchor - m) ≡ anchor = omega arith in
    record {
      height = top;
      run = node;
      layer = omega (arith, top, rest);
      node = ap (λ i. i / 2 ^ length (drop (2 ^ m) ds)) node ∙ ap (λ n. leaf / 2 ^ m / 2 ^ n) rest
          ∙ div-div-eq-div-mul leaf (2 ^ m) (2 ^ (anchor - m)) ∙ ap (λ q. leaf / q) (sym (pow-add 2 m (anchor - m))) ∙ ap (λ n. leaf / 2 ^ n) whole;
    }

-- the claim has the leaf in its run
leaf_claim : (dig : List ℕ → List ℕ) (c : Claim) (leaf m anchor : ℕ) → c.base ≡ 0 → HasPlannedTop c leaf m anchor
    → Claims dig c 0 leaf (row_node dig (run_digest c) 0 leaf)
leaf_claim dig c leaf m anchor base h = in_run record {
  above = 0;
  here = omega (arith, base);
  low = omega arith;
  under = let none : run_height c - 0 ≡ run_height c = omega arith in ap (λ n. leaf / 2 ^ n) (none ∙ h.height) ∙ sym h.run;
  digest = refl;
}

teaches : (dig : List ℕ → List ℕ) (k full : Facts) (leaf m anchor : ℕ) → 1 ≤ m → m ≤ anchor → leaf < blocks_of k
    → IsSome (held_at k anchor (leaf / 2 ^ anchor)) → IsRooted dig full → full.file_length ≡ k.file_length → HasLeaves full
    → IsLawfulPlan k record { root = k.root; base = 0; index = leaf / 2 ^ m * 2 ^ m; length = 2 ^ m; layers = anchor - 1 }
    → TeachesLeaf dig k full leaf record { root = k.root; base = 0; index = leaf / 2 ^ m * 2 ^ m; length = 2 ^ m; layers = anchor - 1 }
teaches dig k full leaf m anchor some low inside held rooted same all lawful =
    let request : IsRequest (height full) 0 (leaf / 2 ^ m * 2 ^ m) (2 ^ m) (anchor - 1) =
    subst (λ (n : ℕ). IsRequest (height_of (block_count n)) 0 (leaf / 2 ^ m * 2 ^ m) (2 ^ m) (anchor - 1)) (sym same) lawful.request in
    record {
      known = knows_all dig full 0 (leaf / 2 ^ m * 2 ^ m) (2 ^ m) (anchor - 1) rooted all request;
      claims = λ bytes a. record { shape = lawful.shape; size = a.size; claim_is = refl };
      taken = λ bytes a agrees.
          let top = planned_top leaf m anchor (digests_in bytes) some low a.answer.size in
          answers_are_taken dig full k 0 (leaf / 2 ^ m * 2 ^ m) (2 ^ m) (anchor - 1) (digests_in bytes) rooted request a.answer (sym same)
          (subst IsSome (ap (λ l. held_at k l (leaf / 2 ^ anchor)) (sym top.layer) ∙ ap (held_at k (top_layer (claim_of 0 (leaf / 2 ^ m * 2 ^ m) (2 ^ m) (digests_in bytes)))) (sym top.node)) held) agrees;
      learned = λ bytes new a joins.
          let top = planned_top leaf m anchor (digests_in bytes) some low a.answer.size in
          let one : leaf / 1 ≡ leaf = omega arith in
          let covers : CoversBlock (blocks_of k) 0 leaf = subst (CoversBlock (blocks_of k) 0) one (covers_above (blocks_of k) leaf 0 inside (omega arith)) in
          subst IsSome (sym (joins.added 0 leaf _ (leaf_claim dig (claim_of 0 (leaf / 2 ^ m * 2 ^ m) (2 ^ m) (digests_in bytes)) leaf m anchor refl top) covers)) refl;
    }

pub plans_teach : (dig : List ℕ → List ℕ) → PlansTeach dig
plans_teach dig k full leaf key lawful inside none plan rooted same all =
    let some : 1 ≤ plan.anchor = anchor_above k leaf plan.anchor none plan.nearest in
    let good = subst (λ (key : HashKey). IsLawfulPlan k key) plan.key_is (plans_are_lawful k leaf key lawful inside none plan) in
    subst (λ (key : HashKey). TeachesLeaf dig k full leaf key) (sym plan.key_is)
    (teaches dig k full leaf (min plan.anchor max_run_height) plan.anchor (omega arith) (omega arith) inside plan.nearest.held rooted same all good)
