-- A leaf that a tree holds is the file's, or two inputs of one digest stand on its path.
use Rattle.std.proofs.Common.{◌≡◌, ℕ, zero, suc, ◌+◌, ◌-◌, ◌*◌, ◌/◌, ◌^◌, ◌<◌, ◌⊎◌, inl, inr, List, ◌++◌, length, Some, sym, ap, ◌∙◌, add-one, arith}
use Rattle.std.proofs.Math.Nat.{pow-suc, div-div-eq-div-mul}
use Rattle.bt_tree.specs.Blocks.{block_count}
use Rattle.bt_tree.specs.TreeShape.{height_of}
use Rattle.bt_tree.specs.NodeHash.{IsDigest}
use Rattle.bt_tree.specs.Tree.{node_digest, file_root, input_at, padding_digest}
use Rattle.bt_tree.proofs.TreeNodes.{node_parent, input_parent, length-padding_digest, length-node_digest}
use Rattle.bt_tree.proofs.ComparisonClash.{same_parts}
use Rattle.bt_sparse.specs.NodeMap.{HasDigests}
use Rattle.bt_sparse.specs.SparseTree.{Facts, blocks_of, height, held_at, value_at, IsRooted}
use Rattle.bt_sparse.specs.Law.{IsClashOnPath}
use Rattle.bt_sparse.proofs.Halves.{parity}
use Rattle.bt_sparse.proofs.Values.{same_value, value_covers, value_padding, value_inside, cases_node}
use Rattle.bt_sparse.proofs.Acceptances.{list_cases}

value_length : (dig : List ℕ → List ℕ) → IsDigest dig → (k : Facts) (layer i : ℕ) (d : List ℕ) → HasDigests k.nodes → value_at dig k layer i ≡ Some d → length d ≡ 32
value_length dig is k layer i d digests value = elim (cases_node (blocks_of k) layer i (value_inside dig k layer i d value)) [
  | inl covers ↦ digests layer i d (sym (value_covers dig k layer i covers) ∙ value)
  | inr past ↦ ap length (same_value (value_at dig k layer i) d (padding_digest dig layer) value (value_padding dig k layer i past)) ∙ length-padding_digest dig is layer
]

pub on_leaf_path : (dig : List ℕ → List ℕ) → IsDigest dig → (k : Facts) (file : List ℕ) (i : ℕ) → IsRooted dig k → HasDigests k.nodes
    → length file ≡ k.file_length → file_root dig file ≡ k.root → (up layer : ℕ) (d : List ℕ) → layer + up ≡ height k
    → held_at k layer (i / 2 ^ layer) ≡ Some d → (d ≡ node_digest dig file layer (i / 2 ^ layer)) ⊎ IsClashOnPath dig k file i
on_leaf_path dig is k file i rooted digests size root zero layer d e held =
    let covers = rooted.covers layer (i / 2 ^ layer) d held in
    let level : layer ≡ height k = omega arith in
    let one : 2 ^ (height k - layer) ≡ 1 = ap (λ n. 2 ^ n) (let none : height k - layer ≡ 0 = omega arith in none) in
    let first : i / 2 ^ layer ≡ 0 = omega (arith, covers.inside.in_width, one) in
    let top : d ≡ k.root = same_value (held_at k layer (i / 2 ^ layer)) d k.root held (ap (λ l. held_at k l (i / 2 ^ layer)) level ∙ ap (held_at k (height k)) first ∙ rooted.top) in
    let file_level : height_of (block_count (length file)) ≡ layer = ap (λ n. height_of (block_count n)) size ∙ sym level in
    inl (top ∙ sym root ∙ ap (λ l. node_digest dig file l 0) file_level ∙ ap (node_digest dig file layer) (sym first))
on_leaf_path dig is k file i rooted digests size root (suc up) layer d e held =
    let low : layer < height k = omega arith in
    let p = rooted.below layer (i / 2 ^ layer) d held low in
    let half : i / 2 ^ layer / 2 ≡ i / 2 ^ (layer + 1) =
    div-div-eq-div-mul i (2 ^ layer) 2 ∙ ap (λ q. i / q) (sym (pow-suc 2 layer)) ∙ ap (λ l. i / 2 ^ l) (sym (add-one layer)) in
    let above : held_at k (layer + 1) (i / 2 ^ (layer + 1)) ≡ Some (dig (p.left ++ p.right)) = ap (held_at k (layer + 1)) (sym half) ∙ p.parent in
    elim (on_leaf_path dig is k file i rooted digests size root up (layer + 1) (dig (p.left ++ p.right)) (omega arith) above) [
      | inl same ↦ below low p.left p.right half p.left_value p.right_value same (value_covers dig k layer (i / 2 ^ layer) (rooted.covers layer (i / 2 ^ layer) d held) ∙ held)
      | inr clash ↦ inr clash
    ]
  where
    below : layer < height k → (left right : List ℕ) → i / 2 ^ layer / 2 ≡ i / 2 ^ (layer + 1) → value_at dig k layer (2 * (i / 2 ^ layer / 2)) ≡ Some left
        → value_at dig k layer (2 * (i / 2 ^ layer / 2) + 1) ≡ Some right → dig (left ++ right) ≡ node_digest dig file (layer + 1) (i / 2 ^ (layer + 1))
        → value_at dig k layer (i / 2 ^ layer) ≡ Some d → (d ≡ node_digest dig file layer (i / 2 ^ layer)) ⊎ IsClashOnPath dig k file i
    below low left right half kl kr same value =
        let j : ℕ = i / 2 ^ (layer + 1) in
        let input : input_at dig file (layer + 1) (i / 2 ^ (layer + 1)) ≡ node_digest dig file layer (2 * (i / 2 ^ (layer + 1))) ++ node_digest dig file layer (2 * (i / 2 ^ (layer + 1)) + 1) =
        ap (λ l. input_at dig file l (i / 2 ^ (layer + 1))) (add-one layer) ∙ input_parent dig file layer (i / 2 ^ (layer + 1)) in
        let digest : node_digest dig file (layer + 1) (i / 2 ^ (layer + 1)) ≡ dig (input_at dig file (layer + 1) (i / 2 ^ (layer + 1))) =
        ap (λ l. node_digest dig file l (i / 2 ^ (layer + 1))) (add-one layer) ∙ node_parent dig file layer (i / 2 ^ (layer + 1)) ∙ ap dig (sym input) in
        elim (list_cases (left ++ right) (input_at dig file (layer + 1) (i / 2 ^ (layer + 1)))) [
          | inl equal ↦
              let parts = same_parts left (node_digest dig file layer (2 * (i / 2 ^ (layer + 1)))) right (node_digest dig file layer (2 * (i / 2 ^ (layer + 1)) + 1))
              (value_length dig is k layer (2 * (i / 2 ^ layer / 2)) left digests kl ∙ sym (length-node_digest dig is file layer (2 * (i / 2 ^ (layer + 1))))) (equal ∙ input) in
              elim (parity (i / 2 ^ layer)) [
                | inl q ↦
                    let here : 2 * (i / 2 ^ layer / 2) ≡ i / 2 ^ layer = omega (arith, q.0) in
                    inl (same_value (value_at dig k layer (i / 2 ^ layer)) d left value (ap (value_at dig k layer) (sym here) ∙ kl)
                    ∙ parts.0 ∙ ap (λ n. node_digest dig file layer (2 * n)) (sym half) ∙ ap (node_digest dig file layer) here)
                | inr q ↦
                    let here : 2 * (i / 2 ^ layer / 2) + 1 ≡ i / 2 ^ layer = omega (arith, q.0) in
                    inl (same_value (value_at dig k layer (i / 2 ^ layer)) d right value (ap (value_at dig k layer) (sym here) ∙ kr)
                    ∙ parts.1 ∙ ap (λ n. node_digest dig file layer (2 * n + 1)) (sym half) ∙ ap (node_digest dig file layer) here)
              ]
          | inr apart ↦ inr record {
            layer = layer;
            left = left;
            right = right;
            low = low;
            left_value = ap (λ n. value_at dig k layer (2 * n)) (sym half) ∙ kl;
            right_value = ap (λ n. value_at dig k layer (2 * n + 1)) (sym half) ∙ kr;
            inputs = apart;
            digests = same ∙ digest;
          }
        ]
