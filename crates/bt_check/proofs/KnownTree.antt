-- What the tree of a file holds, as far as a torrent tells it.
use Rattle.std.proofs.Common.{◌≡◌, ◌≢◌, ℕ, ◌-◌, ◌/◌, ◌^◌, ◌<◌, Option, None, Some, List, [], ◌∷◌, length, arith, refl, sym, ap, ◌∙◌, subst}
use Rattle.std.specs.Prelude.{slice_index_or}
use Rattle.std.specs.FinMap as finite
use Rattle.std.specs.Simd.{first_chunks}
use Rattle.std.proofs.lemmas.Bool.{eq-eqb, ne_eqb}
use Rattle.std.proofs.lemmas.List.{nil_from_length}
use Rattle.std.proofs.lemmas.Nat.{pow_pos}
use Rattle.sha2.specs.Sha256.{sha256}
use Rattle.bt_tree.specs.Blocks.{IsFileLength, block_count}
use Rattle.bt_tree.specs.TreeShape.{height_of, real_width}
use Rattle.bt_tree.specs.Peaks.{row_node}
use Rattle.bt_tree.proofs.TreeShape.{height_is, real_some, real_le}
use Rattle.bt_tree.proofs.LayerNodes.{row_zero}
use Rattle.bt_sparse.specs.SparseTree.{Facts, held_at, root_facts}
use Rattle.bt_sparse.specs.Layer.{IsToldTree, of_layer, of_root, layer_digest}
use Rattle.bt_sparse.proofs.NodeMaps.{digest_at_new, digest_at_other, digest_at_empty}
use Rattle.bt_sparse.proofs.LayerNodes.{layer_real}
use Rattle.bt_sparse.proofs.LayerTrees.{chunk_count}
use Rattle.bt_sparse.proofs.Values.{none_some}
use Rattle.bt_meta.specs.Files.{File}
use Rattle.bt_check.specs.Finding.{KnownLayer, known_layer, digests_in, no_leaves}
use Rattle.bt_check.specs.CheckSteps.{HoldsLeaves}
use Rattle.bt_check.proofs.PiecesNode.{covers}

root_known : (layer : ℕ) (file : File) → file.layer ≡ []
    → known_layer layer file ≡ record { layer = height_of (block_count file.length); digests = file.root ∷ [] }
root_known layer file none = rw (eq-eqb (length file.layer) 0 (ap length none)) refl

layer_known : (layer : ℕ) (file : File) → file.layer ≢ [] → known_layer layer file ≡ record { layer = layer; digests = digests_in file.layer }
layer_known layer file some = rw (ne_eqb (length file.layer) 0 (λ none. some (nil_from_length file.layer none))) refl

nothing : {X : Type 0} (o : Option X) → ((x : X) → o ≡ Some x → ⊥) → o ≡ None
nothing None h = refl
nothing (Some x) h = absurd (h x refl)

pub told_known : (n layer : ℕ) (file : File) (k : Facts) → n ≡ file.length → IsFileLength n → IsToldTree sha256 n file.root layer file.layer k
    → HoldsLeaves n (known_layer layer file) no_leaves k
told_known n layer file k same lawful (of_root none is) =
    let blocks : ℕ = block_count n in
    let enough = (height_is blocks).enough in
    let root : List ℕ = file.root in
    let high : height_of blocks ≡ height_of (block_count file.length) = ap (λ m. height_of (block_count m)) same in
    let only : KnownLayer = record { layer = height_of blocks; digests = root ∷ [] } in
    let held : (l i : ℕ) → held_at k l i ≡ held_at (root_facts n root) l i = λ l i. ap (λ f. held_at f l i) is in
    let just : HoldsLeaves n only no_leaves k = record {
      length_is = ap (λ (f : Facts). f.file_length) is;
      inside = omega arith;
      width = omega (
        arith,
        real_some blocks (2 ^ height_of blocks) (pow_pos (height_of blocks)) (omega (arith, lawful.some)),
        real_le blocks (2 ^ height_of blocks) 1 (pow_pos (height_of blocks)) (omega (arith, enough)),
      );
      holds = λ i lt.
          let first : i ≡ 0 = omega (arith, lt) in
          rw first (held (height_of blocks) 0 ∙ digest_at_new finite.empty (height_of blocks) 0 root);
      leaf = λ i d _ e. absurd (none_some d e);
      bare = λ _ _ _ l i low _ _.
          held l i ∙ digest_at_other finite.empty (height_of blocks) 0 l i root (λ e _. omega (arith, e, low)) ∙ digest_at_empty l i;
    } in
    let known : only ≡ known_layer layer file =
    ap (λ h. record { layer = h; digests = root ∷ [] }) high ∙ sym (root_known layer file none) in
    subst (λ w. HoldsLeaves n w no_leaves k) known just
told_known n layer file k same lawful (of_layer some holds) =
    let blocks : ℕ = block_count n in
    let size = holds.is_layer.size.size in
    let inside = holds.is_layer.size.inside in
    let count : length file.layer / 32 ≡ real_width blocks layer = omega (arith, size) in
    let chunks : digests_in file.layer ≡ first_chunks 32 (real_width blocks layer) file.layer = ap (λ m. first_chunks 32 m file.layer) count in
    let length_is : length (digests_in file.layer) ≡ real_width blocks layer = chunk_count (length file.layer / 32) file.layer ∙ count in
    let just : HoldsLeaves n (record { layer = layer; digests = digests_in file.layer }) no_leaves k = record {
      length_is = holds.length_is;
      inside = inside;
      width = length_is;
      holds = λ i lt.
          let real : i < real_width blocks layer = omega (arith, lt, length_is) in
          let here : layer - layer ≡ 0 = omega arith in
          holds.holds layer i (omega arith) (covers blocks layer i inside real)
          ∙ ap (λ d. Some d) (ap (λ h. row_node sha256 (layer_digest sha256 blocks layer file.layer) h i) here
          ∙ row_zero sha256 (layer_digest sha256 blocks layer file.layer) i
          ∙ layer_real sha256 blocks layer file.layer i real ∙ ap (λ l. slice_index_or l i []) (sym chunks));
      leaf = λ i d _ e. absurd (none_some d e);
      bare = λ _ _ _ l i low _ _. nothing (held_at k l i) (λ d held. let past = (holds.only l i d held).0 in omega (arith, past, low));
    } in
    subst (λ w. HoldsLeaves n w no_leaves k) (sym (layer_known layer file some)) just
