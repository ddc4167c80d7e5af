-- Lemmas on the digests of whole files.
use Rattle.std.proofs.Common.{◌≡◌, ℕ, ◌+◌, ◌-◌, ◌*◌, ◌^◌, ◌<◌, ◌≤◌, List, Option, length, inl, inr, arith, sym, ap, ◌∙◌, subst}
use Rattle.std.proofs.lemmas.Bool.{cases_lt}
use Rattle.std.proofs.lemmas.Nat.{pow_below}
use Rattle.sha2.specs.Sha256.{sha256}
use Rattle.bt_tree.specs.Blocks.{block_count}
use Rattle.bt_tree.specs.RootBuilder.{BuilderState, first_block, node_end}
use Rattle.bt_tree.specs.TreeShape.{height_of, real_width}
use Rattle.bt_tree.specs.Layers.{HasLayerSize, fold_of, layer_digests}
use Rattle.bt_tree.proofs.TreeShape.{height_is}
use Rattle.bt_check.specs.DigestSteps.{GivesLayer, GivesFile}
use Rattle.bt_check.specs.Digests.{IsPieceLayer}
use Rattle.bt_check.specs.declared.digests.Digests.{Digests}
use Rattle.bt_check.proofs.DigestLayer.{root_folded}

-- the whole file lies below the root
pub root_covers : (bytes : ℕ) (b : BuilderState) → b.file_length ≡ bytes → b.layer ≡ height_of (block_count bytes) → b.index ≡ 0
    → 16384 * first_block b + bytes ≡ node_end b
root_covers bytes b size layer index =
    let enough : block_count bytes ≤ 2 ^ b.layer = subst (λ h. block_count bytes ≤ 2 ^ h) (sym layer) (height_is (block_count bytes)).enough in
    let first : first_block b ≡ 0 = rw index (omega arith) in
    omega (arith, enough, first, size)

-- a file longer than a piece has the layer of pieces
pub layer_inside : (file_length layer : ℕ) → 16384 * 2 ^ layer < file_length → layer ≤ height_of (block_count file_length)
layer_inside file_length layer long =
    let h : ℕ = height_of (block_count file_length) in
    let enough = (height_is (block_count file_length)).enough in
    elim (cases_lt h layer) [ inl lt ↦ let less = pow_below h layer lt in absurd (omega (arith, enough, less, long)) | inr le ↦ le ]

-- the pieces' digests have the layer's size
pub layer_sized : (old new : Option (List ℕ)) (file_length layer : ℕ) (bytes : List ℕ) → 16384 * 2 ^ layer < file_length
    → GivesLayer old new file_length layer bytes → HasLayerSize (block_count file_length) layer bytes
layer_sized old new file_length layer bytes long g = record {
  inside = layer_inside file_length layer long;
  size = g.layer_is.size ∙ ap (λ k. 32 * real_width (block_count k) layer) g.whole;
}

-- a longer file
pub long_file : (old new : Option (List ℕ)) (file_length layer : ℕ) (bytes root : List ℕ) (digests : Digests)
    → 16384 * 2 ^ layer < file_length → GivesLayer old new file_length layer bytes
    → root ≡ fold_of sha256 (height_of (block_count file_length) - layer) (layer_digests sha256 (block_count file_length) layer bytes)
    → digests.root ≡ root → digests.layer.items ≡ bytes → GivesFile old new file_length layer digests
long_file old new file_length layer bytes root digests long g value root_is layer_is =
    let whole = g.whole in
    let far : 16384 * 2 ^ layer < length g.file = omega (arith, whole, long) in
    let folded = root_folded g.file layer bytes (layer_inside (length g.file) layer far) g.layer_is in
    record {
      file = g.file;
      given = g.given;
      whole = whole;
      are = record {
        empty = λ e. absurd (omega (arith, e, whole, long));
        root = λ _. root_is ∙ value
            ∙ ap (λ k. fold_of sha256 (height_of (block_count k) - layer) (layer_digests sha256 (block_count k) layer bytes)) (sym whole) ∙ folded;
        short = λ short. absurd (omega (arith, short, far));
        long = λ _. subst (IsPieceLayer g.file layer) (sym layer_is) g.layer_is;
      };
    }
