use Rattle.std.proofs.Common.{◌≡◌, ℕ, ◌/◌, ◌<◌, ◌≤◌, List, [], length, get_or, sym, ap, ◌∙◌, arith}
use Rattle.std.specs.Simd.{first_chunks}
use Rattle.bt_tree.specs.Blocks.{block_count}
use Rattle.bt_tree.specs.TreeShape.{real_width}
use Rattle.bt_tree.specs.Tree.{padding_digest}
use Rattle.bt_tree.specs.Layers.{HasLayerSize}
use Rattle.bt_sparse.specs.Layer.{layer_digest}
use Rattle.bt_sparse.specs.NodeMap.{Nodes, nodes_in}
use Rattle.bt_sparse.specs.LayerSteps.{IsWhole}
use Rattle.bt_sparse.proofs.LayerNodes.{filled_sound, layer_real, layer_past, layer_folds, holds_layer}
use Rattle.bt_sparse.proofs.LayerTrees.{chunk_count}
use Rattle.bt_sparse.proofs.sparse_tree.SparseTree.from_layer.Goals as goal

-- the nodes from the chunks of a layer's bytes up are those from its digests up
whole_layer : (dig : List ℕ → List ℕ) (n layer : ℕ) (bytes : List ℕ) (chunks : List (List ℕ)) (nodes : Nodes) → HasLayerSize n layer bytes
    → chunks ≡ first_chunks 32 (length bytes / 32) bytes
    → ((row : ℕ → List ℕ) → ((i : ℕ) → i < length chunks → row i ≡ get_or chunks i []) → ((i : ℕ) → length chunks ≤ i → row i ≡ padding_digest dig layer)
    → IsWhole dig n row layer nodes) → IsWhole dig n (layer_digest dig n layer bytes) layer nodes
whole_layer dig n layer bytes chunks nodes size are whole =
    let count : length bytes / 32 ≡ real_width n layer = omega (arith, size.size) in
    let same : chunks ≡ first_chunks 32 (real_width n layer) bytes = are ∙ ap (λ m. first_chunks 32 m bytes) count in
    let width : length chunks ≡ real_width n layer = ap length same ∙ chunk_count (real_width n layer) bytes in
    whole (layer_digest dig n layer bytes) (λ i lt. layer_real dig n layer bytes i (omega arith) ∙ sym (ap (λ ds. get_or ds i []) same))
    (λ i le. layer_past dig n layer bytes i (omega arith))

pub invariant_of-result : goal.invariant_of-result
invariant_of-result g c =
    let dig = g.H.NodeHash.digest in
    let n = block_count c.args.geometry in
    let bytes = c.args.bytes.now in
    filled_sound dig c.args.geometry (layer_digest dig n c.args.layer bytes) c.args.layer c.args.root (nodes_in c.in_ok-nodes.nodes)
    (whole_layer dig n c.args.layer bytes c.as_chunks.result.0.now (nodes_in c.in_ok-nodes.nodes) c.requires.size c.as_chunks.ensures.front c.in_ok-nodes.ensures) c.length.ensures.lawful
    (layer_folds dig n c.args.layer c.args.root bytes (chunk_count (real_width n c.args.layer) bytes) c.requires)

pub returns : goal.returns
returns g c =
    let n = block_count c.args.geometry in
    holds_layer g.H.NodeHash.digest c.args.geometry c.args.root c.args.layer c.args.bytes.now (nodes_in c.in_ok-nodes.nodes) c.requires
    (whole_layer g.H.NodeHash.digest n c.args.layer c.args.bytes.now c.as_chunks.result.0.now (nodes_in c.in_ok-nodes.nodes) c.requires.size c.as_chunks.ensures.front c.in_ok-nodes.ensures)
