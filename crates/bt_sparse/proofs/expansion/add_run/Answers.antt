use Rattle.std.proofs.Common.{◌≡◌, ◌+◌, ◌-◌, ◌*◌, ◌/◌, ◌^◌, ◌<◌, [], length, refl, sym, ap, ◌∙◌, arith}
use Rattle.std.proofs.lemmas.List.{get_or_read, length-take-le}
use Rattle.std.proofs.lemmas.Bool.Decides.{nat_tests}
use Rattle.bt_tree.specs.Blocks.{block_count}
use Rattle.bt_sparse.specs.Claim.{run_height, run_node}
use Rattle.bt_sparse.specs.ExpansionSteps.{covered_count}
use Rattle.bt_sparse.proofs.Expansions.{layer_above, short_layer, run_pairs_none}
use Rattle.bt_sparse.proofs.RunLayers.{run_room, run_layer, whole_layer, padded_top}
use Rattle.bt_sparse.proofs.expansion.add_run.Goals as goal

pub slice_bounds-run-end : goal.slice_bounds-run-end
slice_bounds-run-end g c =
    let half : c.div_ceil-count.result ≡ (covered_count (block_count c.args.geometry) c.args.claim.now 0 + 1) / 2 =
    omega (arith, c.covered_count.ensures.value, c.div_ceil-count.ensures) in
    let room = run_room (block_count c.args.geometry) c.args.claim.now c.div_ceil-count.result c.requires.shape half in
    sym (length-take-le (2 * c.div_ceil-count.result) c.as_slice.result.now (omega (arith, ap length c.as_slice.ensures)))

pub loop-above-init : goal.loop-above-init
loop-above-init g c =
    let dig = g.H.NodeHash.digest in
    let n = block_count c.args.geometry in
    let k = c.args.claim.now in
    let half : c.div_ceil-count.result ≡ (covered_count n k 0 + 1) / 2 = omega (arith, c.covered_count.ensures.value, c.div_ceil-count.ensures) in
    let row = run_layer dig n k c.div_ceil-count.result c.requires.shape half in
    let flat : run_height k ≡ run_height k - 0 = omega arith in
    let step = layer_above dig n k 0 k.index _ c.in_ok-nodes.nodes.items c.args.pairs.now.items _ _ c.requires.shape.some
    (c.requires.shape.start ∙ ap (λ h. run_node k * 2 ^ h) flat) row.pairs row.nodes (rw c.as_slice.ensures at c.in_ok-nodes.ensures) (run_pairs_none dig n k c.args.pairs.now.items)
    (λ nodes. rw c.as_slice.ensures at (c.in_ok-add_layer.ensures dig k 0 (omega arith) (rw c.as_slice.ensures nodes))) in
    record { first = step.first_is; size = step.size; nodes = step.nodes; pairs = step.pairs; low = omega (arith, c.new-padding.ensures) }

pub add_layer-requires-in-loop-above : goal.add_layer-requires-in-loop-above
add_layer-requires-in-loop-above g c =
    let k = c.args.claim.now in
    let w = c.loop-above.invariant in
    let under : c.loop-above.above < run_height k = omega (arith, c.requires.layers, c.loop-above-test.true) in
    let row = whole_layer g.H.NodeHash.digest (block_count c.args.geometry) k c.loop-above.above c.loop-above.first _ c.loop-above.nodes.items _
    c.requires.shape c.requires.padded under refl w.first w.size w.nodes c.in_ok-complete.ensures.nodes in
    omega (
      arith,
      ap length c.deref.ensures.value,
      short_layer k c.loop-above.above c.loop-above.first c.complete.new.nodes.items c.requires.shape (omega (arith, under)) w.first row.limit,
    )

pub loop-above-preserved : goal.loop-above-preserved
loop-above-preserved g c =
    let dig = g.H.NodeHash.digest in
    let n = block_count c.args.geometry in
    let k = c.args.claim.now in
    let w = c.loop-above.invariant in
    let under : c.loop-above.above < run_height k = omega (arith, c.requires.layers, c.loop-above-test.true) in
    let row = whole_layer dig n k c.loop-above.above c.loop-above.first _ c.loop-above.nodes.items _
    c.requires.shape c.requires.padded under refl w.first w.size w.nodes c.in_ok-complete.ensures.nodes in
    let step = layer_above dig n k c.loop-above.above c.loop-above.first c.complete.new.nodes.items c.in_ok-nodes-2.nodes.items c.args.pairs.now.items _ _
    under w.first row.pairs row.nodes (rw c.deref-in-loop-above.ensures.value at c.in_ok-nodes-2.ensures) w.pairs
    (λ nodes. rw c.deref.ensures.value at (c.in_ok-add_layer-2.ensures dig k c.loop-above.above (omega arith) (rw c.deref.ensures.value nodes))) in
    record { first = step.first_is; size = step.size; nodes = step.nodes; pairs = step.pairs; low = omega (arith, c.in_ok-complete.ensures.low) }

pub returns-then-is_empty-clause-digest : goal.returns-then-is_empty-clause-digest
returns-then-is_empty-clause-digest g c =
    let all : c.loop-above.above ≡ c.args.layers = omega (arith, c.requires.layers, c.requires.shape.some) in
    let empty : length c.loop-above.nodes.items ≡ 0 = let h = c.if-is_empty.ensures in grind (arith, nat_tests, c.loop-above.nodes.ok.0) in
    c.rise.ensures.digest
    ∙ padded_top g.H.NodeHash.digest (block_count c.args.geometry) c.args.claim.now c.args.layers _ c.requires.shape c.requires.padded c.requires.layers refl
    (cc (c.loop-above.invariant.size))

pub returns-clause-digest : goal.returns-clause-digest
returns-clause-digest g c =
    let k = c.args.claim.now in
    let w = c.loop-above.invariant in
    let all : c.loop-above.above ≡ c.args.layers = omega (arith, c.requires.layers, c.requires.shape.some) in
    let none : run_height k - c.loop-above.above ≡ 0 = omega (arith, c.requires.layers) in
    let first : c.loop-above.first + 0 ≡ run_node k = omega (arith, w.first ∙ ap (λ m. run_node k * 2 ^ m) none) in
    let inside : 0 < length c.loop-above.nodes.items = let h = c.if-is_empty.ensures in grind (arith, nat_tests, c.loop-above.nodes.ok.0) in
    get_or_read c.loop-above.nodes.items 0 c.index.result.now inside c.index.ensures [] ∙ cc (w.nodes 0 inside)
