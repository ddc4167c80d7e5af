use Rattle.std.proofs.Common.{◌<◌, arith, refl, sym, ◌∙◌, ap}
use Rattle.bt_tree.specs.Blocks.{block_count}
use Rattle.bt_check.proofs.BlockChecks.{checking_begun, checking_more, next_is_inside, sum_is_few, all_checked}
use Rattle.bt_check.proofs.entry_check.check_blocks.Goals as goal

pub loop-from-init : goal.loop-from-init
loop-from-init g c = λ known leaves holds.
    checking_begun _ _ known leaves _ _ _ holds (c.in-Ok.ensures.file ∙ c.geometry-geometry.ensures.value) c.in-Ok.ensures.disk

pub adopt_groups-requires-clause-geometry : goal.adopt_groups-requires-clause-geometry
adopt_groups-requires-clause-geometry g c =
    let is = c.loop-from.invariant c.requires.0 c.requires.1 c.requires.2 in
    is.learned.tree.length_is ∙ sym is.same_file

pub adopt_groups-requires-clause-inside : goal.adopt_groups-requires-clause-inside
adopt_groups-requires-clause-inside g c =
    let is = c.loop-from.invariant c.requires.0 c.requires.1 c.requires.2 in
    let real : c.loop-from.from < block_count c.args.tree.now.file_length =
    omega (arith, c.loop-from-test.true, c.blocks-in-loop-from.ensures.value, ap block_count c.geometry-geometry.ensures.value) in
    omega (arith, real, ap block_count is.same_file)

pub overflow_add-marked : goal.overflow_add-marked
overflow_add-marked g c =
    let is = c.loop-from.invariant c.requires.0 c.requires.1 c.requires.2 in
    let real : c.loop-from.from < block_count c.args.tree.now.file_length =
    omega (arith, c.loop-from-test.true, c.blocks-in-loop-from.ensures.value, ap block_count c.geometry-geometry.ensures.value) in
    let few = sum_is_few _ _ _ _ _ _ _ _ _ _ _ _ _ _ is c.in_ok-adopted.ensures.ok.1 in
    omega (arith, few, c.blocks-in-loop-from.ensures.value, c.blocks-in-loop-from.ensures.limit, ap block_count c.geometry-geometry.ensures.value)

pub loop-from-smaller : goal.loop-from-smaller
loop-from-smaller g c =
    let is = c.loop-from.invariant c.requires.0 c.requires.1 c.requires.2 in
    let real : c.loop-from.from < block_count c.args.tree.now.file_length =
    omega (arith, c.loop-from-test.true, c.blocks-in-loop-from.ensures.value, ap block_count c.geometry-geometry.ensures.value) in
    let inside = next_is_inside _ _ _ _ _ _ _ _ _ _ _ _ _ _ is c.in_ok-adopted.ensures.ok.1 in
    omega (arith, c.in_ok-adopted.ensures.onward, inside, real, ap block_count c.geometry-geometry.ensures.value)

pub loop-from-preserved : goal.loop-from-preserved
loop-from-preserved g c = λ known leaves holds.
    checking_more _ _ _ _ _ _ _ _ _ _ _ _ _ _ (c.loop-from.invariant known leaves holds) c.in_ok-adopted.ensures.ok.1

pub returns : goal.returns
returns g c = λ known leaves holds.
    all_checked _ _ known leaves _ c.loop-from.from c.loop-from.marked c.loop-from.faulty c.loop-from.tree c.loop-from.store _
    (c.loop-from.invariant known leaves holds)
    (omega (arith, c.loop-from-test.false, c.blocks-in-loop-from.ensures.value, ap block_count c.geometry-geometry.ensures.value)) c.into_disk.ensures refl refl
