use Rattle.std.proofs.Common.{arith}
use Rattle.bt_engine_after.proofs.HashNeeds.{tree_below, tree_is}
use Rattle.bt_engine_after.proofs.hash_requests.tree_at.Goals as goal

pub offset_bounds-trees-slots : goal.offset_bounds-trees-slots
offset_bounds-trees-slots g c =
    omega (
      arith,
      tree_below c.args.parts.now c.requires.sound.tied c.requires.sound.shaped c.args.block c.requires.has c.as_slice-slots.result.now c.as_slice-slots.ensures.value
          c.index-slots-block.result c.as_slice-trees.result.now c.as_slice-trees.ensures.value,
    )

pub bounds-trees-slots : goal.bounds-trees-slots
bounds-trees-slots g c =
    tree_below c.args.parts.now c.requires.sound.tied c.requires.sound.shaped c.args.block c.requires.has c.as_slice-slots.result.now c.as_slice-slots.ensures.value
    c.index-slots-block.result c.as_slice-trees.result.now c.as_slice-trees.ensures.value

pub returns : goal.returns
returns g c =
    tree_is c.args.parts.now c.requires.sound.tied c.requires.sound.shaped c.args.block c.requires.has c.as_slice-slots.result.now c.as_slice-slots.ensures.value
    c.index-slots-block.result c.as_slice-trees.result.now c.as_slice-trees.ensures.value c.index-trees-slots.result c.index-trees-slots.is
