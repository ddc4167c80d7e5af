use Rattle.std.proofs.Common.{arith}
use Rattle.bt_lanes.proofs.LaneWords.{below_eight}
use Rattle.bt_lanes.proofs.BlockWords.{block_size}
use Rattle.bt_lanes.proofs.single.next_blocks.Goals as goal

pub returns-clause-lengths : goal.returns-clause-lengths
returns-clause-lengths c =
    let bytes = c.args.bytes.now in
    below_eight _ (block_size bytes _ _ c.message_block.ensures (omega arith)) (block_size bytes _ _ c.message_block-2.ensures (omega arith))
    (block_size bytes _ _ c.message_block-3.ensures (omega arith)) (block_size bytes _ _ c.message_block-4.ensures (omega arith))
    (block_size bytes _ _ c.message_block-5.ensures (omega arith)) (block_size bytes _ _ c.message_block-6.ensures (omega arith))
    (block_size bytes _ _ c.message_block-7.ensures (omega arith)) (block_size bytes _ _ c.message_block-8.ensures (omega arith))
