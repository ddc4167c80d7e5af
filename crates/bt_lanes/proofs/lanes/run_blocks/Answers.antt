use Rattle.bt_lanes.proofs.LaneWords.{below_eight}
use Rattle.bt_lanes.proofs.lanes.run_blocks.Goals as goal

pub returns : goal.returns
returns c =
    below_eight _ c.run_block.ensures c.run_block-2.ensures c.run_block-3.ensures c.run_block-4.ensures
    c.run_block-5.ensures c.run_block-6.ensures c.run_block-7.ensures c.run_block-8.ensures
