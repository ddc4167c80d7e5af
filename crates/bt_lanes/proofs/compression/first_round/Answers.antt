use Rattle.std.proofs.Common.{refl, sym}
use Rattle.sha2.proofs.Schedule256.{IsWindow_first, rounds_first}
use Rattle.bt_lanes.specs.LaneSteps.{lane_of, lane_of_eight}
use Rattle.bt_lanes.proofs.LaneWords.{slice_index-lane_of}
use Rattle.bt_lanes.proofs.compression.first_round.Goals as goal

pub returns : goal.returns
returns c = λ j value block lt words held.
    rounds_first block value (lane_of j c.args.blocks.now) (lane_of_eight j c.args.variables) c.args.t _ _ _
    c.requires (IsWindow_first block (lane_of j c.args.blocks.now) words.count words.each) held refl
    (sym (slice_index-lane_of c.args.blocks.now j c.args.t)) (c.round.ensures j lt)
