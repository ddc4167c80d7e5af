use Rattle.std.proofs.Common.{refl}
use Rattle.sha2.proofs.Schedule256.{rounds_window}
use Rattle.bt_lanes.specs.LaneSteps.{lane_of, lane_of_eight}
use Rattle.bt_lanes.proofs.LaneWords.{lane_of-set}
use Rattle.bt_lanes.proofs.compression.next_round.Goals as goal

pub returns : goal.returns
returns c = λ j value block lt held.
    rounds_window block value (lane_of j c.args.schedule.now) (lane_of_eight j c.args.variables) c.args.t _ _ _ _
    c.requires.0 c.requires.1 held.0 held.1 (c.next_words-words.ensures j lt)
    (lane_of-set c.args.schedule.now j _ c.next_words-words.result) refl (c.round.ensures j lt)
