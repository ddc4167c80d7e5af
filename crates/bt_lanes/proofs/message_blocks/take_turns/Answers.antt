use Rattle.std.proofs.Common.{rules, ◌≡◌, length, arith}
use Rattle.bt_lanes.proofs.LaneWords.{below_eight}
use Rattle.bt_lanes.proofs.Shuffles.{lane_of_first, lane_of_second}
use Rattle.bt_lanes.proofs.message_blocks.take_turns.Goals as goal

pub returns-clause-lower : goal.returns-clause-lower
returns-clause-lower c =
    let a = c.args.a in let b = c.args.b in
    let la : length a ≡ 8 = search rules in
    below_eight _ (lane_of_first a b 0 la (omega arith)) (lane_of_second a b 0 la) (lane_of_first a b 1 la (omega arith)) (lane_of_second a b 1 la)
    (lane_of_first a b 2 la (omega arith)) (lane_of_second a b 2 la) (lane_of_first a b 3 la (omega arith)) (lane_of_second a b 3 la)

pub returns-clause-upper : goal.returns-clause-upper
returns-clause-upper c =
    let a = c.args.a in let b = c.args.b in
    let la : length a ≡ 8 = search rules in
    below_eight _ (lane_of_first a b 4 la (omega arith)) (lane_of_second a b 4 la) (lane_of_first a b 5 la (omega arith)) (lane_of_second a b 5 la)
    (lane_of_first a b 6 la (omega arith)) (lane_of_second a b 6 la) (lane_of_first a b 7 la (omega arith)) (lane_of_second a b 7 la)
