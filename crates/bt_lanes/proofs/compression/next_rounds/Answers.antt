use Rattle.std.proofs.Common.{◌≡◌, ◌+◌, arith}
use Rattle.bt_lanes.proofs.compression.next_rounds.Goals as goal

pub returns : goal.returns
returns c = λ j value block lt held.
    let two : c.args.t + 1 + 1 ≡ c.args.t + 2 = omega arith in
    let three : c.args.t + 2 + 1 ≡ c.args.t + 3 = omega arith in
    let four : c.args.t + 3 + 1 ≡ c.args.t + 4 = omega arith in
    rw four at (c.next_round.ensures j value block lt
    (rw three at (c.next_round-three.ensures j value block lt
    (rw two at (c.next_round-two.ensures j value block lt (c.next_round-one.ensures j value block lt held))))))
