use Rattle.std.proofs.Common.{◌≤◌, ◌-◌, take, length, ℕ, List, ◌∙◌, ap, arith, length-take-le}
use Rattle.bt_connection.proofs.Ranges.{shared, shared_size}
use Rattle.bt_connection.proofs.room.Room.give_to.Goals as goal

pub returns-clause-given : goal.returns-clause-given
returns-clause-given g c =
    let count = c.give-count.result in
    let rest = c.args.len - count in
    shared c.args.self.now (take count c.give-count.new.buffer) c.give-count.new.self c.hold.new.self c.drop_front.new.self rest
    c.give-count.ensures.given (c.hold.ensures ∙ ap (λ (l : List ℕ). take rest l) c.as_slice.ensures.value) c.drop_front.ensures

pub returns-clause-size : goal.returns-clause-size
returns-clause-size g c =
    let count = c.give-count.result in
    let rest = c.args.len - count in
    let few : count ≤ length c.give-count.new.buffer = omega (arith, c.give-count.ensures.count, c.give-count.auto.buffer) in
    shared_size c.args.self.now (take count c.give-count.new.buffer) c.give-count.new.self c.hold.new.self c.args.len count
    c.give-count.ensures.given (c.hold.ensures ∙ ap (λ (l : List ℕ). take rest l) c.as_slice.ensures.value)
    (length-take-le count c.give-count.new.buffer few) (omega (arith, c.give-count.ensures.count)) c.requires.few
