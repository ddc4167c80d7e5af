use Rattle.std.proofs.Common.{◌≡◌, ◌≤◌, ◌-◌, ℕ, List, take, length, sym, subst, ◌∙◌, arith, length-take-le}
use Rattle.std.specs.RefCell.{ref_mut_value}
use Rattle.bt_connection.specs.ReadAhead.{IsOrderly, ahead_room_length}
use Rattle.bt_connection.proofs.Orders.{orderly_after, long_after_given}
use Rattle.bt_connection.proofs.read_ahead.ReadAhead.give.Goals as goal

pub invariant_of-self : goal.invariant_of-self
invariant_of-self g c =
    let r = c.self.inside in
    let room = ref_mut_value r.room in
    let given = c.give-count in
    let few : given.result ≤ length given.new.buffer = omega (arith, given.ensures.count, given.auto.buffer) in
    let size : length (take given.result given.new.buffer) ≡ given.result = length-take-le given.result given.new.buffer few in
    let within = subst (λ (l : List ℕ). length l ≤ ahead_room_length) c.deref_mut.ensures.value given.ensures.few in
    let parts = sym c.deref_mut.ensures.value ∙ given.ensures.given in
    let order = orderly_after room (take given.result given.new.buffer) given.new.self r.ready given.result
    c.self.invariant.0 parts size (omega (arith, given.ensures.count)) within in
    (order, long_after_given room (take given.result given.new.buffer) given.new.self r.ready given.result r.blocks c.self.invariant.1 parts size)

pub returns-clause-held : goal.returns-clause-held
returns-clause-held g c =
    let order : IsOrderly c.give-count.new.self (c.self.inside.ready - c.give-count.result) = (invariant_of-self g c).0 in order.held
