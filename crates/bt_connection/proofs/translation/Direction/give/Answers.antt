use Rattle.std.proofs.Common.{◌≡◌, ◌≤◌, ◌-◌, sym, ◌∙◌, subst, ap, arith, List, ℕ, take, length, length-take-le}
use Rattle.std.specs.RefCell.{ref_mut_value}
use Rattle.bt_wire.specs.declared.message.Ask.{Ask}
use Rattle.bt_connection.specs.declared.translation.Side.{Side}
use Rattle.bt_connection.specs.Flow.{Waits, Flow, flow}
use Rattle.bt_connection.specs.Padded.{DirectionState}
use Rattle.bt_connection.specs.TranslationSteps.{IsApart}
use Rattle.bt_connection.proofs.Rooms.{ready_behind, unread_behind, fewer}
use Rattle.bt_connection.proofs.translation.Direction.give.Goals as goal

abbrev state : Side → List Ask → Flow → List ℕ → DirectionState
state side blocks flow waiting = record { side = side; blocks = blocks; flow = flow; waiting = waiting }

pub invariant_of-self : goal.invariant_of-self
invariant_of-self c =
    let d = c.self.inside in
    let given = c.give-count in
    let few : given.result ≤ length given.new.buffer = omega (arith, given.ensures.count, given.auto.buffer) in
    let size : length (take given.result given.new.buffer) ≡ given.result = length-take-le given.result given.new.buffer few in
    let split = sym c.deref_mut.ensures.value ∙ given.ensures.given in
    let less : given.result ≤ d.ready = omega (arith, given.ensures.count) in
    let same = unread_behind d.ready given.result (ref_mut_value d.room) (take given.result given.new.buffer) given.new.self split size less in (
      fewer d.ready given.result (ref_mut_value d.room) (take given.result given.new.buffer) given.new.self split size c.self.invariant.0,
      subst (λ (xs : List ℕ). Waits xs) same c.self.invariant.1,
      subst (λ (xs : List ℕ). IsApart d.passing xs) same c.self.invariant.2,
    )

pub returns-clause-given : goal.returns-clause-given
returns-clause-given c =
    let d = c.self.inside in
    let given = c.give-count in
    let few : given.result ≤ length given.new.buffer = omega (arith, given.ensures.count, given.auto.buffer) in
    let size : length (take given.result given.new.buffer) ≡ given.result = length-take-le given.result given.new.buffer few in
    sym (ap (λ (s : DirectionState). s.waiting) c.self.view_is)
    ∙ ready_behind d.ready given.result (ref_mut_value d.room) (take given.result given.new.buffer) given.new.self
    (sym c.deref_mut.ensures.value ∙ given.ensures.given) size (omega (arith, given.ensures.count))

pub returns-clause-others : goal.returns-clause-others
returns-clause-others c =
    let d = c.self.inside in
    let given = c.give-count in
    let few : given.result ≤ length given.new.buffer = omega (arith, given.ensures.count, given.auto.buffer) in
    let size : length (take given.result given.new.buffer) ≡ given.result = length-take-le given.result given.new.buffer few in
    let waiting : List ℕ = take (d.ready - given.result) given.new.self in
    let same = unread_behind d.ready given.result (ref_mut_value d.room) (take given.result given.new.buffer) given.new.self
    (sym c.deref_mut.ensures.value ∙ given.ensures.given) size (omega (arith, given.ensures.count)) in
    ap (λ (xs : List ℕ). state d.side d.blocks.now (flow d.passing xs) waiting) (sym same) ∙ ap (λ (s : DirectionState). record s { waiting = waiting }) c.self.view_is
