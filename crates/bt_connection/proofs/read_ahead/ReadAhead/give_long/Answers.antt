use Rattle.std.proofs.Common.{◌++◌, ◌≤◌, ℕ, List, take, length, sym, ◌∙◌, ap, subst}
use Rattle.std.specs.Prelude.{Contains}
use Rattle.std.specs.RefCell.{ref_mut_value}
use Rattle.bt_connection.specs.ReadAhead.{ReaderState, ahead_room_length}
use Rattle.bt_connection.proofs.Orders.{long_gone}
use Rattle.bt_connection.proofs.read_ahead.ReadAhead.give_long.Goals as goal

pub invariant_of-self : goal.invariant_of-self
invariant_of-self g c =
    let r = c.self.inside in
    let room = ref_mut_value r.room in
    let given = c.give_to-count in
    let within = subst (λ (l : List ℕ). length l ≤ ahead_room_length) c.deref_mut.ensures.value given.ensures.within in
    let first : Contains r.blocks (length room)
    = subst (λ (l : List ℕ). Contains r.blocks (length l)) (c.as_slice.ensures.value ∙ c.deref.ensures) (c.begin_at.ensures.0 c.if-not-begin_at.false) in
    let gone = long_gone room (take given.result given.new.buffer ++ given.new.other) given.new.self r.ready r.blocks
    c.self.invariant.0 c.self.invariant.1 first (sym c.deref_mut.ensures.value ∙ given.ensures.given) given.ensures.size within in
    (gone.order, gone.others)

pub returns-clause-given : goal.returns-clause-given
returns-clause-given g c =
    let r = c.self.inside in
    let room = ref_mut_value r.room in
    let given = c.give_to-count in
    let within = subst (λ (l : List ℕ). length l ≤ ahead_room_length) c.deref_mut.ensures.value given.ensures.within in
    let first : Contains r.blocks (length room)
    = subst (λ (l : List ℕ). Contains r.blocks (length l)) (c.as_slice.ensures.value ∙ c.deref.ensures) (c.begin_at.ensures.0 c.if-not-begin_at.false) in
    let parts = sym c.deref_mut.ensures.value ∙ given.ensures.given in
    let gone = long_gone room (take given.result given.new.buffer ++ given.new.other) given.new.self r.ready r.blocks
    c.self.invariant.0 c.self.invariant.1 first parts given.ensures.size within in
    λ some. record {
      long = gone.whole;
      first = sym (ap (λ (s : ReaderState _). s.waiting) c.self.view_is) ∙ parts;
      inner = ap (λ (s : ReaderState _). s.inner) c.self.view_is;
    }
