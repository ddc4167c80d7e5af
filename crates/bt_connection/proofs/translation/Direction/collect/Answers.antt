use Rattle.std.proofs.Common.{◌≡◌, [], sym, ◌∙◌, subst, ap, List, ℕ, take, length}
use Rattle.std.specs.RefCell.{ref_mut_value}
use Rattle.bt_connection.specs.Room.{IsTakenIn}
use Rattle.bt_connection.specs.Flow.{Waits}
use Rattle.bt_connection.specs.Padded.{DirectionState}
use Rattle.bt_connection.specs.TranslationSteps.{IsWanted, IsCollected}
use Rattle.bt_connection.proofs.Directions.{ends_whole, waits_unready, pass_collected, settled_collected, kept_collected}
use Rattle.bt_connection.proofs.translation.Direction.collect.Goals as goal
use Rattle.bt_connection.proofs.translation.Direction.collect.Goals.{then-self-gt0, else-self-gt0+in-Some, else-self-gt0+in_default}

pub settle-requires : goal.settle-requires
settle-requires g c =
    let d = c.self.inside in
    let room : List ℕ = ref_mut_value d.room in
    let most = c.wanted-most.result in
    let came = c.in_ok-count.ensures in
    let before = g.R.Read.remaining c.args.from.now in
    let after = g.R.Read.remaining c.read_from.new.from in
    let t = subst (λ (xs : List ℕ). IsTakenIn before after xs c.in_ok-count.count c.read_from.new.self) c.deref_mut.ensures.value came.came in
    let wanted = subst (λ (s : DirectionState). IsWanted s most) (sym c.self.view_is) c.wanted-most.ensures in
    ends_whole d.side d.blocks.now d.passing d.ready room (ap (λ (s : DirectionState). s.waiting) c.self.view_is ∙ c.requires) c.self.invariant.0
    before after c.in_ok-count.count most c.read_from.new.self t wanted came.few came.ended
    c.deref_mut-else-self-gt0-2.result.now c.deref_mut-else-self-gt0-2.ensures.value c.if-self-gt0.false

pub invariant_of-self-in_default : goal.invariant_of-self-in_default
invariant_of-self-in_default g c =
    let d = c.self.inside in
    let kept = c.in_default.ensures in
    waits_unready d.side d.blocks.now d.passing d.ready (ref_mut_value d.room) (ap (λ (s : DirectionState). s.waiting) c.self.view_is ∙ c.requires) c.self.invariant.0
    c.settle.new.room (subst Waits (sym kept.1) kept.0) c.if-self-gt0.false

pub returns-clause-came : goal.returns-clause-came
returns-clause-came g c =
    let d = c.self.inside in
    let room : List ℕ = ref_mut_value d.room in
    let most = c.wanted-most.result in
    let count = c.in_ok-count.count in
    let came = c.in_ok-count.ensures in
    let before = g.R.Read.remaining c.args.from.now in
    let after = g.R.Read.remaining c.read_from.new.from in
    let none : take d.ready room ≡ [] = ap (λ (s : DirectionState). s.waiting) c.self.view_is ∙ c.requires in
    let t = subst (λ (xs : List ℕ). IsTakenIn before after xs count c.read_from.new.self) c.deref_mut.ensures.value came.came in
    let wanted = subst (λ (s : DirectionState). IsWanted s most) (sym c.self.view_is) c.wanted-most.ensures in
    subst (λ (s : DirectionState). IsCollected before after s count c.if-self-gt0.self) c.self.view_is (elim c.if-self-gt0.branch [
      | then-self-gt0 w ↦ rw w.self-is (
          pass_collected d.side d.blocks.now d.passing d.ready room none c.self.invariant.0 before after count most c.read_from.new.self t wanted
          came.few came.ended c.self.invariant.2 w.if-self-gt0.true)
      | else-self-gt0+in-Some w ↦ rw w.self-is (
          settled_collected d.side d.blocks.now d.passing d.ready room none c.self.invariant.0 before after count most c.read_from.new.self t wanted
          came.few came.ended w.deref_mut-else-self-gt0-2.result.now w.settle.new.room w.in-Some.behind _ w.deref_mut-else-self-gt0-2.ensures.value w.if-self-gt0.false
          (ap length (w.as_slice.ensures.value ∙ w.deref.ensures)) w.in-Some.ensures)
      | else-self-gt0+in_default w ↦ rw w.self-is (
          kept_collected d.side d.blocks.now d.passing d.ready room none c.self.invariant.0 before after count most c.read_from.new.self t wanted
          came.few came.ended w.deref_mut-else-self-gt0-2.result.now w.settle.new.room w.deref_mut-else-self-gt0-2.ensures.value w.if-self-gt0.false
          w.in_default.ensures.0 w.in_default.ensures.1)
    ])
