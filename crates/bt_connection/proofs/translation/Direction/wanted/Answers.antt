use Rattle.std.proofs.Common.{◌∙◌, subst, ap}
use Rattle.std.specs.RefCell.{ref_mut_value}
use Rattle.bt_connection.specs.Padded.{DirectionState}
use Rattle.bt_connection.specs.TranslationSteps.{IsWanted}
use Rattle.bt_connection.proofs.Directions.{missing_wanted}
use Rattle.bt_connection.proofs.translation.Direction.wanted.Goals as goal

pub returns-else-self-gt0 : goal.returns-else-self-gt0
returns-else-self-gt0 c =
    let d = c.self.inside in
    subst (λ (s : DirectionState). IsWanted s c.missing_of.result) c.self.view_is
    (missing_wanted d.side d.blocks.now d.passing d.ready (ref_mut_value d.room) (ap (λ (s : DirectionState). s.waiting) c.self.view_is ∙ c.requires) c.self.invariant.0
    c.as_slice.result.now c.missing_of.result (c.as_slice.ensures.value ∙ c.deref.ensures) c.if-self-gt0.false c.missing_of.ensures)
