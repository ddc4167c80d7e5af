use Rattle.std.proofs.Common.{refl, sym, ap, ◌∙◌}
use Rattle.bt_resume.specs.ResumeLog.{LogView}
use Rattle.bt_machine.proofs.Lists.{same_some}
use Rattle.bt_engine_start.proofs.starting.is_log_of.Goals as goal

pub returns-in_default : goal.returns-in_default
returns-in_default g c = (λ on l is. absurd (let clash = sym c.in_default.is ∙ is in cc), λ same. refl)

pub returns : goal.returns
returns g c = (
  λ on l is. ap (λ (x : LogView g.row.D.Denot). x.infohash) (same_some is c.in-Some.is) ∙ sym c.infohash.ensures ∙ c.is_same.ensures.0 on ∙ c.infohash-2.ensures,
  λ same. c.is_same.ensures.1 (c.infohash.ensures ∙ same c.in-Some.held c.in-Some.is ∙ sym c.infohash-2.ensures),
)
