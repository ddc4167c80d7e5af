use Rattle.std.proofs.Common.{sym, ◌∙◌, ap, subst}
use Rattle.bt_resume.specs.LogText.{hints_in}
use Rattle.bt_resume.specs.OneSpelling.{AreSpelled}
use Rattle.bt_resume.proofs.Keepings.{seen_is}
use Rattle.bt_resume.proofs.hints.Hints.iter.Goals as goal

pub returns : goal.returns
returns c =
    let seen = c.self.inside.spelled in
    let spelled = subst (λ b. AreSpelled c.self.inside.begun b seen.0) (sym c.as_slice.ensures.value) seen.1 in
    ap hints_in (seen_is c.self.inside.begun _ c.result-2-1.given.0 seen.0 spelled) ∙ ap hints_in c.self.view_is
