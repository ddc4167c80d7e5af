use Rattle.std.proofs.Common.{sym, ◌∙◌}
use Rattle.std.proofs.lemmas.Bool.{eqb-true}
use Rattle.bt_jobs.proofs.Lines.{told_wholly}
use Rattle.bt_jobs.proofs.told.Told.into_runs.Goals as goal

pub returns : goal.returns
returns c = λ text is.
    let rest = c.args.self.rest in
    told_wholly text c.args.self is (sym rest.ok.0 ∙ eqb-true rest.len 0 (sym c.is_empty.ensures ∙ c.if-not-is_empty.false))
