use Rattle.std.proofs.Common.{◌≡◌, sym, subst}
use Rattle.std.specs.Prelude.{IsErrAnd}
use Rattle.bt_jobs.specs.Starts.{start_fault}
use Rattle.bt_jobs.proofs.jobs.of_start.Goals as goal

pub returns-in-Err-clause-cause : goal.returns-in-Err-clause-cause
returns-in-Err-clause-cause g c =
    subst (λ outcome. IsErrAnd outcome (λ cause. c.fault.result ≡ start_fault cause)) (sym c.in-Err.is) c.fault.ensures.fault
