use Rattle.std.proofs.Common.{if◌then◌else◌, Ok, Err, ap, sym}
use Rattle.bt_check.specs.Fault.{device}
use Rattle.bt_check.proofs.report.Summary.outcome.Goals as goal

pub returns-then-self : goal.returns-then-self
returns-then-self c = ap (λ b. if b then Err device else Ok (if c.args.self.complete then 0 else 1)) (sym c.if-self.true)
