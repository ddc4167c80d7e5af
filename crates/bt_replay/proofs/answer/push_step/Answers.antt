use Rattle.std.proofs.Common.{subst}
use Rattle.bt_machine.specs.declared.event.Answer.TheVariants.{Stepped}
use Rattle.bt_machine.specs.Law.{sent_by}
use Rattle.bt_replay.specs.Answer.{AllFit}
use Rattle.bt_replay.proofs.answer.push_step.Goals as goal

pub push_found-requires : goal.push_found-requires
push_found-requires c = subst (λ r. AllFit (sent_by (Stepped r))) c.in-Ok.is c.requires
