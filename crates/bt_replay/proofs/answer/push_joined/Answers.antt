use Rattle.std.proofs.Common.{subst}
use Rattle.bt_machine.specs.declared.event.Answer.TheVariants.{Connected}
use Rattle.bt_machine.specs.Law.{sent_by}
use Rattle.bt_replay.specs.Answer.{AllFit}
use Rattle.bt_replay.proofs.answer.push_joined.Goals as goal

pub push_output-requires : goal.push_output-requires
push_output-requires c = subst (λ r. AllFit (sent_by (Connected r))) c.in-Ok.is c.requires
