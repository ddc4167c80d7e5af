use Rattle.std.proofs.Common.{Ok, subst}
use Rattle.bt_machine.specs.declared.event.Answer.TheVariants.{Stepped}
use Rattle.bt_machine.specs.Law.{sent_by}
use Rattle.bt_replay.specs.Answer.{AllFit}
use Rattle.bt_replay.proofs.answer.push_found.Goals as goal

pub push_output-requires : goal.push_output-requires
push_output-requires c = subst (λ o. AllFit (sent_by (Stepped (Ok o)))) c.in-Some.is c.requires
