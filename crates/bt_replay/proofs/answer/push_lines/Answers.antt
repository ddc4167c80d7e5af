use Rattle.std.proofs.Common.{subst}
use Rattle.bt_machine.specs.Law.{sent_by}
use Rattle.bt_replay.specs.Answer.{AllFit}
use Rattle.bt_replay.proofs.answer.push_lines.Goals as goal

pub push_joined-requires : goal.push_joined-requires
push_joined-requires c = subst (λ a. AllFit (sent_by a)) c.in-Connected.is c.requires

pub push_step-requires : goal.push_step-requires
push_step-requires c = subst (λ a. AllFit (sent_by a)) c.in-Stepped.is c.requires

pub push_choice-requires : goal.push_choice-requires
push_choice-requires c = subst (λ a. AllFit (sent_by a)) c.in-Rechoked.is c.requires
