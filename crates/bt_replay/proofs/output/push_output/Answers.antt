use Rattle.std.proofs.Common.{arith, sym, ap, subst, ◌∙◌}
use Rattle.std.proofs.lemmas.Grind.{common_steps}
use Rattle.bt_machine.specs.Output.{Output}
use Rattle.bt_replay.specs.Answer.{AllFit}
use Rattle.bt_replay.proofs.output.push_output.Goals as goal

pub push_sent-requires : goal.push_sent-requires
push_sent-requires c =
    subst AllFit (ap (λ (out : Output). out.send) (sym c.output.view_is) ∙ sym c.as_slice.ensures.value) c.requires

pub returns : goal.returns
returns c = grind (arith, common_steps)
