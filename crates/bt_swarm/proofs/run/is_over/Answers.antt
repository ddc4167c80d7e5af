use Rattle.std.proofs.Common.{sym, ◌∙◌}
use Rattle.std.proofs.lemmas.Bool.{eqb-true}
use Rattle.std.proofs.lemmas.List.{nil_from_length}
use Rattle.bt_swarm.specs.Swarm.{completed, deserted}
use Rattle.bt_swarm.proofs.run.is_over.Goals as goal

pub returns-then-is_complete : goal.returns-then-is_complete
returns-then-is_complete g c is = completed c.if-until_complete.true (sym c.is_complete.ensures ∙ c.if-is_complete.true)

pub returns : goal.returns
returns g c is = deserted (nil_from_length c.args.members.now (eqb-true _ 0 (sym c.is_empty.ensures ∙ c.if-not-is_empty.false))) (c.is_over.ensures is)
