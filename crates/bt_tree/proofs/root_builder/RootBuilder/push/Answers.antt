use Rattle.std.proofs.Common.{rules}
use Rattle.bt_tree.proofs.root_builder.RootBuilder.push.Goals as goal

pub invariant_of-self : goal.invariant_of-self
invariant_of-self g c = search rules

pub returns-clause-state : goal.returns-clause-state
returns-clause-state g c = search rules

pub returns-clause-from : goal.returns-clause-from
returns-clause-from g c = search rules
