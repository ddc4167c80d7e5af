use Rattle.std.proofs.Common.{rules}
use Rattle.bt_tree.proofs.root_builder.RootBuilder.new.Goals as goal

pub returns-clause-state : goal.returns-clause-state
returns-clause-state g c = search rules
