use Rattle.bt_meta.proofs.Base.{rules}
use Rattle.bt_meta.proofs.RootLengths.{noted_right}
use Rattle.bt_meta.proofs.layers.check_once.Goals as goal

pub returns-clause-noted : goal.returns-clause-noted
returns-clause-noted c = noted_right c.args.right.now c.insert.new.self c.args.root.now c.args.length (search rules)
