use Rattle.bt_meta.proofs.Base.{rules, arith, nat_tests}
use Rattle.bt_meta.proofs.RootLengths.{noted_now}
use Rattle.bt_meta.proofs.properties.note_length.Goals as goal

pub returns-in_default-clause-noted : goal.returns-in_default-clause-noted
returns-in_default-clause-noted c = noted_now (grind (arith, nat_tests)) (search rules) (search rules)

pub returns-in_default-2-clause-noted : goal.returns-in_default-2-clause-noted
returns-in_default-2-clause-noted c = noted_now (grind (arith, nat_tests)) (search rules) (search rules)
