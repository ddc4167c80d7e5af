use Rattle.std.proofs.Common.{inl, refl}
use Rattle.bt_log_file.proofs.Refusals.{on_no, on_yes}
use Rattle.bt_log_file.proofs.looking.refuse_data_file.Goals as goal

pub returns-clause-free : goal.returns-clause-free
returns-clause-free g c = on_no c.in_ok-is_data_file.field-0 _ _ c.if-branch.false c.in_ok-is_data_file.ensures

pub returns-then-branch-clause-fault : goal.returns-then-branch-clause-fault
returns-then-branch-clause-fault g c =
    inl (refl, on_yes c.in_ok-is_data_file.field-0 _ _ c.if-branch.true c.in_ok-is_data_file.ensures)
