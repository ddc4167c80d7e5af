use Rattle.std.proofs.Common.{inl, refl, sym, ◌∙◌}
use Rattle.bt_log_file.proofs.Refusals.{on_no, on_yes}
use Rattle.bt_files.proofs.own_torrent.look_at_source.Goals as goal

pub returns-clause-apart : goal.returns-clause-apart
returns-clause-apart g c = λ writes. on_no c.in_ok-is_data_file.field-0 _ _ c.if-branch.false c.in_ok-is_data_file.ensures

pub returns-then-branch-clause-fault : goal.returns-then-branch-clause-fault
returns-then-branch-clause-fault g c =
    inl (
      refl,
      sym c.is_read_only.ensures ∙ c.if-is_read_only.false,
      on_yes c.in_ok-is_data_file.field-0 _ _ c.if-branch.true c.in_ok-is_data_file.ensures,
    )
