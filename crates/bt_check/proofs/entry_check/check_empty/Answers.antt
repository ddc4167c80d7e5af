use Rattle.std.proofs.Common.{refl}
use Rattle.bt_check.proofs.EntryChecks.{nothing_found}
use Rattle.bt_check.proofs.entry_check.check_empty.Goals as goal

pub returns : goal.returns
returns g c = (
  c.length_of-length.result,
  λ known leaves.
      nothing_found _ 0 known leaves _ _ c.length_of-length.result _ _ c.length_of-length.ensures c.is_longer-longer.ensures c.is_none-unknown.ensures refl,
)
