-- What the steps of padding say of each other. No public contract cites them.
use Rattle.std.specs.Prelude.{◌≡◌, ◌≢◌, ℕ, ◌<◌, List, length, HoldsAt}
use Rattle.std.specs.List.{AllWithin}
use Rattle.bt_wire.specs.declared.message.Ask.{Ask}

-- the request stands there, and nowhere before
pub record IsFirstAt (asked : List Ask) (ask : Ask) (i : ℕ) : Type 0 where
  pub inside : i < length asked
  pub there : HoldsAt (λ other. other ≡ ask) asked i
  pub first : AllWithin (λ other. other ≢ ask) asked 0 i
