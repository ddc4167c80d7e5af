-- What is lost by one read after the other.
use Rattle.std.proofs.Common.{ℕ, ◌-◌, ◌≤◌, List, ◌++◌, arith}
use Rattle.std.specs.Prelude.{Option}
use Rattle.std.proofs.lemmas.List.{length-append}
use Rattle.std.proofs.KnownBytes.{Consumes-trans}
use Rattle.bt_sockets.specs.PartingSteps.{Loses, LosesAtMost}

pub loses_more : (most left count : ℕ) (a b c : Option (List ℕ)) → left ≤ most → count ≤ left
    → LosesAtMost (most - left) a b → Loses count b c → LosesAtMost (most - (left - count)) a c
loses_more most left count a b c within few lost more = (
  lost.0 ++ more.0,
  omega (arith, length-append lost.0 more.0, lost.1, more.1, within, few),
  Consumes-trans a b c lost.0 more.0 lost.2 more.2,
)
