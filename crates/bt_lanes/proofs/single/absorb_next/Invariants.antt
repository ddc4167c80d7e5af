use Rattle.std.proofs.Common.{◌≡◌, ◌+◌, List, ℕ}
use Rattle.sha2.specs.Sha256.{hash_after}
use Rattle.bt_lanes.proofs.single.absorb_next.Given as goal

abbrev pub invariant-absorbed : goal.invariant-absorbed
invariant-absorbed l = (start : List ℕ) → l.fn.value ≡ hash_after start l.bytes l.first → l.value ≡ hash_after start l.bytes (l.first + l.j)
