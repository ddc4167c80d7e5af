use Rattle.std.proofs.Common.{◌≡◌, ℕ, ◌+◌, ◌*◌, ◌<◌, ◌++◌, get_or, [], length}
use Rattle.sha2.specs.Sha256.{sha256}
use Rattle.bt_check.proofs.pieces.parents.Given as goal

abbrev pub invariant-loop-j : goal.invariant-loop-j
invariant-loop-j l = record {
  count : length l.above ≡ 8;
  done : (i : ℕ) → i < l.j → get_or l.above i [] ≡ sha256 (get_or l.nodes (2 * i) [] ++ get_or l.nodes (2 * i + 1) []);
}
