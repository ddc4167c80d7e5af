use Rattle.std.proofs.Common.{◌≡◌, ◌*◌, length, take}
use Rattle.bt_lanes.proofs.Groups.{digests_of}
use Rattle.bt_lanes.proofs.many.digest_groups.Given as goal

abbrev pub invariant-groups : goal.invariant-groups
invariant-groups l = record {
  count : length l.out ≡ length l.messages;
  written : take (8 * l.k) l.out ≡ digests_of (take (8 * l.k) l.messages);
}
