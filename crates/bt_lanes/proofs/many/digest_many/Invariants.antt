use Rattle.std.proofs.Common.{◌≡◌, length, take}
use Rattle.bt_lanes.proofs.Groups.{digests_of}
use Rattle.bt_lanes.proofs.many.digest_many.Given as goal

abbrev pub invariant-rest : goal.invariant-rest
invariant-rest l = record {
  count : length l.out ≡ length l.messages;
  written : take l.i l.out ≡ digests_of (take l.i l.messages);
}
