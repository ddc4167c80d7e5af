use Rattle.std.proofs.Common.{◌≡◌, ◌+◌, ◌≤◌}
use Rattle.bt_store.specs.GroupsSteps.{noted_found, counted_found}
use Rattle.bt_store.proofs.groups.note_found.Given as goal

abbrev pub invariant-loop-j : goal.invariant-loop-j
invariant-loop-j l = record {
  digests : l.digests ≡ noted_found l.at l.blocks_found l.j l.fn.digests;
  tally : l.tally ≡ counted_found l.blocks_found l.j l.fn.tally;
  whole : l.tally.whole ≤ l.fn.tally.whole + l.j;
  faults : l.tally.faults ≤ l.fn.tally.faults + l.j;
}
