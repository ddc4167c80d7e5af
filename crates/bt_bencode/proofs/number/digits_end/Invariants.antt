use Rattle.bt_bencode.proofs.Base.{◌-◌, ◌≤◌, length, slice_range, AllDigits}
use Rattle.bt_bencode.proofs.number.digits_end.Given as goal

abbrev pub invariant-loop-end : goal.invariant-loop-end
invariant-loop-end l = record {
  from : l.at ≤ l.end;
  inside : l.end ≤ length l.bytes;
  digits : AllDigits 10 (slice_range l.bytes l.at l.end);
}

abbrev pub decreases-loop-end : goal.decreases-loop-end
decreases-loop-end l = length l.bytes - l.end
