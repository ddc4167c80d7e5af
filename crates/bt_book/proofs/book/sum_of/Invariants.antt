use Rattle.std.proofs.Common.{◌≡◌, ◌*◌, ◌≤◌, sum, take}
use Rattle.bt_book.proofs.book.sum_of.Given as goal

abbrev pub invariant-loop-number : goal.invariant-loop-number
invariant-loop-number l = record {
  below : l.sum ≤ l.number-index * 4294967295;
  so_far : l.sum ≡ sum (take l.number-index l.numbers);
}
