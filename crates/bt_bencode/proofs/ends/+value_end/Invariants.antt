use Rattle.bt_bencode.proofs.Base.{◌≡◌, ◌+◌, drop, length, data_of, items_of, entries_of, spelling_of, items_spelling, entries_spelling}
use Rattle.bt_bencode.proofs.ends.+value_end.Given as goal

-- what is left, and the byte that ends it
abbrev pub invariant-loop-item : goal.invariant-loop-item
invariant-loop-item l = l.end + length (items_spelling (items_of (drop l.item-index l.item-items))) + 1 ≡ l.fn.at + length (spelling_of (data_of l.value))

abbrev pub invariant-loop-key : goal.invariant-loop-key
invariant-loop-key l = l.end + length (entries_spelling (entries_of (drop l.key-index l.key-items))) + 1 ≡ l.fn.at + length (spelling_of (data_of l.value))
