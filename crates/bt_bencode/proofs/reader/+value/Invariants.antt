use Rattle.std.proofs.Common.{◌+◌, ◌-◌, ◌*◌, length}
use Rattle.bt_bencode.proofs.ReadParts.{ItemsTo, EntriesTo}
use Rattle.bt_bencode.proofs.reader.+value.Given as goal

abbrev pub decreases-value_at : goal.decreases-value_at
decreases-value_at l = 2 * l.depth + 1

abbrev pub decreases-list_at : goal.decreases-list_at
decreases-list_at l = 2 * l.depth

abbrev pub decreases-dictionary_at : goal.decreases-dictionary_at
decreases-dictionary_at l = 2 * l.depth

abbrev pub invariant-list_at-loop-alloc : goal.invariant-list_at-loop-alloc
invariant-list_at-loop-alloc l = ItemsTo l.depth l.bytes l.at l.next l.items.items

abbrev pub decreases-list_at-loop-alloc : goal.decreases-list_at-loop-alloc
decreases-list_at-loop-alloc l = length l.bytes - l.next

abbrev pub invariant-dictionary_at-loop-alloc : goal.invariant-dictionary_at-loop-alloc
invariant-dictionary_at-loop-alloc l = EntriesTo l.depth l.bytes l.at l.next l.entries.items

abbrev pub decreases-dictionary_at-loop-alloc : goal.decreases-dictionary_at-loop-alloc
decreases-dictionary_at-loop-alloc l = length l.bytes - l.next
