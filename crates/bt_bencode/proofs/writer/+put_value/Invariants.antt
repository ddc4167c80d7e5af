use Rattle.bt_bencode.proofs.Base.{◌≡◌, ◌++◌, ◌∷◌, [], take, items_of, entries_of, items_spelling, entries_spelling}
use Rattle.bt_bencode.proofs.writer.+put_value.Given as goal

abbrev pub invariant-loop-item : goal.invariant-loop-item
invariant-loop-item l = l.out.items ≡ (l.fn.out.items ++ 108 ∷ []) ++ items_spelling (items_of (take l.item-index l.item-items))

abbrev pub invariant-loop-key : goal.invariant-loop-key
invariant-loop-key l = l.out.items ≡ (l.fn.out.items ++ 100 ∷ []) ++ entries_spelling (entries_of (take l.key-index l.key-items))
