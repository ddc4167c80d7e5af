use Rattle.bt_meta.proofs.Base.{◌≡◌, entries_of, entries_before}
use Rattle.bt_meta.proofs.EncodeValue.{layer_list}
use Rattle.bt_meta.proofs.encode.layer_entries.Given as goal

abbrev pub invariant-loop-root : goal.invariant-loop-root
invariant-loop-root l = entries_before (entries_of l.entries.items) (layer_list l.root-iterator) ≡ layer_list l.layers.entries
