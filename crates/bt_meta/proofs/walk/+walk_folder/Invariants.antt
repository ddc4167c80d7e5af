use Rattle.bt_meta.proofs.Base.{take, entries_of, tree_entries_among, Passes, folder_elements}
use Rattle.bt_meta.proofs.walk.+walk_folder.Given as goal

abbrev pub invariant-loop-key : goal.invariant-loop-key
invariant-loop-key l =
    Passes l.piece_length (tree_entries_among (folder_elements l.path) (entries_of (take l.key-index l.key-items))) l.fn.walk l.walk
