use Rattle.bt_meta.proofs.Base.{◌≡◌, map, take, entries_of, given_at, tree_made}
use Rattle.bt_meta.proofs.encode.tree_of.Given as goal

abbrev pub invariant-loop-file : goal.invariant-loop-file
invariant-loop-file l = entries_of l.tree.items ≡ tree_made (take l.file-index (map given_at l.files))
