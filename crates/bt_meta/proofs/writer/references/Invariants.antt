use Rattle.bt_meta.proofs.Base.{◌≡◌, map, take, given_of, given_at}
use Rattle.bt_meta.proofs.writer.references.Given as goal

abbrev pub invariant-loop-file : goal.invariant-loop-file
invariant-loop-file l = map given_at l.references.items ≡ map given_of (take l.file-index l.files)
