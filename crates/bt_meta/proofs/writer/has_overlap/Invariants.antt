use Rattle.bt_meta.proofs.Base.{map, given_at}
use Rattle.bt_meta.proofs.MakeFiles.{AreApartTo}
use Rattle.bt_meta.proofs.writer.has_overlap.Given as goal

abbrev pub invariant-loop-i : goal.invariant-loop-i
invariant-loop-i l = AreApartTo (map given_at l.files) l.i
