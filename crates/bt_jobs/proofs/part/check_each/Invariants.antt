-- The files so far are told.
use Rattle.std.proofs.Common.{ℕ, List}
use Rattle.std.specs.Vec.Iter.{into_iter_items}
use Rattle.bt_jobs.proofs.PartReports.{IsPartTelling}
use Rattle.bt_jobs.proofs.part.check_each.Given as goal

abbrev pub invariant-loop-data : goal.invariant-loop-data
invariant-loop-data g l =
    (layer_at : ℕ → List ℕ → List ℕ)
    × IsPartTelling g.D.Disk.conduct l.size.layer layer_at l.fn.files.items (into_iter_items l.data-iterator) l.trees
    (g.W.Write.contents l.fn.writer) (g.W.Write.contents l.writer)
