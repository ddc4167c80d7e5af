use Rattle.bt_meta.proofs.Base.{rules, leb}
use Rattle.std.proofs.lemmas.List.Sorted.{IsPartitionPoint-from_clause}
use Rattle.bt_meta.proofs.PlacePieces.{entries_parted, below_point}
use Rattle.bt_meta.proofs.torrent.Torrent.last_file_at.Goals as goal

pub returns : goal.returns
returns c =
    let point = IsPartitionPoint-from_clause (λ e. leb e.first_piece c.args.piece) _ _ c.partition_point-begun.ensures.partitioned
    (rw c.deref.ensures.value (entries_parted _ _ _ c.self.invariant.1.laid_out)) (λ a r q k. search rules) in
    let found = rw c.deref.ensures.value at (below_point _ _ _ point c.partition_point-begun.ensures.bound _ c.checked_sub.ensures) in
    record { some = rw (← c.self.view_is) found.0; none = rw (← c.self.view_is) found.1 }
