use Rattle.std.proofs.lemmas.Map.Views.{btree_set_contains_iff}
use Rattle.bt_folder.proofs.Identities.{pair_total, pair_exact, is_same_file, further, known_before, there_now}
use Rattle.bt_folder.proofs.known_files.KnownFiles.insert.Goals as goal

pub returns-clause-is_further : goal.returns-clause-is_further
returns-clause-is_further c =
    further _ _ _ c.in_ok-insert.ensures.added (btree_set_contains_iff pair_total pair_exact _ (c.args.file.device, c.args.file.inode))

pub returns-clause-known : goal.returns-clause-known
returns-clause-known c =
    known_before _ _ _ c.in_ok-insert.ensures.added (btree_set_contains_iff pair_total pair_exact _ (c.args.file.device, c.args.file.inode))

pub returns-clause-added : goal.returns-clause-added
returns-clause-added c = λ other.
    there_now _ _ _ _ _ _ (c.in_ok-insert.ensures.updates.0 (other.device, other.inode))
    (btree_set_contains_iff pair_total pair_exact _ (other.device, other.inode))
    (btree_set_contains_iff pair_total pair_exact _ (other.device, other.inode))
    (is_same_file c.args.file other)
