use Rattle.std.proofs.Common.{◌∙◌, true, bytes_eq, string_bytes}
use Rattle.std.proofs.lemmas.Map.Text.{btree_set_updates_text}
use Rattle.bt_folder.proofs.Names.{cond_or}
use Rattle.bt_folder.proofs.folder_names.FolderNames.add_name.Goals as goal

pub returns-clause-added : goal.returns-clause-added
returns-clause-added c = λ other.
    rw (← c.in_ok-from_str.ensures.ok)
    (btree_set_updates_text (string_bytes c.in_ok-from_str.field-0) _ _ true c.in_ok-insert.ensures.updates other ∙ cond_or (bytes_eq (string_bytes c.in_ok-from_str.field-0) other) _)
