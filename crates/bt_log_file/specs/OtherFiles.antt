-- The files that the one of a log may not be.
use Rattle.std.specs.Prelude.{ℕ, List, Option}
use Rattle.bt_disk.specs.declared.opening.FileIdentity.{FileIdentity}
use Rattle.bt_folder.specs.Lookup.{Lists, Tells}
use Rattle.bt_log_file.specs.Names.{HasNoFileByName}
use Rattle.bt_log_file.specs.Opening.{IsNoneOfFiles}
use Rattle.bt_log_file.specs.declared.other_files.OtherFiles.{OtherFiles}

-- the file at a path, of which the system tells this, is none of them
abbrev pub IsFree : Tells → Lists → OtherFiles → Option FileIdentity → (path : List ℕ) → Type 0
IsFree tells lists others identity path = IsNoneOfFiles others.known.value identity
    (HasNoFileByName tells lists others.dir.now others.torrent.now.files path)
