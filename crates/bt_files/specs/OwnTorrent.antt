-- The file that a torrent is read from, which may not be one of those that it names.
use Rattle.std.specs.Prelude.{◌≡◌, ◌⊎◌, ℕ, Bool, false, List}
use Rattle.bt_folder.specs.Lookup.{Tells}
use Rattle.bt_meta.specs.Files.{File}
use Rattle.bt_meta.specs.Torrent.{Metainfo}
use Rattle.bt_check.specs.Fault.{out_of_memory, same_file}
use Rattle.bt_check.specs.TorrentFile.{HasText}
use Rattle.bt_check.specs.declared.fault.Fault.{Fault}
use Rattle.bt_log_file.specs.Looking.{HasFileAt}
use Rattle.bt_files.specs.FileUse.{is_read_only}
use Rattle.bt_files.specs.OpenFolder.{HasFileOfAnotherPath}
use Rattle.bt_files.specs.declared.file_use.FileUse.{FileUse}

-- memory was refused, or what was told of a torrent's own file and of those that it names shows that it is one of
-- them; which is no fault where they are only read
abbrev pub IsSourceFault : Tells → FileUse → (dir : List ℕ) → List File → (path : List ℕ) → Fault → Type 0
IsSourceFault tells usage dir files path fault =
    ((fault ≡ same_file) × (is_read_only usage ≡ false) × HasFileAt tells dir files path)
    ⊎ (fault ≡ out_of_memory)

-- A torrent of some text was read from the file at a path. One of those that it names is of another path, or what was
-- told shows that it is the one at that path.
pub record HasOneFileTwice (tells : Tells) (dir path : List ℕ) (is_info : Bool) : Type 0 where
  pub torrent : Metainfo
  pub read : HasText is_info torrent
  pub same : HasFileOfAnotherPath torrent.files ⊎ HasFileAt tells dir torrent.files path
