-- Files that were opened already.
use Rattle.std.specs.List.{Contains}
use Rattle.std.specs.BTreeSet.{keys}
use Rattle.bt_disk.specs.declared.opening.FileIdentity.{FileIdentity}
use Rattle.bt_folder.specs.declared.known_files.KnownFiles.{KnownFiles}

-- the file is one of them: the system tells it by its device and its inode (POSIX, `struct stat`)
abbrev pub IsKnown : KnownFiles → FileIdentity → Type 0
IsKnown known file = Contains (keys known.files) (file.device, file.inode)
