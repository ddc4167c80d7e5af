-- Why a call of the system failed, in words: those of errno(3), but where they would say less.
use Rattle.std.specs.Prelude.{ℕ, List, Option, None, Some, codes}
use Rattle.std.specs.declared.io.ErrorKind.{ErrorKind}
use Rattle.std.specs.declared.io.ErrorKind.TheVariants as kind

-- the words for a kind of error
abbrev pub kind_reason : ErrorKind → Option (List ℕ)
kind_reason kind.NotFound = Some (codes "no such file or directory")
kind_reason kind.PermissionDenied = Some (codes "permission denied")
kind_reason kind.AlreadyExists = Some (codes "file exists")
kind_reason kind.NotADirectory = Some (codes "not a directory")
kind_reason kind.IsADirectory = Some (codes "is a directory")
kind_reason kind.DirectoryNotEmpty = Some (codes "directory not empty")
kind_reason kind.ReadOnlyFilesystem = Some (codes "read-only file system")
kind_reason kind.FilesystemLoop = Some (codes "too many levels of symbolic links")
kind_reason kind.StorageFull = Some (codes "no space left on device")
kind_reason kind.QuotaExceeded = Some (codes "disk quota exceeded")
kind_reason kind.FileTooLarge = Some (codes "file too large")
kind_reason kind.InvalidFilename = Some (codes "file name too long, or not UTF-8")
kind_reason kind.InvalidInput = Some (codes "invalid argument")
kind_reason kind.AddrInUse = Some (codes "address already in use")
kind_reason kind.AddrNotAvailable = Some (codes "no address of this machine")
kind_reason kind.NetworkUnreachable = Some (codes "network is unreachable")
kind_reason kind.TimedOut = Some (codes "timed out")
kind_reason _ = None
