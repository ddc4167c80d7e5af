-- How the name of a log's file is kept, so that the file is found after a crash.
use Rattle.std.specs.Prelude.{◌≡◌, ◌≢◌, ℕ, List, Result, Ok, Err}
use Rattle.std.specs.IoError.{error_kind}
use Rattle.std.specs.Path.{path_buf_bytes}
use Rattle.std.specs.declared.alloc.Global.{Global}
use Rattle.std.specs.declared.io.Error.{Error}
use Rattle.std.specs.declared.io.ErrorKind.TheVariants.{OutOfMemory}
use Rattle.std.specs.declared.path.buf.PathBuf.{PathBuf}
use Rattle.bt_disk.specs.declared.opening.Opening.{Opening}
use Rattle.bt_log_file.specs.Folder.{folder_of}

-- that a file system opened the file at a path, and told this of it
abbrev pub Opens : Type 1
Opens = List ℕ → Opening → Type 0

-- that it answered so where a path leads once all links are followed
abbrev pub Leads : Type 1
Leads = List ℕ → Result (PathBuf Global) Error → Type 0

-- The path at the end of all links, by this answer: the one that was told, or, where none was, the one given; but not
-- where memory was refused for it.
abbrev pub IsEndBy : Result (PathBuf Global) Error → (path end : List ℕ) → Type 0
IsEndBy (Ok told) path end = end ≡ path_buf_bytes told
IsEndBy (Err error) path end = (error_kind error ≢ OutOfMemory) × (end ≡ path)

-- the path at the end of all links, by what the system answered
abbrev pub IsEndOfLinks : Leads → (path end : List ℕ) → Type 0
IsEndOfLinks leads path end =
    (answer : Result (PathBuf Global) Error) × leads path answer × IsEndBy answer path end

-- this is so of the folder that the file at a path lies in once all links are followed
abbrev pub HasFolderThat : Leads → (List ℕ → Type 0) → List ℕ → Type 0
HasFolderThat leads is path = (end : List ℕ) × IsEndOfLinks leads path end × is (folder_of end)

-- the name of a file of which the system told this is kept, where the file has no bytes
abbrev pub IsKeptIfEmpty : Leads → (keeps : List ℕ → Type 0) → Opening → List ℕ → Type 0
IsKeptIfEmpty leads keeps opening path = opening.len ≡ 0 → HasFolderThat leads keeps path

-- A file was opened at a path, and its name kept where it had no bytes.
pub record IsKeptFile (opens : Opens) (leads : Leads) (keeps : List ℕ → Type 0) (path : List ℕ) : Type 0 where
  pub opening : Opening
  pub told : opens path opening
  pub kept : IsKeptIfEmpty leads keeps opening path
