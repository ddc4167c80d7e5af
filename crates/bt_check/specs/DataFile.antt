-- The data files of a torrent.
use Rattle.std.specs.Prelude.{◌≡◌, ◌⊎◌, ◌+◌, ℕ, List, [], ◌∷◌, Option, Some, None, IfSome}
use Rattle.std.specs.List.{flat_map, range_with_len}
use Rattle.std.specs.declared.io.ErrorKind.{ErrorKind}
use Rattle.std.specs.declared.io.ErrorKind.TheVariants.{NotFound, NotADirectory, InvalidFilename}
use Rattle.bt_disk.specs.Pool.{PooledView}
use Rattle.bt_meta.specs.Files.{File, file_of}
use Rattle.bt_check.specs.Paths.{path_below}
use Rattle.bt_check.specs.declared.data_file.DataFile.{DataFile}

-- an error of a look at a path that says that no file can be there
abbrev pub IsAbsence : ErrorKind → Type 0
IsAbsence kind = (kind ≡ NotFound) ⊎ (kind ≡ NotADirectory) ⊎ (kind ≡ InvalidFilename)

-- the file of a torrent that a data file is for
abbrev pub file_at : {D : Type 0} → DataFile D → File
file_at d = file_of d.file.now

-- its device, where it has one, is that of the file's path below a folder
abbrev pub IsAtPath : List ℕ → DataFile PooledView → Type 0
IsAtPath dir d = IfSome d.disk (λ disk. disk.path ≡ path_below dir (file_at d).path)

-- the number that a device has in its pool, where there is a device
abbrev pub number_of : Option PooledView → List ℕ
number_of None = []
number_of (Some disk) = disk.number ∷ []

-- The devices have the numbers 1, 2 and so on, as one pool gives them: two pools would each begin with 1.
abbrev pub AreOfOnePool : List (DataFile PooledView) → Type 0
AreOfOnePool files = (count : ℕ) × (flat_map (λ d. number_of d.disk) files ≡ range_with_len 1 count)

-- a pool that had made `before` devices has made `after`, which are more by this one, where there is one
abbrev pub IsNextOf : (before after : ℕ) → Option PooledView → Type 0
IsNextOf before after None = after ≡ before
IsNextOf before after (Some disk) = (after ≡ before + 1) × (disk.number ≡ after)
