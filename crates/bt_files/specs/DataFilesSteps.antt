-- What is opened for one file of a torrent.
use Rattle.std.specs.Prelude.{◌≡◌, ◌≢◌, ℕ, ◌+◌, List, [], ◌∷◌, ◌++◌, Option, Some, None}
use Rattle.bt_meta.specs.Files.{File}
use Rattle.bt_check.specs.Paths.{path_below}
use Rattle.bt_files.specs.DataFiles.{DeviceView, IsNewDevice}
use Rattle.bt_files.specs.declared.file_use.FileUse.{FileUse}

-- What a pool that had made `before` devices gave for a file below a folder, and how many it has made then: the next
-- device, or none where the file is empty.
abbrev pub IsOpenedFor : FileUse → List ℕ → File → (before : ℕ) → Option DeviceView → (after : ℕ) → Type 0
IsOpenedFor usage dir file before None after = (file.length ≡ 0) × (after ≡ before)
IsOpenedFor usage dir file before (Some disk) after =
    (file.length ≢ 0) × (after ≡ before + 1) × IsNewDevice usage after (path_below dir file.path) disk

-- an item, if there is one, stands after others
abbrev pub IsPushed : {A : Type 0} → List A → Option A → List A → Type 0
IsPushed before None after = after ≡ before
IsPushed before (Some item) after = after ≡ before ++ item ∷ []
