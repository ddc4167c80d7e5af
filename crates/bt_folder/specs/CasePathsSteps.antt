-- Folders on a path, and the names of each that were looked at.
use Rattle.std.specs.Prelude.{◌≡◌, ◌<◌, ℕ, ◌++◌, ◌∷◌, List, []}
use Rattle.bt_folder.specs.CaseFolders.{HasNoName, name_in}
use Rattle.bt_folder.specs.CaseNames.{with_name}
use Rattle.bt_folder.specs.CasePaths.{folder_on}
use Rattle.bt_folder.specs.declared.case_folder.CaseFolder.{CaseFolder}
use Rattle.bt_folder.specs.declared.paths_so_far.CasePaths.{CasePaths}

-- a folder of which no name was looked at was put after others
abbrev pub HasFurther : List CaseFolder → List CaseFolder → Type 0
HasFurther before after = (folder : CaseFolder) × HasNoName folder × (after ≡ before ++ folder ∷ [])

-- a name was looked at in the folder at this depth
abbrev pub AddsName : (old new : CasePaths) (depth : ℕ) (name : List ℕ) → Type 0
AddsName old new depth name = (capitals : List ℕ)
    → name_in (folder_on new depth) capitals ≡ with_name name (name_in (folder_on old depth)) capitals

-- the folders above this depth stay
abbrev pub KeepsAbove : (old new : CasePaths) (depth : ℕ) → Type 0
KeepsAbove old new depth = (above : ℕ) → above < depth → folder_on new above ≡ folder_on old above
