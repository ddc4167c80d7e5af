-- Names of one folder, of which some are one but for case.
use Rattle.std.specs.Prelude.{◌≡◌, ◌⊎◌, ℕ, ◌&&◌, Bool, true, false, List, Option, None, Some, MatchOption, Ok}
use Rattle.std.specs.Option.{option_and_then}
use Rattle.std.specs.StrCase.Upper.{str_to_uppercase}
use Rattle.bt_folder.specs.CaseNames.{name_with}
use Rattle.bt_folder.specs.FolderNames.{has_name}
use Rattle.bt_folder.specs.Lookup.{Lists}
use Rattle.bt_folder.specs.declared.folder_names.FolderNames.{FolderNames}
use Rattle.bt_folder.specs.declared.case_folder.CaseFolder.{CaseFolder}

-- no name of the folder was looked at
abbrev pub HasNoName : CaseFolder → Type 0
HasNoName folder = (capitals : List ℕ) → name_with folder.names capitals ≡ None

-- the name with these capitals that was looked at in a folder
abbrev pub name_in : Option CaseFolder → List ℕ → Option (List ℕ)
name_in folder capitals = option_and_then (λ f. name_with f.names capitals) folder

-- the listing that is held of a folder
abbrev pub listing_of : Option CaseFolder → Option FolderNames
listing_of folder = option_and_then (λ f. f.listing) folder

-- A name is its own beside one with its capitals just where the folder's listing has both: one that was held before,
-- or that was told now of the folder's place. It is only by one that was told now that it is not.
pub record IsOwnBeside (lists : Lists) (place : List ℕ) (before after : Option FolderNames)
    (twin name : List ℕ) (is_own : Bool) : Type 0 where
  pub listing : FolderNames
  pub held : after ≡ Some listing
  pub told : (before ≡ Some listing) ⊎ lists place (Ok listing)
  pub fresh : is_own ≡ false → lists place (Ok listing)
  pub both : is_own ≡ (has_name listing twin && has_name listing name)

-- whether it is, in a folder: it is, where none was looked at with its capitals
abbrev pub IsOwnIn : Lists → List ℕ → (before after : Option CaseFolder) → List ℕ → Bool → Type 0
IsOwnIn lists place before after name is_own =
    MatchOption (name_in before (str_to_uppercase name)) (is_own ≡ true)
    (λ twin. IsOwnBeside lists place (listing_of before) (listing_of after) twin name is_own)
