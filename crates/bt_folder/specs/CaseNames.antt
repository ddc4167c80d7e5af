-- Names of a folder, each by its capitals (Unicode, default case conversion).
use Rattle.std.specs.Prelude.{ℕ, List, Option, Some, string_bytes, bytes_eq, if◌then◌else◌}
use Rattle.std.specs.Option.{option_map, option_or}
use Rattle.std.specs.BTreeMap.{get_by_text}
use Rattle.std.specs.StrCase.Upper.{str_to_uppercase}
use Rattle.bt_folder.specs.declared.case_names.CaseNames.{CaseNames}

-- the name that has these capitals
abbrev pub name_with : CaseNames → List ℕ → Option (List ℕ)
name_with names capitals = option_map string_bytes (get_by_text names.names capitals)

-- a name is added to others, unless one has its capitals
abbrev pub with_name : List ℕ → (List ℕ → Option (List ℕ)) → List ℕ → Option (List ℕ)
with_name name others capitals =
    if bytes_eq (str_to_uppercase name) capitals
    then option_or (others capitals) (Some name)
    else others capitals
