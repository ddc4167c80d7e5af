-- What a walk over a folder gives. No contract speaks of what a folder holds.
use Rattle.std.specs.Prelude.{◌≡◌, ◌≢◌, ◌⊎◌, ◌++◌, ℕ, List, [], ◌∷◌, take, string_bytes}
use Rattle.std.specs.Cmp.Lexicographic.{slice_cmp}
use Rattle.std.specs.List.Sorted.{IsStrictlySortedBy}
use Rattle.std.specs.Ordering.{nat_cmp}
use Rattle.std.specs.declared.io.ErrorKind.{ErrorKind}
use Rattle.std.specs.declared.io.ErrorKind.TheVariants.{InvalidFilename}
use Rattle.bt_meta.specs.declared.writer.MakeError.TheVariants.{BadPath}
use Rattle.bt_check.specs.Fault.{device, out_of_memory, make_fault, system_fault}
use Rattle.bt_check.specs.declared.fault.Fault.{Fault}
use Rattle.bt_make.specs.declared.folder.EntryKind.{EntryKind}
use Rattle.bt_make.specs.declared.folder.EntryKind.TheVariants.{File, Folder}
use Rattle.bt_make.specs.declared.folder.FolderEntry.{FolderEntry}

-- the path of an entry, after an entry with this path: the two folders' common elements, and its name
abbrev pub path_behind : List (List ℕ) → FolderEntry → List (List ℕ)
path_behind before entry = take entry.depth before ++ string_bytes entry.name ∷ []

-- the path of a file; a folder is none
abbrev pub path_of_file : EntryKind → List (List ℕ) → List (List (List ℕ))
path_of_file File path = path ∷ []
path_of_file Folder path = []

-- the paths of the files among entries, after an entry with this path
unfoldable pub file_paths : List (List ℕ) → List FolderEntry → List (List (List ℕ))
file_paths before [] = []
file_paths before (entry ∷ entries) =
    path_of_file entry.kind (path_behind before entry) ++ file_paths (path_behind before entry) entries

-- a path that names something
abbrev pub HasElement : List (List ℕ) → Type 0
HasElement path = path ≢ []

-- paths ascend strictly, element by element in the order of their bytes
abbrev pub Ascend : List (List (List ℕ)) → Type 0
Ascend paths = IsStrictlySortedBy (slice_cmp (slice_cmp nat_cmp)) paths

-- a folder can't be listed, or there is no memory; or a name is refused, as one that is not UTF-8 is
abbrev pub IsListingFault : Fault → Type 0
IsListingFault fault = (fault ≡ device) ⊎ (fault ≡ out_of_memory) ⊎ (fault ≡ make_fault BadPath)

-- the next name of a folder could not be read: one that is not valid is not UTF-8
abbrev pub listing_fault : ErrorKind → Fault
listing_fault InvalidFilename = make_fault BadPath
listing_fault kind = system_fault kind
