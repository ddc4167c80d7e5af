-- The steps of reading a file's properties. No public contract cites them.
use Rattle.std.specs.Prelude.{◌≡◌, ℕ, ◌≤◌, ◌==◌, ◌⊎◌, Bool, true, false, not, List, Option, None, Some, ◌&&◌, ◌||◌}
use Rattle.std.specs.Ordering.{nat_cmp}
use Rattle.std.specs.Cmp.Lexicographic.{slice_cmp}
use Rattle.std.specs.BTreeMap.{BTreeMap, get}
use Rattle.bt_bencode.specs.Value.{Data}
use Rattle.bt_tree.specs.Limits.{max_file_length}
use Rattle.bt_meta.specs.Files.{length_in, root_in, Content, is_conflict, has_other_length}
use Rattle.bt_meta.specs.Faults.{first_of, property_checks}
use Rattle.bt_meta.specs.declared.error.MetaError.{MetaError}
use Rattle.bt_meta.specs.declared.error.MetaError.TheVariants.{RootConflict, OutOfMemory}
use Rattle.bt_meta.specs.declared.properties.FileFacts.{FileFacts}

-- properties without a fault say this
pub record IsFileFacts (properties : Data) (facts : FileFacts) : Type 0 where
  pub faultless : first_of (property_checks properties) ≡ None
  pub length : facts.length ≡ length_in properties
  pub short : facts.length ≤ max_file_length
  pub root : facts.root ≡ root_in properties

abbrev pub Lengths : Type 0
Lengths = BTreeMap (List ℕ) ℕ

abbrev pub length_at : Lengths → List ℕ → Option ℕ
length_at lengths root = get (slice_cmp nat_cmp) lengths root

-- another length than n is noted
abbrev pub is_other_length : Option ℕ → ℕ → Bool
is_other_length None n = false
is_other_length (Some m) n = not (m == n)

-- the map has the lengths of the roots of these files
abbrev pub HasLengths : Lengths → List Content → Type 0
HasLengths lengths files = (root : List ℕ) (n : ℕ) →
    is_other_length (length_at lengths root) n ≡ has_other_length files root n

-- the root had no other length, and has this one now, where the file is not empty; all others have what they had
pub record NotesLength (old new : Lengths) (root : List ℕ) (n : ℕ) : Type 0 where
  pub alike : (not (n == 0) && is_other_length (length_at old root) n) ≡ false
  pub noted : (other : List ℕ) (m : ℕ) → is_other_length (length_at new other) m
      ≡ (is_other_length (length_at old other) m || is_conflict other m root n)

-- no length was noted, and out of memory is told; or another length was, and this is told
abbrev pub IsLengthConflict : Lengths → List ℕ → ℕ → MetaError → Type 0
IsLengthConflict lengths root n e = ((n == 0) ≡ false)
    × (((e ≡ OutOfMemory) × (length_at lengths root ≡ None))
    ⊎ ((e ≡ RootConflict) × (is_other_length (length_at lengths root) n ≡ true)))
