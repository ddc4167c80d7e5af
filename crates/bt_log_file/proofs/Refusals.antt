-- Why a file is none for a log, since it is one of others.
use Rattle.std.proofs.Common.{◌≡◌, ◌↔◌, ◌⊎◌, inl, inr, ℕ, ◌<◌, Bool, true, false, List, length, map, get_or, Option, Some, None, Result, Ok, Err, IfOk, refl, sym, ap, subst, arith, ◌+◌, ◌≤◌, ◌∙◌}
use Rattle.std.specs.Prelude.{IsTrue, MatchBool, OnOk, slice_get}
use Rattle.std.specs.Bool.{OnFalse}
use Rattle.std.specs.declared.alloc.AllocError.{AllocError}
use Rattle.std.proofs.lemmas.Bool.{cases_lt, false≢true}
use Rattle.std.proofs.lemmas.List.{length-map}
use Rattle.std.proofs.lemmas.Option.{none-some, same_Some, slice_get-get_or, slice_get-map, slice_get_within}
use Rattle.std.specs.Option.{option_map}
use Rattle.bt_disk.specs.declared.opening.FileIdentity.{FileIdentity}
use Rattle.bt_folder.specs.KnownFiles.{IsKnown}
use Rattle.bt_folder.specs.Lookup.{Tells}
use Rattle.bt_folder.specs.declared.known_files.KnownFiles.{KnownFiles}
use Rattle.bt_meta.specs.Files.{File, file_of}
use Rattle.bt_meta.specs.declared.torrent.FileEntry.{FileEntry}
use Rattle.bt_log_file.specs.Looking.{HasFileAt, HasNoFileAt, IsFileAt, IsNoneAt}
use Rattle.bt_log_file.specs.Opening.{IsAdded}

-- ---- files by what the system tells of them

pub is_further : (r : Result Bool AllocError) (files : KnownFiles) (file : FileIdentity)
    → IfOk r (λ further. IsTrue further ↔ (¬ IsKnown files file)) → IfOk r (λ further. OnFalse further (IsKnown files file))
    → IfOk r (λ further. MatchBool further (¬ IsKnown files file) (IsKnown files file))
is_further (Ok true) files file further known = further.0 refl
is_further (Ok false) files file further known = known
is_further (Err e) files file further known = tt

pub added : (r : Result Bool AllocError) (before after : KnownFiles) (file : FileIdentity)
    → OnOk r ((other : FileIdentity) → IsKnown after other ↔ (IsKnown before other ⊎ (other ≡ file))) → OnOk r (IsAdded before (Some file) after)
added (Ok answer) before after file known = λ other. (
  λ now. elim ((known other).0 now) [ inl was ↦ inl was | inr same ↦ inr (ap Some (sym same)) ],
  λ either. elim either [ inl was ↦ (known other).1 (inl was) | inr same ↦ (known other).1 (inr (sym (same_Some file other same))) ],
)
added (Err e) before after file known = tt

-- where the system tells nothing, none is added
pub none_added : (files : KnownFiles) → IsAdded files None files
none_added files = λ other. (λ was. inl was, λ either. elim either [ inl was ↦ was | inr same ↦ absurd (none-some other same) ])

-- ---- files by their names

-- the file of an entry that a walk is at
pub file_at : (entries : List FileEntry) (i : ℕ) (entry : FileEntry) → i < length entries → entry ≡ get_or entries i entry
    → slice_get (map file_of entries) i ≡ Some (file_of entry)
file_at entries i entry below at =
    slice_get-map file_of entries i ∙ ap (option_map file_of) (slice_get-get_or entries i entry below) ∙ ap (λ e. Some (file_of e)) (sym at)

-- what holds where an answer is yes, and where it is no
pub on_yes : (b : Bool) (P Q : Type 0) → b ≡ true → MatchBool b P Q → P
on_yes true P Q said is = is
on_yes false P Q said is = absurd (false≢true said)

pub on_no : (b : Bool) (P Q : Type 0) → b ≡ false → MatchBool b P Q → Q
on_no true P Q said is = absurd (false≢true (sym said))
on_no false P Q said is = is

-- whether one of these files is the one at a path, by what was told of that
pub by_what_is_told : (tells : Tells) (dir path : List ℕ) (r : Result Bool AllocError) (found : Option FileIdentity) → tells path found
    → {files all : List File} → all ≡ files
    → IfOk r (λ is_among. MatchBool is_among (IsFileAt tells dir all path found) (IsNoneAt tells dir all path found))
    → IfOk r (λ is_file. MatchBool is_file (HasFileAt tells dir files path) (HasNoFileAt tells dir files path))
by_what_is_told tells dir path (Ok true) found told same at =
    (found, told, subst (λ (files : List File). IsFileAt tells dir files path found) same at)
by_what_is_told tells dir path (Ok false) found told same none =
    (found, told, subst (λ (files : List File). IsNoneAt tells dir files path found) same none)
by_what_is_told tells dir path (Err e) found told same at = tt

-- something holds of each of the first `count` files
abbrev pub EachBefore : (File → Type 0) → List File → ℕ → Type 0
EachBefore P files count = (number : ℕ) (file : File) → number < count → slice_get files number ≡ Some file → P file

-- of one more
pub each_more : (P : File → Type 0) (entries : List FileEntry) (i : ℕ) (entry : FileEntry) → i < length entries → entry ≡ get_or entries i entry
    → EachBefore P (map file_of entries) i → P (file_of entry) → EachBefore P (map file_of entries) (i + 1)
each_more P entries i entry below at before holds number file next here =
    elim (cases_lt number i) [
      | inl earlier ↦ before number file earlier here
      | inr last ↦
          let same : number ≡ i = omega (arith, next, last) in
          subst P (same_Some (file_of entry) file (sym (file_at entries i entry below at) ∙ ap (slice_get (map file_of entries)) (sym same) ∙ here)) holds
    ]

-- of all
pub each_of_all : (P : File → Type 0) (entries : List FileEntry) (i : ℕ) → length entries ≤ i → EachBefore P (map file_of entries) i
    → (number : ℕ) (file : File) → slice_get (map file_of entries) number ≡ Some file → P file
each_of_all P entries i all before number file here =
    before number file (omega (arith, all, slice_get_within (map file_of entries) number file here, length-map entries file_of)) here
