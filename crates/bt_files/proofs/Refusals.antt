-- Which files are refused, since they are those of other paths.
use Rattle.std.proofs.Common.{◌≡◌, ◌↔◌, ◌⊎◌, inl, inr, ℕ, zero, suc, ◌+◌, ◌<◌, Bool, true, false, List, [], ◌∷◌, ◌++◌, length, length-append, map, get_or, Option, Some, None, Result, Ok, Err, IfOk, refl, sym, ap, subst, ◌∙◌, arith}
use Rattle.std.specs.Prelude.{Contains, IsTrue, MatchBool, OnOk}
use Rattle.std.specs.Bool.{OnFalse}
use Rattle.std.specs.declared.alloc.AllocError.{AllocError}
use Rattle.std.proofs.lemmas.Option.{none-some, same_Some}
use Rattle.std.proofs.lemmas.List.{length-map}
use Rattle.std.proofs.lemmas.List.Elements.{Contains-append_cases, Contains-append_left, Contains-append_right}
use Rattle.bt_disk.specs.declared.opening.FileIdentity.{FileIdentity}
use Rattle.bt_folder.specs.KnownFiles.{IsKnown}
use Rattle.bt_folder.specs.declared.known_files.KnownFiles.{KnownFiles}
use Rattle.bt_machine.proofs.Lists.{contains_cases, contains_none, here}
use Rattle.bt_log_file.proofs.Refusals.{file_at}
use Rattle.bt_meta.specs.Files.{File, file_of}
use Rattle.bt_meta.specs.declared.torrent.FileEntry.{FileEntry}
use Rattle.bt_check.specs.declared.fault.Fault.{Fault}
use Rattle.bt_files.specs.FileUse.{is_read_only}
use Rattle.bt_files.specs.OpenFolder.{IsAdded, IsCallFaultOr, IsFileFault, IsOpeningFault, IsPathFault, IsUnused, KnowsFiles, KnowsOpened}
use Rattle.bt_files.specs.declared.file_use.FileUse.{FileUse}
use Rattle.bt_files.specs.declared.file_use.FileUse.TheVariants.{Fetch, Seed, SeedByLog, ReadOnly}
use Rattle.bt_files.specs.declared.open_folder.OpenFolder.{OpenFolder}

-- ---- files by what the system tells of them

pub is_own : (r : Result Bool AllocError) (files : KnownFiles) (file : FileIdentity) → IfOk r (λ is_further. IsTrue is_further ↔ (¬ IsKnown files file))
    → IfOk r (λ is_further. OnFalse is_further (IsKnown files file))
    → IfOk r (λ is_further. MatchBool is_further (¬ IsKnown files file) (IsKnown files file))
is_own (Ok true) files file further known = further.0 refl
is_own (Ok false) files file further known = known
is_own (Err e) files file further known = tt

pub added : (r : Result Bool AllocError) (before after : KnownFiles) (file : FileIdentity)
    → OnOk r ((other : FileIdentity) → IsKnown after other ↔ (IsKnown before other ⊎ (other ≡ file))) → OnOk r (IsAdded before (Some file) after)
added (Ok answer) before after file known = λ other. (
  λ now. elim ((known other).0 now) [ inl was ↦ inl was | inr same ↦ inr (ap Some (sym same)) ],
  λ either. elim either [ inl was ↦ (known other).1 (inl was) | inr same ↦ (known other).1 (inr (sym (same_Some file other same))) ],
)
added (Err e) before after file known = tt

-- where the system tells nothing, none is added
pub none_added : (files : KnownFiles) → IsAdded files None files
none_added files = λ other. (λ was. inl was, λ either. elim either [ inl was ↦ was | inr same ↦ absurd (none-some other same) ])

-- ---- faults

pub or_weaker : (P Q : Type 0) (fault : Fault) → (P → Q) → IsCallFaultOr P fault → IsCallFaultOr Q fault
or_weaker P Q fault follows (inl call) = inl call
or_weaker P Q fault follows (inr same) = inr (same.0, follows same.1)

-- no file is opened on the way to the next one
pub still_unused : (old new : OpenFolder) → new.files ≡ old.files → IsUnused old → IsUnused new
still_unused old new files unused = λ file known. unused file (subst (λ (them : KnownFiles). IsKnown them file) files known)

-- ---- what is known of the files before

-- at first nothing
knows_none : (files : KnownFiles) → ((file : FileIdentity) → ¬ IsKnown files file) → KnowsFiles files 0
knows_none files none = record {
  identities = [];
  each = refl;
  known = λ file. (λ was. absurd (none file was), λ listed. absurd (contains_none listed));
}

-- then those so far
knows_so_far : (folder : OpenFolder) (count : ℕ) → (count ≡ 0 → IsUnused folder) → (0 < count → KnowsFiles folder.files count)
    → KnowsFiles folder.files count
knows_so_far folder zero unused knows = knows_none folder.files (unused refl)
knows_so_far folder (suc i) unused knows = knows (omega arith)

pub knows_before : (usage : FileUse) (folder went : OpenFolder) (count : ℕ) → went.files ≡ folder.files → (count ≡ 0 → IsUnused folder)
    → (is_read_only usage ≡ false → 0 < count → KnowsFiles folder.files count) → is_read_only usage ≡ false → KnowsFiles went.files count
knows_before usage folder went count files unused knows writes =
    subst (λ (them : KnownFiles). KnowsFiles them count) (sym files) (knows_so_far folder count unused (knows writes))

only : (identity : Option FileIdentity) (file : FileIdentity) → Contains (identity ∷ []) (Some file) → identity ≡ Some file
only identity file listed = elim (contains_cases [] listed) [ inl same ↦ same | inr none ↦ absurd (contains_none none) ]

-- one more
pub knows_more : (before after : KnownFiles) (identity : Option FileIdentity) (count : ℕ) → KnowsFiles before count
    → IsAdded before identity after → KnowsFiles after (count + 1)
knows_more before after identity count knows added = record {
  identities = knows.identities ++ identity ∷ [];
  each = length-append knows.identities (identity ∷ []) ∙ ap (λ n. n + 1) knows.each;
  known = λ file. (
    λ now. elim ((added file).0 now) [
      | inl was ↦ Contains-append_left knows.identities (identity ∷ []) (Some file) ((knows.known file).0 was)
      | inr same ↦ Contains-append_right knows.identities (identity ∷ []) (Some file) (here [] same)
    ],
    λ listed. elim (Contains-append_cases knows.identities (identity ∷ []) (Some file) listed) [
      | inl was ↦ (added file).1 (inl ((knows.known file).1 was))
      | inr last ↦ (added file).1 (inr (only identity file last))
    ],
  );
}

-- after the last file all are known, but for a read-only use
pub knows_opened : (usage : FileUse) (folder : OpenFolder) (entries : List FileEntry) (count : ℕ) → count ≡ length entries
    → (count ≡ 0 → IsUnused folder) → (is_read_only usage ≡ false → 0 < count → KnowsFiles folder.files count)
    → (is_read_only usage ≡ true → IsUnused folder) → KnowsOpened usage (map file_of entries) folder.files
knows_opened ReadOnly folder entries count all unused knows unread = knows_none folder.files (unread refl)
knows_opened Fetch folder entries count all unused knows unread =
    subst (KnowsFiles folder.files) (all ∙ sym (length-map entries file_of)) (knows_so_far folder count unused (knows refl))
knows_opened Seed folder entries count all unused knows unread =
    subst (KnowsFiles folder.files) (all ∙ sym (length-map entries file_of)) (knows_so_far folder count unused (knows refl))
knows_opened SeedByLog folder entries count all unused knows unread =
    subst (KnowsFiles folder.files) (all ∙ sym (length-map entries file_of)) (knows_so_far folder count unused (knows refl))

-- ---- refusals as they are told of all files

-- a further file may be one before it
pub of_known_file : (usage : FileUse) (folder went : OpenFolder) (entries : List FileEntry) (i : ℕ) (entry : FileEntry)
    (identity : Option FileIdentity) (fault : Fault) → i < length entries → entry ≡ get_or entries i entry → went.files ≡ folder.files
    → (i ≡ 0 → IsUnused folder) → (is_read_only usage ≡ false → 0 < i → KnowsFiles folder.files i)
    → IsFileFault usage went.files identity fault → IsOpeningFault usage (map file_of entries) fault
of_known_file usage folder went entries i entry identity fault lt at files unused knows (inl call) = inl call
of_known_file usage folder went entries i entry None fault lt at files unused knows (inr same) = absurd same.1.1
of_known_file usage folder went entries i entry (Some identity) fault lt at files unused knows (inr same) =
    inr (
      same.0,
      (
        same.1.0,
        inl (record {
          number = i;
          file = file_of entry;
          listed = file_at entries i entry lt at;
          known = went.files;
          before = knows_before usage folder went i files unused knows same.1.0;
          identity = identity;
          is_known = same.1.1;
        }),
      ),
    )

-- a name on its path may be that of another
pub of_path : (usage : FileUse) (files : List File) (fault : Fault) → IsPathFault usage files fault → IsOpeningFault usage files fault
of_path usage files fault = or_weaker _ _ fault (λ same. (same.0, inr same.1))
