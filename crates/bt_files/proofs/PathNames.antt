-- Names on the paths of a torrent's files, path by path.
use Rattle.std.proofs.Common.{◌≡◌, inl, inr, ℕ, ◌+◌, ◌<◌, ◌≤◌, Bool, true, false, List, length, map, Some, ap, sym, subst, ◌∙◌, arith}
use Rattle.std.specs.Prelude.{slice_get}
use Rattle.std.specs.Bool.{OnFalse, OnTrue}
use Rattle.std.proofs.lemmas.Bool.{cases_lt, false≢true}
use Rattle.std.proofs.lemmas.List.{length-map}
use Rattle.std.proofs.lemmas.Option.{same_Some, slice_get_within}
use Rattle.bt_folder.specs.CasePaths.{IsOwnPath}
use Rattle.bt_folder.specs.Lookup.{Lists}
use Rattle.bt_folder.specs.declared.paths_so_far.CasePaths.{CasePaths}
use Rattle.bt_meta.specs.Files.{File, file_of}
use Rattle.bt_meta.specs.declared.torrent.FileEntry.{FileEntry}
use Rattle.bt_files.specs.OwnPaths.{AreOwnPaths, IsOwnAfter, KnowsPaths}

-- what holds where an answer is yes, and where it is no
pub on_true : (b : Bool) (P : Type 0) → b ≡ true → OnTrue b P → P
on_true true P said is = is
on_true false P said is = absurd (false≢true said)

pub on_false : (b : Bool) (P : Type 0) → b ≡ false → OnFalse b P → P
on_false true P said is = absurd (false≢true (sym said))
on_false false P said is = is

-- each name on the paths of the first `count` files is its own
abbrev pub AreOwnBefore : Lists → List ℕ → List File → ℕ → Type 0
AreOwnBefore lists dir files count = (number : ℕ) (file : File) → number < count → slice_get files number ≡ Some file
    → IsOwnAfter lists dir files number file

-- on one path more
pub own_more : (lists : Lists) (dir : List ℕ) (files : List File) (i : ℕ) (file : File) (old new : CasePaths) (is_own : Bool)
    → slice_get files i ≡ Some file → AreOwnBefore lists dir files i → KnowsPaths files i old → is_own ≡ true
    → IsOwnPath lists dir old new file.path is_own → AreOwnBefore lists dir files (i + 1)
own_more lists dir files i file old new is_own listed before known said own number other next here =
    elim (cases_lt number i) [
      | inl earlier ↦ before number other earlier here
      | inr last ↦
          let same : number ≡ i = omega (arith, next, last) in
          let one : file ≡ other = same_Some file other (sym listed ∙ ap (slice_get files) (sym same) ∙ here) in
          subst (λ n. IsOwnAfter lists dir files n other) (sym same)
          (subst (IsOwnAfter lists dir files i) one
          (record { old = old; before = known; new = new; is_own = subst (IsOwnPath lists dir old new file.path) said own }))
    ]

-- on all
pub own_of_all : (lists : Lists) (dir : List ℕ) (entries : List FileEntry) (i : ℕ) → length entries ≤ i
    → AreOwnBefore lists dir (map file_of entries) i → AreOwnPaths lists dir (map file_of entries)
own_of_all lists dir entries i all before number file here =
    before number file (omega (arith, all, slice_get_within (map file_of entries) number file here, length-map entries file_of)) here
