-- Files are followed whose blocks were missing.
use Rattle.bt_machine.proofs.Base.{[], ◌≡◌, ℕ, zero, suc, ◌+◌, List, ◌∷◌, ◌++◌, length, map, take, drop, replicate, Some, refl, sym, ap, ◌∙◌, slice_get, slice_set, length-map, Metainfo, Missing}
use Rattle.std.proofs.Common.{add-one}
use Rattle.bt_book.specs.Blocks.{Blocks}
use Rattle.bt_machine.specs.State.{EngineState, FileState}
use Rattle.bt_machine.proofs.Lists.{some_is}
use Rattle.bt_engine_state.specs.BlockChange.{AreFollowed}
use Rattle.bt_engine_state.specs.Parts.{file_of}
use Rattle.bt_engine_state.specs.Recount.{HasFile, with_all}
use Rattle.bt_engine_state.specs.declared.counts.Counts.{Counts}
use Rattle.bt_engine_state.specs.declared.slot.Slot.{Slot}
use Rattle.bt_engine_state.proofs.BlockChanges.{followed_alike}
use Rattle.bt_engine_state.proofs.Lists.{get_mapped}
use Rattle.bt_engine_state.proofs.Recounts.{files_with, all_states}
use Rattle.bt_engine_start.specs.FollowingSteps.{HasFiles, missing_file, missing_from}

-- ---- files, the last of which are others

module _ {X : Type 0} (g : X → X) where
  other_before : (xs : List X) (n : ℕ) {x : X} → slice_get xs n ≡ Some x → slice_get (take (suc n) xs ++ map g (drop (suc n) xs)) n ≡ Some x
  other_before [] zero at = absurd cc
  other_before [] (suc n) at = absurd cc
  other_before (y ∷ xs) zero at = at
  other_before (y ∷ xs) (suc n) at = other_before xs n at

  other_set : (xs : List X) (n : ℕ) {x : X} → slice_get xs n ≡ Some x
      → slice_set (take (suc n) xs ++ map g (drop (suc n) xs)) n (g x) ≡ take n xs ++ map g (drop n xs)
  other_set [] zero at = absurd cc
  other_set [] (suc n) at = absurd cc
  other_set (y ∷ xs) zero at = ap (λ z. g z ∷ map g xs) (sym (some_is at))
  other_set (y ∷ xs) (suc n) at = ap (λ zs. y ∷ zs) (other_set xs n at)

  other_none : (xs : List X) → take (length xs) xs ++ map g (drop (length xs) xs) ≡ xs
  other_none [] = refl
  other_none (y ∷ xs) = ap (λ zs. y ∷ zs) (other_none xs)

-- ---- file after file

module _ {D H : Type 0} {torrent : Metainfo} {slots : List (Slot D H)} {s : EngineState} (has : HasFiles torrent slots s) where
  -- the next file is as it is, and those behind it are missing
  module _ (file : ℕ) {slot : Slot D H} (at : slice_get slots file ≡ Some slot) where
    own : slice_get s.files file ≡ Some (file_of slot)
    own = ap (λ (fs : List FileState). slice_get fs file) has.files ∙ get_mapped file_of slots file at

    pub next_file : HasFile torrent file (file_of slot) (missing_from (file + 1) s)
    next_file = record { same_torrent = has.same_torrent; here = rw (add-one file) (other_before missing_file s.files file own) }

    set_back : slice_set (missing_from (file + 1) s).files file (missing_file (file_of slot)) ≡ (missing_from file s).files
    set_back = rw (add-one file) (other_set missing_file s.files file own)

    pub next_begun : {blocks : Blocks} {counts : Counts} → AreFollowed (missing_from file s) blocks counts
        → AreFollowed (with_all Missing (missing_from (file + 1) s) file) blocks counts
    next_begun followed =
        let next = missing_from (file + 1) s in
        followed_alike (with_all Missing next file) followed refl
        (ap (λ (t : EngineState). t.files) (all_states next file next_file.here Missing)
        ∙ files_with next file next_file.here (replicate (length (file_of slot).states) Missing) ∙ set_back)

  pub all_followed : {file : ℕ} {blocks : Blocks} {counts : Counts} → length slots ≡ file → AreFollowed (missing_from file s) blocks counts
      → AreFollowed s blocks counts
  all_followed all followed =
      let size = ap (λ (fs : List FileState). length fs) has.files ∙ length-map slots file_of ∙ all in
      followed_alike s followed refl (sym (ap (λ n. (missing_from n s).files) (sym size) ∙ other_none missing_file s.files))
