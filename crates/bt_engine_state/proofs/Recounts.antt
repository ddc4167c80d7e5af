-- A file of which block after block gets another state.
use Rattle.bt_machine.proofs.Base.{[], ◌≡◌, ℕ, zero, suc, ◌+◌, ◌<◌, List, length, replicate, Some, refl, sym, ap, ◌∙◌, subst, arith, slice_get, slice_set, option_map_or, BlockState, Metainfo}
use Rattle.bt_book.specs.Blocks.{Blocks}
use Rattle.bt_machine.specs.State.{EngineState, FileState}
use Rattle.bt_machine.specs.Blocks.{block_id}
use Rattle.bt_machine.proofs.Lists.{set_same, set_id, some_below}
use Rattle.bt_engine_state.specs.BlockChange.{AreFollowed, OneChanged, HasChanged}
use Rattle.bt_engine_state.specs.Recount.{HasFile, with_states, with_all}
use Rattle.bt_engine_state.specs.declared.counts.Counts.{Counts}
use Rattle.bt_engine_state.proofs.SlotChanges.{block_changed, set_again, states_up_to, all_new, still_old, next_new}

replicate_at : {X : Type 0} (x : X) (n i : ℕ) → i < n → slice_get (replicate n x) i ≡ Some x
replicate_at x zero i lt = absurd (omega arith)
replicate_at x (suc n) zero lt = refl
replicate_at x (suc n) (suc i) lt = replicate_at x n i (omega arith)

pub all_there : (x : BlockState) (states : List BlockState) (i : ℕ) {y : BlockState} → slice_get states i ≡ Some y → slice_get (replicate (length states) x) i ≡ Some x
all_there x states i at = replicate_at x (length states) i (some_below states i at)

-- ---- a file's states in an engine

module _ (s : EngineState) (file : ℕ) {f : FileState} (here : slice_get s.files file ≡ Some f) where
  pub files_with : (states : List BlockState) → (with_states s file states).files ≡ slice_set s.files file (record f { states = states })
  files_with states = ap (λ o. option_map_or (λ (g : FileState). slice_set s.files file (record g { states = states })) o s.files) here

  own_states : with_states s file f.states ≡ s
  own_states = ap (λ (fs : List FileState). record s { files = fs }) (files_with f.states ∙ set_id s.files file here)

  pub all_states : (x : BlockState) → with_all x s file ≡ with_states s file (replicate (length f.states) x)
  all_states x = ap (λ o. with_states s file (replicate (length (option_map_or (λ (g : FileState). g.states) o [])) x)) here

  -- one block more has its other state
  one_more : (states next : List BlockState) (block : ℕ) {was now : BlockState} → slice_get states block ≡ Some was → next ≡ slice_set states block now
      → OneChanged (with_states s file states) (with_states s file next) (block_id file block) was now
  one_more states next block {was} {now} had is =
      block_changed (with_states s file states) (with_states s file next) file block (record f { states = states }) was now
      (ap (λ (fs : List FileState). slice_get fs file) (files_with states) ∙ set_same s.files file here) had refl
      (files_with next ∙ ap (λ (xs : List BlockState). slice_set s.files file (record f { states = xs })) is
      ∙ sym (set_again s.files file (record f { states = states }) (record f { states = slice_set states block now }))
      ∙ ap (λ (fs : List FileState). slice_set fs file (record f { states = slice_set states block now })) (sym (files_with states)))

module _ {torrent : Metainfo} {file : ℕ} {f : FileState} {s : EngineState} (of : HasFile torrent file f s) {blocks : Blocks} {counts : Counts} where
  pub own_begun : AreFollowed s blocks counts → AreFollowed (with_states s file f.states) blocks counts
  own_begun followed = subst (λ (t : EngineState). AreFollowed t blocks counts) (sym (own_states s file of.here)) followed

  pub own_done : AreFollowed (with_states s file f.states) blocks counts → AreFollowed s blocks counts
  own_done followed = subst (λ (t : EngineState). AreFollowed t blocks counts) (own_states s file of.here) followed

  pub all_begun : (x : BlockState) → AreFollowed (with_all x s file) blocks counts → AreFollowed (with_states s file (replicate (length f.states) x)) blocks counts
  all_begun x followed = subst (λ (t : EngineState). AreFollowed t blocks counts) (all_states s file of.here x) followed

  pub all_done : (x : BlockState) → AreFollowed (with_states s file (replicate (length f.states) x)) blocks counts → AreFollowed (with_all x s file) blocks counts
  all_done x followed = subst (λ (t : EngineState). AreFollowed t blocks counts) (sym (all_states s file of.here x)) followed

-- ---- the loop over a file's blocks

-- Block after block the file's states go from these to those, and the book and the counts with them: so far
-- those of the blocks before one.
pub record IsBetween (torrent : Metainfo) (file : ℕ) (f : FileState) (was now : List BlockState) (old : Blocks) (before : Counts) (block : ℕ)
    (blocks : Blocks) (counts : Counts) : Type 0 where
  pub same : length now ≡ length was
  pub followed : (s : EngineState) → HasFile torrent file f s → AreFollowed (with_states s file was) old before
      → AreFollowed (with_states s file (states_up_to was now block)) blocks counts

pub between_begun : {torrent : Metainfo} {file : ℕ} {f : FileState} {was now : List BlockState} {old : Blocks} {before : Counts} → length now ≡ length was
    → IsBetween torrent file f was now old before 0 old before
between_begun same = record { same = same; followed = λ s of begun. begun }

module _ {torrent : Metainfo} {file : ℕ} {f : FileState} {was now : List BlockState} {old blocks : Blocks} {before counts : Counts} {block : ℕ}
    (b : IsBetween torrent file f was now old before block blocks counts) where
  pub between_done : length was ≡ block → {s : EngineState} → HasFile torrent file f s → AreFollowed (with_states s file was) old before
      → AreFollowed (with_states s file now) blocks counts
  between_done all {s} of begun =
      subst (λ (xs : List BlockState). AreFollowed (with_states s file xs) blocks counts) (ap (states_up_to was now) (sym all) ∙ all_new was now b.same) (b.followed s of begun)

  module _ {x y : BlockState} (had : slice_get was block ≡ Some x) (has : slice_get now block ≡ Some y) where
    still_had : slice_get (states_up_to was now block) block ≡ Some x
    still_had = still_old was now block b.same (some_below was block had) ∙ had

    changed : (s : EngineState) → HasFile torrent file f s
        → OneChanged (with_states s file (states_up_to was now block)) (with_states s file (states_up_to was now (block + 1))) (block_id file block) x y
    changed s of = one_more s file of.here (states_up_to was now block) (states_up_to was now (block + 1)) block still_had (next_new was now block b.same has)

    pub between_changes : {s : EngineState} → HasFile torrent file f s → AreFollowed (with_states s file was) old before
        → HasChanged torrent blocks counts (block_id file block) x y
    between_changes {s} of begun = record {
      first = with_states s file (states_up_to was now block);
      last = with_states s file (states_up_to was now (block + 1));
      same_torrent = of.same_torrent;
      followed = b.followed s of begun;
      changed = changed s of;
    }

    pub between_more : {more : Blocks} {later : Counts} → ((s t : EngineState) → s.torrent ≡ torrent → AreFollowed s blocks counts
        → OneChanged s t (block_id file block) x y → AreFollowed t more later) → IsBetween torrent file f was now old before (block + 1) more later
    between_more follows = record {
      same = b.same;
      followed = λ s of begun.
          follows (with_states s file (states_up_to was now block)) (with_states s file (states_up_to was now (block + 1))) of.same_torrent
          (b.followed s of begun) (changed s of);
    }

    -- a block that stays as it is
    pub between_passed : y ≡ x → IsBetween torrent file f was now old before (block + 1) blocks counts
    between_passed stays = record {
      same = b.same;
      followed = λ s of begun.
          subst (λ (xs : List BlockState). AreFollowed (with_states s file xs) blocks counts)
          (sym (next_new was now block b.same (has ∙ ap (λ z. Some z) stays) ∙ set_id (states_up_to was now block) block still_had)) (b.followed s of begun);
    }
