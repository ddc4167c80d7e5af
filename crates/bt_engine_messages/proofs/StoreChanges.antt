-- The parts of an engine in which the store of one file is another.
use Rattle.bt_machine.proofs.Base.{◌≡◌, ◌≢◌, ℕ, List, length, map, Some, refl, sym, ap, ◌∙◌, subst, slice_get, slice_set, length-set, Call, Facts, BlockId, BlockState, Missing, PeerKey}
use Rattle.bt_machine.proofs.Lists.{set_id}
use Rattle.bt_disk.specs.Calls.{HasCalls}
use Rattle.bt_store.specs.FileStore.{StoreView}
use Rattle.bt_book.specs.Book.{BookState, asked_of, peers_of}
use Rattle.bt_machine.specs.State.{EngineState, FileState}
use Rattle.bt_machine.specs.Blocks.{with_file, IsAsked}
use Rattle.bt_machine.specs.Devices.{calls_at, HaveCalls}
use Rattle.bt_machine.specs.Request.{IsFile}
use Rattle.bt_machine.specs.Shape.{IsShaped}
use Rattle.bt_engine_state.specs.BlockChange.{AreFollowed, OneChanged, HasChanged, asked_after}
use Rattle.bt_engine_state.specs.Parts.{state_of, file_of, disk_of, disks_of}
use Rattle.bt_engine_state.specs.Ties.{IsTied, LeavesStay}
use Rattle.bt_engine_state.specs.declared.counts.Counts.{Counts}
use Rattle.bt_engine_state.specs.declared.slot.Slot.{Slot}
use Rattle.bt_engine_state.specs.declared.parts.Parts.{Parts}
use Rattle.bt_engine_state.proofs.BlockChanges.{EachFits, followed_tied, followed_alike, tied_followed, state_followed, state_told, asked_then}
use Rattle.bt_engine_state.proofs.Leaves.{leaves_alike, leaves_with_file}
use Rattle.bt_engine_state.proofs.SlotChanges.{file_here, files_changed, have_changed, fits_changed, slot_block_changed}
use Rattle.bt_engine_messages.specs.SlotSteps.{ChangesStore}
use Rattle.bt_disk.specs.Conduct.{Conduct}

-- of parts that are tied the store of a file has become another
pub record ChangesParts {D H : Type 0} (old next : Parts D H) (file : ℕ) (before after : StoreView D) (tree : Facts) : Type 0 where
  pub tied : IsTied old
  pub shaped : IsShaped old.torrent (state_of old)
  pub store : ChangesStore old.trees.items file old.slots.items before after tree next.slots.items

-- in which one block has another state
pub record ChangesBlock {D H : Type 0} (old next : Parts D H) (b : BlockId) (was now : BlockState) : Type 0 where
  pub before : StoreView D
  pub after : StoreView D
  pub tree : Facts
  pub parts : ChangesParts old next b.file before after tree
  pub had : slice_get before.states b.block ≡ Some was
  pub states : after.states ≡ slice_set before.states b.block now

module _ {D H : Type 0} {old next : Parts D H} {file : ℕ} {before after : StoreView D} {tree : Facts} (c : ChangesParts old next file before after tree) where
  abbrev pub file_before : FileState
  file_before = record { tree = c.store.slot.tree; states = before.states }

  pub is_file : IsFile (state_of old) file file_before tree
  is_file = record {
    here = file_here old.slots.items file c.store.has_store.here c.store.has_store.has after;
    has_tree = c.store.has_store.has_tree;
  }

  files_then : map file_of next.slots.items ≡ slice_set (state_of old).files file (record file_before { states = after.states })
  files_then =
      ap (λ (slots : List (Slot D H)). map file_of slots) c.store.is
      ∙ files_changed old.slots.items file c.store.has_store.here c.store.has_store.has after

  pub state_then : state_of (record old { slots = next.slots }) ≡ with_file (state_of old) file (record file_before { states = after.states })
  state_then = ap (λ (files : List FileState). record (state_of old) { files = files }) files_then

  pub have_calls : {conduct : Conduct D} (calls : List Call) → HasCalls conduct before.disk calls after.disk
      → HaveCalls conduct (disks_of old) (calls_at file calls) (map disk_of next.slots.items)
  have_calls {conduct} calls made =
      subst (λ (slots : List (Slot D H)). HaveCalls conduct (disks_of old) (calls_at file calls) (map disk_of slots)) (sym c.store.is)
      (have_changed old.slots.items file c.store.has_store.here c.store.has_store.has after conduct calls made)

  count_then : length next.slots.items ≡ length old.slots.items
  count_then =
      ap (λ (slots : List (Slot D H)). length slots) c.store.is ∙ length-set old.slots.items file (record c.store.slot { store = Some after })

  fits_then : EachFits old.torrent.files old.trees.items next.slots.items
  fits_then =
      subst (λ (slots : List (Slot D H)). EachFits old.torrent.files old.trees.items slots) (sym c.store.is)
      (fits_changed old.slots.items file c.store.has_store.here c.store.has_store.has after c.store.same_file c.tied.each)

  -- all blocks have the states that they had
  module _ (same : after.states ≡ before.states) where
    same_files : map file_of next.slots.items ≡ (state_of old).files
    same_files =
        files_then ∙ ap (λ (states : List BlockState). slice_set (state_of old).files file (record file_before { states = states })) same
        ∙ set_id (state_of old).files file is_file.here

    pub state_same : state_of (record old { slots = next.slots }) ≡ state_of old
    state_same = ap (λ (files : List FileState). record (state_of old) { files = files }) same_files

    pub tied_same : IsTied (record old { slots = next.slots })
    tied_same =
        tied_followed old (record old { slots = next.slots }) c.tied refl refl c.tied.room refl count_then fits_then c.tied.roots
        (followed_alike (state_of (record old { slots = next.slots })) (followed_tied old c.tied c.shaped) refl same_files)
        refl (leaves_alike (state_of old) (state_of (record old { slots = next.slots })) refl same_files)

-- one block has another state
module _ {D H : Type 0} {old next : Parts D H} {b : BlockId} {was now : BlockState} (c : ChangesBlock old next b was now) where
  changed_to : (t : EngineState) → t.torrent ≡ old.torrent → t.files ≡ map file_of next.slots.items → OneChanged (state_of old) t b was now
  changed_to t torrent files =
      let s = c.parts.store in
      slot_block_changed old.slots.items b.file s.has_store.here s.has_store.has c.after (state_of old) t refl torrent
      (files ∙ ap (λ (slots : List (Slot D H)). map file_of slots) s.is) b.block was now c.had c.states

  pub has_changed : HasChanged old.torrent old.book.wanted old.counts b was now
  has_changed = record {
    first = state_of old;
    last = state_of (record old { slots = next.slots });
    same_torrent = refl;
    followed = followed_tied old c.parts.tied c.parts.shaped;
    changed = changed_to (state_of (record old { slots = next.slots })) refl refl;
  }

  -- and was followed
  module _ (book : BookState) (counts : Counts) (asked : (key : PeerKey) → asked_of book key ≡ asked_after b was now (asked_of old.book key)) where
    abbrev new : Parts D H
    new = record old { slots = next.slots; book = book; counts = counts }

    -- the peers are asked for the block no more where it is missing no more
    pub state_told_new : state_of new ≡ record (with_file (state_of old) b.file (record (file_before c.parts) { states = c.after.states })) {
      peers = map (asked_then b was now) (state_of old).peers;
    }
    state_told_new = state_told (record old { slots = next.slots }) book counts b was now asked
        ∙ ap (λ (s : EngineState). record s { peers = map (asked_then b was now) s.peers }) (state_then c.parts)

    -- where nobody was asked for it, no peer is another
    pub state_new : (was ≡ Missing → now ≢ Missing → ¬ IsAsked (state_of old) b)
        → state_of new ≡ with_file (state_of old) b.file (record (file_before c.parts) { states = c.after.states })
    state_new none = state_followed (record old { slots = next.slots }) book counts b was now asked none ∙ state_then c.parts

    leaves_new : LeavesStay (state_of old) (state_of new)
    leaves_new = subst (λ (s : EngineState). LeavesStay (state_of old) s) (sym state_told_new)
        (leaves_with_file (state_of old) b.file (file_before c.parts) (record (file_before c.parts) { states = c.after.states }) (is_file c.parts).here refl)

    pub tied_new : peers_of book ≡ peers_of old.book
        → ((s t : EngineState) → s.torrent ≡ old.torrent → AreFollowed s old.book.wanted old.counts → OneChanged s t b was now
        → AreFollowed t book.wanted counts)
        → IsTied new
    tied_new joined followed =
        tied_followed old new c.parts.tied refl refl c.parts.tied.room joined (count_then c.parts) (fits_then c.parts) c.parts.tied.roots
        (followed (state_of old) (state_of new) refl (followed_tied old c.parts.tied c.parts.shaped) (changed_to (state_of new) refl refl)) refl leaves_new
