-- What is kept in the parts of an engine where a file changes, and where no peer is connected.
use Rattle.std.specs.Prelude.{◌≡◌, ℕ, length, map, slice_get, Some}
use Rattle.std.specs.Option.{option_map_or}
use Rattle.bt_book.specs.Book.{peers_of}
use Rattle.bt_sparse.specs.SparseTree.{blocks_of}
use Rattle.bt_machine.specs.State.{EngineState}
use Rattle.bt_engine_state.specs.BlockChange.{AreFollowed}
use Rattle.bt_engine_state.specs.Parts.{state_of, log_of}
use Rattle.bt_engine_state.specs.Ties.{FitsFile, LeavesStay, root_and_length}
use Rattle.bt_engine_state.specs.declared.slot.Slot.{Slot}
use Rattle.bt_engine_state.specs.declared.parts.Parts.{Parts}

-- each slot is of its file, and of that file's tree
abbrev pub AreFit : {D H : Type 0} → Parts D H → Type 0
AreFit {D} {H} parts = (i : ℕ) (slot : Slot D H) → slice_get parts.slots.items i ≡ Some slot
    → FitsFile parts.torrent.files parts.trees.items i slot

-- the parts' book and counts are right for an engine
abbrev pub Follows : {D H : Type 0} → Parts D H → EngineState → Type 0
Follows parts s = AreFollowed s parts.book.wanted parts.counts

-- the book and the counts are right, and the slots are fit
pub record AreInLine {D H : Type 0} (parts : Parts D H) : Type 0 where
  pub follows : Follows parts (state_of parts)
  pub fits : AreFit parts

-- how many blocks a file of this tree has
abbrev pub block_count_of_tree : EngineState → ℕ → ℕ
block_count_of_tree s tree = option_map_or blocks_of (slice_get s.trees tree) 0

-- Nothing changed but slots, trees, the book, the counts and what waits for the log. There are as many slots
-- as before, the trees are of the same roots, lengths and blocks, each leaf that was known is, and the book
-- has the same peers.
pub record KeepsRest {D H : Type 0} (old new : Parts D H) : Type 0 where
  pub others : new ≡ record old {
    slots = new.slots;
    trees = new.trees;
    book = new.book;
    counts = new.counts;
    log = new.log;
  }
  pub log : log_of new ≡ log_of old
  pub count : length new.slots.items ≡ length old.slots.items
  pub trees : map root_and_length new.trees.items ≡ map root_and_length old.trees.items
  pub blocks : (tree : ℕ) → block_count_of_tree (state_of new) tree ≡ block_count_of_tree (state_of old) tree
  pub leaves : LeavesStay (state_of old) (state_of new)
  pub peers : peers_of new.book ≡ peers_of old.book
