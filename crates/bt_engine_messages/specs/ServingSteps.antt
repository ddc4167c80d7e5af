-- How the blocks that a range of a file lies in are read.
use Rattle.std.specs.Prelude.{◌≡◌, ◌≢◌, ℕ, ◌*◌, ◌≤◌, ◌==◌, if◌then◌else◌, List, [], ◌∷◌, ◌++◌, length, map, flat_map, Some, slice_get, slice_set, Contains, vec_capacity}
use Rattle.bt_tree.specs.Limits.{full_block_length}
use Rattle.bt_disk.specs.Conduct.{Conduct}
use Rattle.bt_disk.specs.Calls.{HasCalls}
use Rattle.bt_meta.specs.declared.torrent.Span.{Span}
use Rattle.bt_sparse.specs.SparseTree.{Facts}
use Rattle.bt_store.specs.FileStore.{StoreView}
use Rattle.bt_store.specs.BlockReads.{BlockRead, given, failed, call_of, IsRight}
use Rattle.bt_store.specs.declared.block_states.BlockState.{BlockState}
use Rattle.bt_store.specs.declared.block_states.BlockState.TheVariants.{Missing, Marked}
use Rattle.bt_machine.specs.Spans.{first_block, last_block, spanned_blocks, cut_from}
use Rattle.bt_machine.specs.Request.{ReadsRight}
use Rattle.bt_engine_messages.specs.declared.serving.SpanBuffers.{SpanBuffers}
use Rattle.bt_engine_messages.specs.declared.serving.ReadFault.{ReadFault}
use Rattle.bt_engine_messages.specs.declared.serving.ReadFault.TheVariants.{Damaged, Device}

-- the one block, where the first is the last, or the two
abbrev pub one_or_two : (first last : ℕ) → List ℕ
one_or_two first last = if first == last then first ∷ [] else first ∷ last ∷ []

-- the block was read and is right
pub record IsReadRight {D : Type 0} (conduct : Conduct D)
    (dig : List ℕ → List ℕ) (k : Facts) (block : ℕ) (bytes : List ℕ) (old new : StoreView D) : Type 0 where
  pub calls : HasCalls conduct
      old.disk (call_of k.file_length (given block bytes) ∷ []) new.disk
  pub right : IsRight dig k block bytes
  pub others : new ≡ record old { disk = new.disk }

-- what a read that is not right comes to: the block is missing, or the device failed
pub data Finds (dig : List ℕ → List ℕ) (k : Facts) (block : ℕ) (read : BlockRead) (found : ReadFault)
    (old new : List BlockState) : Type 0 where
  damaged : (bytes : List ℕ) → read ≡ given block bytes → ¬ IsRight dig k block bytes
      → found ≡ Damaged block → new ≡ slice_set old block Missing → Finds dig k block read found old new
  fault : read ≡ failed block → found ≡ Device → new ≡ old → Finds dig k block read found old new

-- the block was read and is not right
pub record IsReadWrong {D : Type 0} (conduct : Conduct D)
    (dig : List ℕ → List ℕ) (k : Facts) (block : ℕ) (found : ReadFault) (old new : StoreView D) : Type 0 where
  pub read : BlockRead
  pub calls : HasCalls conduct old.disk (call_of k.file_length read ∷ []) new.disk
  pub finds : Finds dig k block read found old.states new.states
  pub same_file : new.file_length ≡ old.file_length

-- all blocks were read and are right, and these are their bytes, one block's after the other's
pub record AreReadRight {D : Type 0} (conduct : Conduct D)
    (dig : List ℕ → List ℕ) (k : Facts) (blocks all : List ℕ) (old new : StoreView D) : Type 0 where
  pub bytes : ℕ → List ℕ
  pub reads : List BlockRead
  pub calls : HasCalls conduct old.disk (map (call_of k.file_length) reads) new.disk
  pub right : ReadsRight dig k blocks bytes reads
  pub together : all ≡ flat_map bytes blocks
  pub others : new ≡ record old { disk = new.disk }

-- blocks were read up to the first that is not right
pub record StopAtFault {D : Type 0} (conduct : Conduct D)
    (dig : List ℕ → List ℕ) (k : Facts) (blocks : List ℕ) (found : ReadFault) (old new : StoreView D)
    : Type 0 where
  pub before : List ℕ
  pub block : ℕ
  pub after : List ℕ
  pub bytes : ℕ → List ℕ
  pub reads : List BlockRead
  pub read : BlockRead
  pub parts : blocks ≡ before ++ block ∷ after
  pub right : ReadsRight dig k before bytes reads
  pub calls : HasCalls conduct
      old.disk (map (call_of k.file_length) (reads ++ read ∷ [])) new.disk
  pub finds : Finds dig k block read found old.states new.states
  pub same_file : new.file_length ≡ old.file_length

-- it has as many blocks as the span lies in, and as many bytes as the span has find room
pub record IsRoomFor (span : Span) (room : SpanBuffers) : Type 0 where
  pub one : full_block_length ≤ length room.blocks.items
  pub two : first_block span ≢ last_block span → 2 * full_block_length ≤ length room.blocks.items
  pub nothing : room.bytes.items ≡ []
  pub bytes : span.length ≤ vec_capacity room.bytes

-- the blocks of the span are marked
pub record IsMarkedSpan (states : List BlockState) (span : Span) : Type 0 where
  pub marked : (i : ℕ) → Contains (spanned_blocks span) i → slice_get states i ≡ Some Marked

-- all blocks of the span were read and are right, and these bytes are cut from them
pub record SendsSpan {D : Type 0} (conduct : Conduct D)
    (dig : List ℕ → List ℕ) (k : Facts) (span : Span) (sent : List ℕ) (old new : StoreView D) : Type 0 where
  pub bytes : ℕ → List ℕ
  pub reads : List BlockRead
  pub calls : HasCalls conduct old.disk (map (call_of k.file_length) reads) new.disk
  pub right : ReadsRight dig k (spanned_blocks span) bytes reads
  pub cut : sent ≡ cut_from span bytes
  pub others : new ≡ record old { disk = new.disk }
