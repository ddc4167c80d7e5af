-- What ties the parts of an engine together, between its events.
use Rattle.std.specs.Prelude.{[], ◌≡◌, ℕ, ◌<◌, ◌≤◌, ◌↔◌, Bool, true, false, not, List, length, map, filter, count_by, Some, None, IsSome, slice_get, vec_capacity}
use Rattle.std.specs.Option.{option_and_then, option_map_or}
use Rattle.std.specs.List.{AllPairs}
use Rattle.bt_tree.specs.Blocks.{block_count}
use Rattle.bt_meta.specs.Files.{File}
use Rattle.bt_meta.specs.Torrent.{total_pieces}
use Rattle.bt_meta.specs.PieceBlocks.{HasBlock}
use Rattle.bt_book.specs.Book.{max_peers}
use Rattle.bt_book.specs.Blocks.{IsInRange, member}
use Rattle.bt_book.specs.declared.names.BlockId.{BlockId}
use Rattle.bt_sparse.specs.SparseTree.{Facts, held_at}
use Rattle.bt_store.specs.FileStore.{StoreView}
use Rattle.bt_store.specs.BlockStates.{is_waiting}
use Rattle.bt_store.specs.declared.block_states.BlockState.{BlockState}
use Rattle.bt_store.specs.declared.block_states.BlockState.TheVariants.{Missing}
use Rattle.bt_machine.specs.State.{EngineState, FileState}
use Rattle.bt_machine.specs.Blocks.{state_at, tree_of, piece_of, is_marked_in, is_in_piece, all_blocks}
use Rattle.bt_engine_state.specs.Parts.{state_of}
use Rattle.bt_engine_state.specs.Roots.{AreNumbered, AreNextFiles}
use Rattle.bt_engine_state.specs.declared.counts.Counts.{Counts}
use Rattle.bt_engine_state.specs.declared.roots.Roots.{Roots}
use Rattle.bt_engine_state.specs.declared.slot.Slot.{Slot}
use Rattle.bt_engine_state.specs.declared.parts.Parts.{Parts}

-- a store is of this file, and of the tree that stands there
pub record FitsTree {D : Type 0} (trees : List Facts) (tree : ℕ) (file : File) (store : StoreView D)
    : Type 0 where
  pub facts : Facts
  pub stands : slice_get trees tree ≡ Some facts
  pub same : facts.file_length ≡ store.file_length
  pub long : store.file_length ≡ file.length

-- a slot is of the torrent's file at i, and has a store where that has a byte
pub record FitsFile {D H : Type 0} (files : List File) (trees : List Facts) (i : ℕ) (slot : Slot D H)
    : Type 0 where
  pub file : File
  pub listed : slice_get files i ≡ Some file
  pub empty : slot.store ≡ None → file.length ≡ 0
  pub some : (store : StoreView D) → slot.store ≡ Some store → FitsTree trees slot.tree file store

-- there is a state for each block of the store's file
abbrev pub HasAllStates : {D H : Type 0} → Slot D H → Type 0
HasAllStates {D} slot = (store : StoreView D) → slot.store ≡ Some store
    → length store.states ≡ block_count store.file_length

-- how many blocks of the piece are not marked
abbrev pub unmarked_in : EngineState → ℕ → ℕ
unmarked_in s piece =
    count_by (λ b. not (is_marked_in s b)) (filter (is_in_piece s.torrent piece) (all_blocks s))

-- for each piece, how many of its blocks are not marked
pub record AreUnmarked (s : EngineState) (counts : List ℕ) : Type 0 where
  pub size : length counts ≡ total_pieces s.torrent
  pub each : (piece : ℕ) → piece < total_pieces s.torrent
      → slice_get counts piece ≡ Some (unmarked_in s piece)

abbrev pub is_waiting_in : EngineState → BlockId → Bool
is_waiting_in s b = option_map_or is_waiting (state_at s b) false

-- how many blocks of all files wait
abbrev pub waiting_count : EngineState → ℕ
waiting_count s = count_by (is_waiting_in s) (all_blocks s)

-- how many blocks are not marked, piece by piece, and how many wait
pub record AreCounted (s : EngineState) (counts : Counts) : Type 0 where
  pub unmarked : AreUnmarked s counts.unmarked.items
  pub waiting : counts.waiting ≡ waiting_count s

-- no block of these files waits
abbrev pub NoneWaits : List FileState → Type 0
NoneWaits files = (i : ℕ) (f : FileState) → slice_get files i ≡ Some f → count_by is_waiting f.states ≡ 0

-- ---- leaves that are known

-- the block lies in a piece of the set
abbrev pub LiesAmong : EngineState → List Bool → BlockId → Type 0
LiesAmong s pieces b = option_and_then (λ piece. slice_get pieces piece) (piece_of s.torrent b) ≡ Some true

-- of each block in a piece of the set the leaf is known
pub record KnowsLeaves (s : EngineState) (pieces : List Bool) : Type 0 where
  pub size : length pieces ≡ total_pieces s.torrent
  pub each : (b : BlockId) (k : Facts) → HasBlock s.torrent b.file b.block → LiesAmong s pieces b
      → tree_of s b.file ≡ Some k → IsSome (held_at k 0 b.block)

-- the trees are of one root and length, and the second has each leaf that the first has
pub record StillKnows (k j : Facts) : Type 0 where
  pub root : j.root ≡ k.root
  pub long : j.file_length ≡ k.file_length
  pub leaves : (i : ℕ) → IsSome (held_at k 0 i) → IsSome (held_at j 0 i)

-- each file's tree still knows the leaves that it knew
abbrev pub LeavesStay : EngineState → EngineState → Type 0
LeavesStay s t = (file : ℕ) (j : Facts) → tree_of t file ≡ Some j
    → (k : Facts) × (tree_of s file ≡ Some k) × StillKnows k j

-- ---- the trees and files of roots

-- what a tree has of its files
abbrev pub root_and_length : Facts → List ℕ × ℕ
root_and_length k = (k.root, k.file_length)

abbrev pub root_and_length_of : List File → ℕ → List ℕ × ℕ
root_and_length_of files number =
    option_map_or (λ file. (file.root, file.length)) (slice_get files number) ([], 0)

-- the file has a byte, and none of its root that has one stands before it
pub record IsFirstFile (files : List File) (number : ℕ) : Type 0 where
  pub file : File
  pub listed : slice_get files number ≡ Some file
  pub some : 0 < file.length
  pub is_first : (j : ℕ) (other : File) → slice_get files j ≡ Some other → 0 < other.length
      → other.root ≡ file.root → number ≤ j

abbrev pub EachIsFirst : List File → List ℕ → Type 0
EachIsFirst files numbers = (t number : ℕ) → slice_get numbers t ≡ Some number → IsFirstFile files number

-- for each of the trees the number of the first file that has its root
pub record AreFirstFiles (files : List File) (trees : List (List ℕ × ℕ)) (numbers : List ℕ) : Type 0 where
  pub each : EachIsFirst files numbers
  pub same : trees ≡ map (root_and_length_of files) numbers

-- each of the trees has its first file and is found by its root, and each file leads to the next of its root
pub record FitRoots (files : List File) (trees : List (List ℕ × ℕ)) (roots : Roots) : Type 0 where
  pub firsts : AreFirstFiles files trees roots.first_files.items
  pub nexts : AreNextFiles files roots.next_files.items
  pub numbered : AreNumbered (map (λ p. p.0) trees) roots.trees

abbrev pub HaveRoots : {D H : Type 0} → Parts D H → Type 0
HaveRoots parts = FitRoots parts.torrent.files (map root_and_length parts.trees.items) parts.roots

-- ---- all

-- The peers are the book's, in its order, which is that of their keys, and there is room for all that may be.
-- A block is wanted exactly while it is missing. There is a slot for each file, the counts are right, and
-- each root leads to its tree and its files. The leaves of the blocks in the pieces of the set are known.
pub record IsTied {D H : Type 0} (parts : Parts D H) : Type 0 where
  pub joined : map (λ p. p.key) parts.peers.items ≡ map (λ r. r.peer) parts.book.peers
  pub in_order : AllPairs (λ p q. p.key.0 < q.key.0) parts.peers.items
  pub room : max_peers ≤ vec_capacity parts.peers
  pub wanted : (b : BlockId)
      → (member parts.book.wanted b ≡ true) ↔ (state_at (state_of parts) b ≡ Some Missing)
  pub ranged : (b : BlockId) (x : BlockState) → state_at (state_of parts) b ≡ Some x
      → IsInRange parts.book.wanted b
  pub count : length parts.slots.items ≡ length parts.torrent.files
  pub each : (i : ℕ) (slot : Slot D H) → slice_get parts.slots.items i ≡ Some slot
      → FitsFile parts.torrent.files parts.trees.items i slot
  pub roots : HaveRoots parts
  pub counted : AreCounted (state_of parts) parts.counts
  pub known : KnowsLeaves (state_of parts) parts.known
