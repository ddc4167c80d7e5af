-- What has become whole and complete, read off the notes of a wire event.
use Rattle.std.specs.Prelude.{[], ◌≡◌, ◌≢◌, ℕ, ◌==◌, if◌then◌else◌, false, List, ◌∷◌, map, flat_map, filter_map, length, Option, Some, None, Contains}
use Rattle.std.specs.Option.{option_map_or}
use Rattle.std.specs.List.{AllPairs}
use Rattle.bt_meta.specs.Torrent.{Metainfo}
use Rattle.bt_store.specs.declared.block_states.BlockState.{BlockState}
use Rattle.bt_store.specs.declared.block_states.BlockState.TheVariants.{Marked}
use Rattle.bt_book.specs.declared.names.BlockId.{BlockId}
use Rattle.bt_book.specs.Blocks.{IsBefore}
use Rattle.bt_wire.specs.declared.message.Message.TheVariants.{Have}
use Rattle.bt_machine.specs.declared.answer.Note.{Note}
use Rattle.bt_machine.specs.declared.answer.Note.TheVariants.{Marked as NowMarked, Complete}
use Rattle.bt_machine.specs.State.{EngineState}
use Rattle.bt_machine.specs.Blocks.{states_of, state_at, piece_of, is_whole, is_complete}
use Rattle.bt_machine.specs.Output.{Sent, sent_to}

-- ---- the blocks that notes say are marked

-- of two blocks that become marked the one of the first note stands before the other
abbrev pub IsNotedBefore : Note → Note → Type 0
IsNotedBefore m n = (b c : BlockId) → m ≡ NowMarked b → n ≡ NowMarked c → IsBefore b c

-- it is one of the engine's blocks, and not marked
pub record IsUnmarked (s : EngineState) (b : BlockId) : Type 0 where
  pub state : BlockState
  pub here : state_at s b ≡ Some state
  pub not_marked : state ≢ Marked

-- Both engines have one torrent and as many blocks in each file. The notes tell the blocks that have become
-- marked, and no other, in their order.
pub record TellMarks (old new : EngineState) (notes : List Note) : Type 0 where
  pub same_torrent : new.torrent ≡ old.torrent
  pub files : length new.files ≡ length old.files
  pub sizes : (file : ℕ) → length (states_of new file) ≡ length (states_of old file)
  pub in_order : AllPairs IsNotedBefore notes
  pub unmarked : (b : BlockId) → Contains notes (NowMarked b) → IsUnmarked old b
  pub told : (b : BlockId) → state_at new b ≡ Some Marked → state_at old b ≢ Some Marked
      → Contains notes (NowMarked b)
  pub marked : (b : BlockId) → Contains notes (NowMarked b) → state_at new b ≡ Some Marked

-- ---- their pieces and files

-- the piece of the block that becomes marked, and its file
abbrev pub marked_piece : Metainfo → Note → Option ℕ
marked_piece torrent (NowMarked b) = piece_of torrent b
marked_piece torrent _ = None

abbrev pub marked_file : Note → Option ℕ
marked_file (NowMarked b) = Some b.file
marked_file _ = None

-- a number that is not the last one before it
abbrev pub unless_last : Option ℕ → Option ℕ → Option ℕ
unless_last None last = None
unless_last (Some n) last = if option_map_or (λ m. m == n) last false then None else Some n

-- the numbers without those that equal the last one before them
abbrev pub without_repeats : Option ℕ → List ℕ → List ℕ
without_repeats last [] = []
without_repeats last (n ∷ ns) = if option_map_or (λ m. m == n) last false then without_repeats last ns
    else n ∷ without_repeats (Some n) ns

-- the numbers that notes have, each once where equal ones stand side by side
abbrev pub numbers_in : (Note → Option ℕ) → List Note → List ℕ
numbers_in number notes = without_repeats None (filter_map number notes)

-- ---- what is told of them

-- what is sent of a piece: a have to every peer, where it is whole
abbrev pub haves_of : EngineState → ℕ → List Sent
haves_of s piece = if is_whole s piece then map (λ p. sent_to p (Have piece)) s.peers else []

-- a note of the file, where it is complete
abbrev pub notes_if_complete : EngineState → ℕ → List Note
notes_if_complete s file = if is_complete s file then Complete file ∷ [] else []

-- Of the blocks that notes say are marked: haves of each of their pieces that is whole, piece by piece, each to
-- every peer; and a note of each of their files that is complete, file by file.
abbrev pub haves_by : EngineState → List Note → List Sent
haves_by s notes = flat_map (haves_of s) (numbers_in (marked_piece s.torrent) notes)

abbrev pub complete_by : EngineState → List Note → List Note
complete_by s notes = flat_map (notes_if_complete s) (numbers_in marked_file notes)
