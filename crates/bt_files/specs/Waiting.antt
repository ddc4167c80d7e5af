-- Files of which a piece may have come whole are taken in, where no peer told what some of its blocks are to be: what
-- the torrent says of the piece decides.
use Rattle.std.specs.Prelude.{◌≡◌, ◌⊎◌, ℕ, ◌+◌, ◌*◌, ◌<◌, List, length, Some, slice_get}
use Rattle.std.specs.List.{count_by}
use Rattle.bt_disk.specs.Conduct.{Conduct}
use Rattle.bt_store.specs.BlockStates.{is_marked, is_waiting}
use Rattle.bt_tree.specs.Limits.{full_block_length}
use Rattle.bt_machine.specs.declared.event.Event.TheVariants.{Adopt}
use Rattle.bt_machine.specs.declared.event.Answer.{Answer}
use Rattle.bt_machine.specs.State.{EngineState, EngineView, FileState}
use Rattle.bt_machine.specs.View.{StepsTo}
use Rattle.bt_check.specs.declared.fault.Fault.{Fault}
use Rattle.bt_files.specs.Adoption.{IsAdoptionFault, IsTakenIn}

-- A block of the file waits; and the file has more than one piece, or each of its blocks is marked or waits. So a piece
-- may be whole but for its marks: of another file none is.
pub record MayHaveWaitingPiece (s : EngineState) (file : ℕ) : Type 0 where
  pub state : FileState
  pub here : slice_get s.files file ≡ Some state
  pub some : 0 < count_by is_waiting state.states
  pub several_or_whole : (s.torrent.piece_length < length state.states * full_block_length)
      ⊎ (count_by is_marked state.states + count_by is_waiting state.states ≡ length state.states)

-- Of this many files, from the first on, each that is so when its turn comes was taken in, and no read of it
-- failed; nothing else happened.
pub data TakesInWaiting {D : Type 0} (conduct : Conduct D)
    (dig : List ℕ → List ℕ) (first : EngineView D) : ℕ → EngineView D → Type 0 where
  none_yet : TakesInWaiting conduct dig first 0 first
  passed : (count : ℕ) (now : EngineView D) → TakesInWaiting conduct dig first count now
      → ¬ MayHaveWaitingPiece now.state count → TakesInWaiting conduct dig first (count + 1) now
  taken : (count : ℕ) (mid now : EngineView D) (answer : Answer)
      → TakesInWaiting conduct dig first count mid → MayHaveWaitingPiece mid.state count
      → StepsTo conduct dig mid (Adopt count) answer now → IsTakenIn answer
      → TakesInWaiting conduct dig first (count + 1) now

-- each of all files that is so when its turn comes was taken in, and no read of it failed
abbrev pub TakesInAllWaiting : {D : Type 0} → Conduct D → (List ℕ → List ℕ)
    → EngineView D → EngineView D → Type 0
TakesInAllWaiting conduct dig old new =
    TakesInWaiting conduct dig old (length old.state.files) new

-- one of the files is so, and is not taken in without a fault; those before it were seen to
pub record StopsAtWaiting {D : Type 0} (conduct : Conduct D)
    (dig : List ℕ → List ℕ) (old : EngineView D) (fault : Fault) (new : EngineView D) : Type 0 where
  pub file : ℕ
  pub inside : file < length old.state.files
  pub before : EngineView D
  pub taken : TakesInWaiting conduct dig old file before
  pub waits : MayHaveWaitingPiece before.state file
  pub answer : Answer
  pub last : StepsTo conduct dig before (Adopt file) answer new
  pub cause : IsAdoptionFault answer fault
