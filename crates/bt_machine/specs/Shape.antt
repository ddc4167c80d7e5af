-- What stays over all events: the torrent, which trees and files there are, and whether there is a log.
use Rattle.std.specs.Prelude.{[], ◌≡◌, ◌≢◌, ℕ, ◌<◌, false, List, length, Some, slice_get}
use Rattle.std.specs.List.{AllPairs}
use Rattle.bt_tree.specs.Blocks.{block_count}
use Rattle.bt_meta.specs.Files.{File}
use Rattle.bt_meta.specs.Torrent.{Metainfo}
use Rattle.bt_sparse.specs.SparseTree.{Facts}
use Rattle.bt_machine.specs.declared.event.Event.{Event}
use Rattle.bt_machine.specs.State.{FileState, EngineState}
use Rattle.bt_machine.specs.LogCalls.{EventCalls}
use Rattle.bt_machine.specs.Opening.{Begins}
use Rattle.bt_machine.specs.declared.event.Answer.{Answer}
use Rattle.bt_machine.specs.Step.{Step, Run}

-- what is known of a file has a state for each of its blocks, and where there is one, the tree of its root
pub record HasShapeOf (file : File) (trees : List Facts) (f : FileState) : Type 0 where
  pub blocks : length f.states ≡ block_count file.length
  pub has_tree : 0 < file.length → (k : Facts) × (slice_get trees f.tree ≡ Some k)
      × (k.root ≡ file.root) × (k.file_length ≡ file.length)

-- the engine has this torrent's files, in their order, and no two trees of one root
pub record IsShaped (torrent : Metainfo) (s : EngineState) : Type 0 where
  pub same : s.torrent ≡ torrent
  pub roots : AllPairs (λ j k. j.root ≢ k.root) s.trees
  pub count : length s.files ≡ length torrent.files
  pub each : (i : ℕ) (file : File) (f : FileState) → slice_get torrent.files i ≡ Some file
      → slice_get s.files i ≡ Some f → HasShapeOf file s.trees f

-- an engine begins in the shape of its torrent
abbrev pub StartsInShape : (List ℕ → List ℕ) → Type 0
StartsInShape dig =
    (torrent : Metainfo) (first : EngineState) → Begins dig torrent first → IsShaped torrent first

-- each event keeps an engine in the shape of its torrent
abbrev pub StepKeepsShape : (List ℕ → List ℕ) → Type 0
StepKeepsShape dig = (torrent : Metainfo) (old new : EngineState) (event : Event) (calls : EventCalls)
    (answer : Answer) → IsShaped torrent old → Step dig old event calls answer new → IsShaped torrent new

-- a file of the new engine is one of the old, with the tree that it had
pub record HasOldTree (old : EngineState) (i : ℕ) (f : FileState) : Type 0 where
  pub before : FileState
  pub here : slice_get old.files i ≡ Some before
  pub tree : f.tree ≡ before.tree

-- a tree of the old engine is one of the new, of a file as long as it was
pub record HasNewTree (new : EngineState) (t : ℕ) (k : Facts) : Type 0 where
  pub after : Facts
  pub here : slice_get new.trees t ≡ Some after
  pub length : after.file_length ≡ k.file_length

-- Over each event a file keeps its tree, and a tree the length of its file, in any engine.
pub record StepKeepsFiles (dig : List ℕ → List ℕ) : Type 0 where
  pub files : (old new : EngineState) (event : Event) (calls : EventCalls) (answer : Answer)
      → Step dig old event calls answer new
      → (i : ℕ) (f : FileState) → slice_get new.files i ≡ Some f → HasOldTree old i f
  pub trees : (old new : EngineState) (event : Event) (calls : EventCalls) (answer : Answer)
      → Step dig old event calls answer new
      → (t : ℕ) (k : Facts) → slice_get old.trees t ≡ Some k → HasNewTree new t k

-- without a log there is no hint from one, and none that is to be written
pub record HasHintsWithLogOnly (s : EngineState) : Type 0 where
  pub read : s.logged ≡ false → s.hints ≡ []
  pub written : s.logged ≡ false → s.pending ≡ []

-- After any list of events from the start of a torrent this is so.
abbrev pub RunsKeepShape : (List ℕ → List ℕ) → Type 0
RunsKeepShape dig = (torrent : Metainfo) (first last : EngineState)
    (events : List Event) (calls : List EventCalls) (answers : List Answer)
    → Begins dig torrent first → Run dig first events calls answers last
    → IsShaped torrent last × HasHintsWithLogOnly last × (last.logged ≡ first.logged)
