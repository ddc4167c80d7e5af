-- What a fetch from all peers at once comes to.
use Rattle.std.specs.Prelude.{◌≡◌, ℕ, false, List, length, Ok, Option}
use Rattle.std.specs.Io.KnownBytes.{Appends}
use Rattle.bt_disk.specs.Conduct.{Conduct}
use Rattle.bt_files.specs.Ending.{IsConcluded}
use Rattle.bt_gate.specs.Doors.{DiallingState, HasDialledAll}
use Rattle.bt_machine.specs.Report.{all_complete}
use Rattle.bt_machine.specs.declared.event.Event.TheVariants.{Flush}
use Rattle.bt_machine.specs.declared.event.Answer.TheVariants.{Flushed}
use Rattle.bt_machine.specs.State.{EngineView}
use Rattle.bt_machine.specs.View.{StepsTo}
use Rattle.bt_session.specs.declared.peer_end.PeerEnd.{PeerEnd}
use Rattle.bt_together.specs.PeerLines.{peer_lines}
use Rattle.bt_together.specs.Together.{SwarmsAndTakesIn}
use Rattle.bt_words.specs.declared.peer.Peer.{Peer}

-- what is said of peers that are fetched from at once: of the engine before, of how it ended with each, and of the engine
-- afterwards
abbrev pub Fetching : (D : Type 0) → Type 1
Fetching D = EngineView D → List PeerEnd → EngineView D → Type 0

-- Peers were fetched from once; or once more, where not all files were complete then: and how it ended with each is told
-- of the last time.
pub data OnceOrTwice {D : Type 0} (Fetch : Fetching D)
    : EngineView D → List PeerEnd → EngineView D → Type 0 where
  once : (old new : EngineView D) (ends : List PeerEnd) → Fetch old ends new → OnceOrTwice Fetch old ends new
  twice : (old mid new : EngineView D) (first ends : List PeerEnd) → Fetch old first mid
      → all_complete mid.state ≡ false → Fetch mid ends new → OnceOrTwice Fetch old ends new

module _ {D : Type 0} (conduct : Conduct D) (dig : List ℕ → List ℕ) where
  -- So many peers were fetched from at once, until all files were complete, or all were dialled and nobody was
  -- there; and it ended so with each. Then what came without its hashes is taken in.
  pub record FetchesAtOnce (count : ℕ) (old : EngineView D) (ends : List PeerEnd) (new : EngineView D)
      : Type 0 where
    pub door : DiallingState
    pub waits : ℕ
    pub fetched : SwarmsAndTakesIn conduct dig (HasDialledAll door) waits old new
    pub told : door.ends ≡ ends
    pub each : length ends ≡ count

  -- once or twice, and then all devices were synced
  pub record FetchesAndSyncs (count : ℕ) (old : EngineView D) (ends : List PeerEnd) (new : EngineView D)
      : Type 0 where
    pub mid : EngineView D
    pub fetched : OnceOrTwice (FetchesAtOnce count) old ends mid
    pub synced : StepsTo conduct dig mid Flush (Flushed (Ok tt)) new

  -- The peers were fetched from at once, a line tells of each that was tried, in their order, and then it is
  -- concluded.
  pub record HasFetchedTogether (peers : List Peer) (old : EngineView D) (before after : Option (List ℕ))
      (status : ℕ) (new : EngineView D) : Type 0 where
    pub ends : List PeerEnd
    pub kept : EngineView D
    pub fetched : FetchesAndSyncs (length peers) old ends kept
    pub told : Option (List ℕ)
    pub lines : Appends before told (peer_lines peers ends)
    pub end : IsConcluded conduct dig kept told after status new
