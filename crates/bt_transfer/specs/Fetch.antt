-- What a fetch comes to.
use Rattle.std.specs.Prelude.{◌≡◌, ℕ, Bool, true, false, List, Ok, Option, Some, None, is_some, map, slice_get}
use Rattle.std.specs.Borrow.{Bor}
use Rattle.std.specs.Io.KnownBytes.{Appends}
use Rattle.bt_disk.specs.Conduct.{Conduct}
use Rattle.bt_resume.specs.ResumeLog.{LogView}
use Rattle.bt_meta.specs.Files.{File}
use Rattle.bt_meta.specs.Torrent.{Metainfo, total_pieces}
use Rattle.bt_machine.specs.Opening.{BeginsOn}
use Rattle.bt_machine.specs.State.{EngineView}
use Rattle.bt_connection.specs.ShortBlocks.{short_blocks_of}
use Rattle.bt_session.specs.Peer.{IsFlushedWhere}
use Rattle.bt_session.specs.declared.flushing.Flushing.{Flushing}
use Rattle.bt_session.specs.declared.flushing.Flushing.TheVariants.{Never, Each}
use Rattle.bt_session.specs.declared.peer_end.PeerEnd.{PeerEnd}
use Rattle.bt_wire.specs.declared.message.Ask.{Ask}
use Rattle.bt_engine.specs.WholeRuns.{IsFileMarkedOnPath, HasWholeRun}
use Rattle.bt_sockets.specs.Link.{Dials, undialled}
use Rattle.bt_sockets.specs.declared.listener.TheConstants.{SESSION_TURNS}
use Rattle.bt_files.specs.DataFiles.{DeviceView}
use Rattle.bt_files.specs.declared.file_use.FileUse.TheVariants.{Fetch}
use Rattle.bt_files.specs.Ending.{IsConcluded}
use Rattle.bt_files.specs.Loading.{IsLoaded}
use Rattle.bt_transfer.specs.FetchTogether.{HasFetchedTogether}
use Rattle.bt_transfer.specs.OverTcp.{tcp_conduct}
use Rattle.bt_together.specs.PeerLines.{peer_lines}
use Rattle.bt_transfer.specs.Turns.{InTurnOrStopped, LinkConduct, TriesAndTakesIn, Turn}
use Rattle.bt_files.specs.Report.{ReportsMarked, ReportsPublished}
use Rattle.bt_words.specs.declared.peer.Peer.{Peer}

-- ---- peers in turn, and a report

-- The peers were tried in turn, no fault ended it, and a line tells of each that was tried.
pub record TellsInTurn {D L : Type 0} (Try : Turn D L) (peers : List Peer) (old : EngineView D)
    (links : List L) (before after : Option (List ℕ)) (rest : List L) (new : EngineView D) : Type 0 where
  pub ends : List PeerEnd
  pub tried : InTurnOrStopped Try old links ends rest (Ok tt) new
  pub lines : Appends before after (peer_lines peers ends)

-- The peers were tried in turn by links of this kind, with a flush after each `every`-th turn of a session; behind each
-- peer what came without its hashes was taken in, and all was synced; a line tells of each; and then it is concluded.
pub record HasFetched {D L R W : Type 0} (conduct : Conduct D) (dig : List ℕ → List ℕ)
    (kind : LinkConduct L R W) (flushing : Flushing) (turns : ℕ) (peers : List Peer) (old : EngineView D) (links : List L)
    (before after : Option (List ℕ)) (status : ℕ) (rest : List L) (new : EngineView D) : Type 0 where
  pub kept : EngineView D
  pub told : Option (List ℕ)
  pub in_turn : TellsInTurn (TriesAndTakesIn conduct dig kind flushing turns) peers old links before told rest kept
  pub end : IsConcluded conduct dig kept told after status new

-- ---- over TCP

-- when a fetch flushes in the session with a peer: never without a log
abbrev pub fetch_flushing : (log : Option (Bor (List ℕ))) → Flushing
fetch_flushing None = Never
fetch_flushing (Some path) = Each 2048

-- A link to each peer's host and port, in their order, none of which was dialled. What stands before their
-- sockets goes by these short blocks, and by how many pieces there are.
abbrev pub links_by : List Ask → (pieces : ℕ) → List Peer → List Dials
links_by short pieces peers = map (λ peer. undialled peer.host.now peer.port short pieces) peers

-- by those of a torrent
abbrev pub links_of : Metainfo → List Peer → List Dials
links_of torrent peers = links_by (short_blocks_of torrent) (total_pieces torrent) peers

module _ {D : Type 0} (conduct : Conduct D) (dig : List ℕ → List ℕ) where
  -- The peers were fetched from in turn, each over a new link for the engine's own torrent. In their sessions there were
  -- flushes where there is a log, and none without one.
  pub record HasFetchedOverTcp (peers : List Peer) (log : Option (Bor (List ℕ))) (old : EngineView D)
      (before after : Option (List ℕ)) (status : ℕ) (new : EngineView D) : Type 0 where
    pub rest : List Dials
    pub fetched : HasFetched conduct dig tcp_conduct (fetch_flushing log) SESSION_TURNS peers
        old (links_of old.state.torrent peers) before after status rest new

  -- The peers were fetched from: one after the other, or from all at once.
  abbrev pub Fetches : (are_together : Bool) → List Peer → (log : Option (Bor (List ℕ))) → EngineView D
      → (before after : Option (List ℕ)) → (status : ℕ) → EngineView D → Type 0
  Fetches false peers log old before after status new =
      HasFetchedOverTcp peers log old before after status new
  Fetches true peers log old before after status new =
      HasFetchedTogether conduct dig peers old before after status new

-- ---- the whole

-- An engine that began so, with a torrent, and with a log or without, and has come to `old`, was flushed first
-- where there is a log, whose path is `log`, and then fetched the rest from the peers. The whole, from its start
-- on, is a run as promised. Where the report calls a file complete, each of its blocks is marked in this run, or
-- since its start, by bytes whose digest lies at its leaf, on a checked path to the file's root (`reported`); and
-- what its device has is the published file, where that is honest (`published`). With status 0 each file of the
-- torrent is so (`complete`).
pub record EndsFetch {D : Type 0} {conduct : Conduct D}
    {dig : List ℕ → List ℕ} {torrent : Metainfo} {placed : List (Option D)} {attached : Option (LogView D)}
    {first : EngineView D} (begins : BeginsOn conduct dig torrent placed attached first)
    (old : EngineView D) (are_together : Bool) (peers : List Peer) (log : Option (Bor (List ℕ)))
    (before after : Option (List ℕ)) (status : ℕ) : Type 0 where
  pub ready : EngineView D
  pub flushed : IsFlushedWhere conduct dig (is_some log) old (Ok tt) ready
  pub last : EngineView D
  pub fetched : Fetches conduct dig are_together peers log ready before after status last
  pub whole : HasWholeRun begins last
  pub reported : ReportsMarked begins whole.runs
  pub published : ReportsPublished conduct dig torrent last
  pub complete : status ≡ 0 → (number : ℕ) (file : File) → slice_get torrent.files number ≡ Some file
      → IsFileMarkedOnPath begins whole.runs number file

-- The store of a torrent of some text was opened in a folder, with a log where the path of one is given, and
-- the rest was fetched from the peers.
pub record IsFetch (is_info : Bool) (dir : List ℕ) (are_together : Bool) (peers : List Peer)
    (log : Option (Bor (List ℕ))) (before after : Option (List ℕ)) (status : ℕ) : Type 0 where
  pub store : EngineView DeviceView
  pub loaded : IsLoaded is_info Fetch dir log store
  pub ended : EndsFetch loaded.opened.begun.begins store are_together peers log before after status
