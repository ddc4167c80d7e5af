-- torrents
pub use Rattle.bt_meta.specs.Faults
pub use Rattle.bt_meta.specs.FilePath
pub use Rattle.bt_meta.specs.Files
pub use Rattle.bt_meta.specs.GivenFiles
pub use Rattle.bt_meta.specs.MadeFrom
pub use Rattle.bt_meta.specs.PieceBlocks
pub use Rattle.bt_meta.specs.Place
pub use Rattle.bt_meta.specs.Reader
pub use Rattle.bt_meta.specs.Torrent
pub use Rattle.bt_meta.specs.Writer
-- devices
pub use Rattle.bt_disk.specs.Calls
pub use Rattle.bt_disk.specs.Conduct
pub use Rattle.bt_disk.specs.FaultDisk
pub use Rattle.bt_disk.specs.FileDisk
pub use Rattle.bt_disk.specs.History
pub use Rattle.bt_disk.specs.Limits
pub use Rattle.bt_disk.specs.MemoryDisk
pub use Rattle.bt_disk.specs.Pool
pub use Rattle.bt_disk.specs.State as DeviceState
-- the digest
pub use Rattle.sha2.specs.Sha256
-- an engine
pub use Rattle.bt_machine.specs.Frames
pub use Rattle.bt_machine.specs.Law
pub use Rattle.bt_machine.specs.Opening
pub use Rattle.bt_machine.specs.Orderly
pub use Rattle.bt_machine.specs.Report
pub use Rattle.bt_machine.specs.Shape
pub use Rattle.bt_machine.specs.Sound
pub use Rattle.bt_machine.specs.State
pub use Rattle.bt_machine.specs.Unmarks
pub use Rattle.bt_machine.specs.View
pub use Rattle.bt_machine.specs.Why
pub use Rattle.bt_engine.specs.Reopened
pub use Rattle.bt_engine.specs.Run
pub use Rattle.bt_engine.specs.Standing
-- a log, and an engine that begins with it
pub use Rattle.bt_resume.specs.Hint
pub use Rattle.bt_resume.specs.LogText
pub use Rattle.bt_resume.specs.ResumeLog
pub use Rattle.bt_engine.specs.Reopening
-- what a log keeps over restarts and lives
pub use Rattle.bt_machine.specs.Backing
pub use Rattle.bt_machine.specs.Lives
pub use Rattle.bt_machine.specs.Reopening as MachineReopening
-- lists of events, and the messages that they send
pub use Rattle.bt_engine.specs.Flushes
pub use Rattle.bt_engine.specs.Leads
pub use Rattle.bt_engine.specs.Promises
pub use Rattle.bt_engine.specs.WholeRuns
-- the wire
pub use Rattle.bt_hashreq.specs.Key
pub use Rattle.bt_wire.specs.Cutter
pub use Rattle.bt_wire.specs.Handshake
pub use Rattle.bt_wire.specs.Message
-- sessions and peers
pub use Rattle.bt_session.specs.Flushing
pub use Rattle.bt_session.specs.Ends
pub use Rattle.bt_session.specs.Failures
pub use Rattle.bt_session.specs.Progress
pub use Rattle.bt_session.specs.PeerEnd
pub use Rattle.bt_session.specs.Link
pub use Rattle.bt_session.specs.Peer
pub use Rattle.bt_session.specs.Peers
-- bencoding
pub use Rattle.bt_bencode.specs.Dictionary
pub use Rattle.bt_bencode.specs.Reader as BencodeReader
pub use Rattle.bt_bencode.specs.Spelling
pub use Rattle.bt_bencode.specs.Value
-- trees
pub use Rattle.bt_tree.specs.Blocks
pub use Rattle.bt_tree.specs.Clash
pub use Rattle.bt_tree.specs.Comparison
pub use Rattle.bt_tree.specs.Layers
pub use Rattle.bt_tree.specs.RootBuilder
pub use Rattle.bt_tree.specs.Tree
pub use Rattle.bt_tree.specs.TreeShape
pub use Rattle.bt_sparse.specs.Acceptance
pub use Rattle.bt_sparse.specs.Answer
pub use Rattle.bt_sparse.specs.Claim
pub use Rattle.bt_sparse.specs.SparseTree
pub use Rattle.bt_hashreq.specs.Claim as KeyClaim
pub use Rattle.bt_hashreq.specs.Request
-- requests
pub use Rattle.bt_book.specs.Blocks as BookBlocks
pub use Rattle.bt_book.specs.Book
pub use Rattle.bt_book.specs.Choking
-- blocks of a file on a device
pub use Rattle.bt_store.specs.Adoption
pub use Rattle.bt_store.specs.Arrival
pub use Rattle.bt_store.specs.BlockStates
pub use Rattle.bt_store.specs.FileStore
pub use Rattle.bt_store.specs.Review
pub use Rattle.bt_store.specs.SingleBlock
-- scripts
pub use Rattle.bt_replay.specs.Command
