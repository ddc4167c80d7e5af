-- Each frame that an event sends can be written.
use Rattle.std.specs.Prelude.{◌≡◌, ℕ, List, Some, slice_get, Contains}
use Rattle.bt_meta.specs.Torrent.{Metainfo, IsLawful}
use Rattle.bt_sparse.specs.SparseTree.{Facts, IsSound}
use Rattle.bt_wire.specs.Message.{Fits}
use Rattle.bt_machine.specs.declared.answer.Frame.{Frame}
use Rattle.bt_machine.specs.declared.answer.Frame.TheVariants.{Hello, Message}
use Rattle.bt_machine.specs.declared.event.Event.{Event}
use Rattle.bt_machine.specs.declared.event.Answer.{Answer}
use Rattle.bt_machine.specs.State.{EngineState}
use Rattle.bt_machine.specs.LogCalls.{EventCalls}
use Rattle.bt_machine.specs.Output.{Sent}
use Rattle.bt_machine.specs.Opening.{Begins}
use Rattle.bt_machine.specs.Step.{Step, Run}
use Rattle.bt_machine.specs.Shape.{IsShaped}
use Rattle.bt_machine.specs.Law.{sent_by}

-- a message that fits; a handshake has its length
abbrev pub CanBeWritten : Frame → Type 0
CanBeWritten (Hello h) = Unit {0}
CanBeWritten (Message m) = Fits m

-- each tree is what a sparse tree of code is: rooted, with digests of 32 bytes, of a file not too long
abbrev pub AreSparseTrees : (List ℕ → List ℕ) → EngineState → Type 0
AreSparseTrees dig s = (t : ℕ) (k : Facts) → slice_get s.trees t ≡ Some k → IsSound dig k

-- the trees of an engine that begins with a lawful torrent are sparse trees of code
abbrev pub StartsSparse : (List ℕ → List ℕ) → Type 0
StartsSparse dig = (torrent : Metainfo) (first : EngineState)
    → IsLawful torrent.piece_length torrent.files → Begins dig torrent first → AreSparseTrees dig first

-- each event keeps the trees sparse trees of code, where the torrent is lawful
abbrev pub StepKeepsSparse : (List ℕ → List ℕ) → Type 0
StepKeepsSparse dig = (old new : EngineState) (event : Event) (calls : EventCalls) (answer : Answer)
    → IsLawful old.torrent.piece_length old.torrent.files
    → Step dig old event calls answer new → AreSparseTrees dig old → AreSparseTrees dig new

-- what an event sends can be written, where the engine has the shape of a lawful torrent and its trees are such
abbrev pub StepSendsWhatFits : (List ℕ → List ℕ) → Type 0
StepSendsWhatFits dig = (torrent : Metainfo) (old new : EngineState) (event : Event) (calls : EventCalls)
    (answer : Answer) → IsLawful torrent.piece_length torrent.files → IsShaped torrent old
    → AreSparseTrees dig old → Step dig old event calls answer new
    → (sent : Sent) → Contains (sent_by answer) sent → CanBeWritten sent.1

-- What an event sends after any list of events from the start of a lawful torrent can be written.
abbrev pub RunsSendWhatFits : (List ℕ → List ℕ) → Type 0
RunsSendWhatFits dig = (torrent : Metainfo) (first last new : EngineState) (events : List Event)
    (calls : List EventCalls) (answers : List Answer) (event : Event) (made : EventCalls) (answer : Answer)
    → IsLawful torrent.piece_length torrent.files → Begins dig torrent first
    → Run dig first events calls answers last → Step dig last event made answer new
    → (sent : Sent) → Contains (sent_by answer) sent → CanBeWritten sent.1
