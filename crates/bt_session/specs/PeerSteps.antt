-- An engine with one peer.
use Rattle.std.specs.Prelude.{[], ◌≡◌, ℕ, ◌<◌, ◌⊎◌, ◌∷◌, length, Bool, true, false, Option, Some, None, Result, Ok, Err}
use Rattle.std.specs.List.{sum_by}
use Rattle.bt_book.specs.declared.names.PeerKey.{PeerKey}
use Rattle.bt_machine.specs.declared.answer.Why.{Why}
use Rattle.bt_machine.specs.declared.error.EngineError.{EngineError}
use Rattle.bt_machine.specs.declared.error.EngineError.TheVariants.{OutOfMemory}
use Rattle.bt_machine.specs.Output.{Output}
use Rattle.bt_machine.specs.State.{PeerState, EngineState}

-- the peer of this key is connected, and no other
pub record IsAlone (key : PeerKey) (s : EngineState) : Type 0 where
  pub peer : PeerState
  pub only : s.peers ≡ peer ∷ []
  pub same_key : peer.key ≡ key

-- or it is gone
abbrev pub HasNoOther : PeerKey → EngineState → Type 0
HasNoOther key s = (s.peers ≡ []) ⊎ IsAlone key s

-- how many bytes came of which no event was taken
abbrev pub unread_count : EngineState → ℕ
unread_count s = sum_by (λ p. length p.stream.unread) s.peers

-- the peer stays; where an event was taken of it, with fewer bytes
abbrev pub StaysAlone : PeerKey → EngineState → EngineState → (there_was : Bool) → Type 0
StaysAlone key old new true = IsAlone key new × (unread_count new < unread_count old)
StaysAlone key old new false = IsAlone key new

-- what the next wire event leaves: the peer, with fewer bytes; or none where it is closed, or memory was
-- refused
abbrev pub LeavesPeer : PeerKey → EngineState → Result (Option Output) EngineError → EngineState → Type 0
LeavesPeer key old (Ok (Some out)) new =
    (out.close ≡ None → IsAlone key new × (unread_count new < unread_count old))
    × ((why : Why) → out.close ≡ Some why → new.peers ≡ [])
LeavesPeer key old (Ok None) new = IsAlone key new
LeavesPeer key old (Err error) new = (error ≡ OutOfMemory) × (new.peers ≡ [])
