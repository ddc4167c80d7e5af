-- Why a connection of a swarm ended.
use Rattle.std.specs.Prelude.{◌≡◌, ◌⊎◌, ℕ, List, ◌++◌, Some, Ok, Err, Contains}
use Rattle.bt_disk.specs.Conduct.{Conduct}
use Rattle.bt_book.specs.declared.names.PeerKey.{PeerKey}
use Rattle.bt_machine.specs.declared.answer.Why.{Why}
use Rattle.bt_machine.specs.declared.event.Event.TheVariants.{Next, Flush}
use Rattle.bt_machine.specs.declared.event.Answer.TheVariants.{Stepped, Flushed}
use Rattle.bt_machine.specs.declared.error.FlushError.{FlushError}
use Rattle.bt_machine.specs.Output.{Output}
use Rattle.bt_machine.specs.State.{EngineView}
use Rattle.bt_session.specs.declared.end.SessionEnd.{SessionEnd}
use Rattle.bt_session.specs.declared.end.SessionEnd.TheVariants.{Complete, Ended, Closed, TurnsSpent, ReadFault, WriteFault, Memory}
use Rattle.bt_session.specs.Failures.{OneFailed}
use Rattle.bt_swarm.specs.Runs.{Happening, Runs}
use Rattle.bt_swarm.specs.Steps.{Steps, IsComplete}

-- an event that was taken from the peer closed it, for this
pub record IsClosedIn (history : List Happening) (key : PeerKey) (why : Why) : Type 0 where
  pub out : Output
  pub closes : out.close ≡ Some why
  pub happened : Contains history (Next key, Stepped (Ok (Some out)))

-- a reader failed, or a device refused a write
abbrev pub ReadFailed : {R G : Type 0} → (has_failed : R → Type 0) → (is_troubled : G → Type 0) → Type 0
ReadFailed has_failed is_troubled = OneFailed has_failed ⊎ OneFailed is_troubled

-- Ends that come from the connection, or for want of memory: one by a fault of a reader or of a way out, only
-- where there was such a fault.
abbrev pub IsFault : (read_fault write_fault : Type 0) → SessionEnd → Type 0
IsFault read_fault write_fault Complete = ⊥
IsFault read_fault write_fault Ended = Unit {0}
IsFault read_fault write_fault (Closed why) = ⊥
IsFault read_fault write_fault TurnsSpent = ⊥
IsFault read_fault write_fault ReadFault = read_fault
IsFault read_fault write_fault WriteFault = write_fault
IsFault read_fault write_fault Memory = Unit {0}

-- the same of readers, of ways out and of a gate
abbrev pub IsFaultOf : {R W G : Type 0} → (R → Type 0) → (W → Type 0) → (G → Type 0) → SessionEnd → Type 0
IsFaultOf read_failed write_failed is_troubled =
    IsFault (ReadFailed read_failed is_troubled) (OneFailed write_failed)

-- at some moment of it all files were complete
pub record WasComplete {D : Type 0} (conduct : Conduct D) (dig : List ℕ → List ℕ) (first : EngineView D)
    (history : List Happening) : Type 0 where
  pub before : List Happening
  pub after : List Happening
  pub splits : history ≡ before ++ after
  pub engine : EngineView D
  pub ran : Runs (Steps conduct dig) first before engine
  pub complete : IsComplete engine

module _ {D : Type 0} (conduct : Conduct D) (dig : List ℕ → List ℕ) (read_fault write_fault : Type 0) where
  -- what is known of the history since the first engine where the peer's connection ended so
  abbrev pub HasCause : EngineView D → List Happening → PeerKey → SessionEnd → Type 0
  HasCause first history key Complete = WasComplete conduct dig first history
  HasCause first history key Ended = Unit {0}
  HasCause first history key (Closed why) = IsClosedIn history key why
  HasCause first history key TurnsSpent = ⊥
  HasCause first history key ReadFault = read_fault
  HasCause first history key WriteFault = write_fault
  HasCause first history key Memory = Unit {0}

-- events led from one machine to the other, and a flush among them was refused for this
pub record IsRefused {D : Type 0} (conduct : Conduct D) (dig : List ℕ → List ℕ) (old : EngineView D)
    (error : FlushError) (new : EngineView D) : Type 0 where
  pub history : List Happening
  pub runs : Runs (Steps conduct dig) old history new
  pub refused : Contains history (Flush, Flushed (Err error))

-- Whoever is there may end so: by a fault, or where all files are complete as complete.
abbrev pub MayEndAll : {D : Type 0} → (read_fault write_fault : Type 0) → EngineView D → SessionEnd → Type 0
MayEndAll read_fault write_fault engine end =
    IsFault read_fault write_fault end ⊎ ((end ≡ Complete) × IsComplete engine)
