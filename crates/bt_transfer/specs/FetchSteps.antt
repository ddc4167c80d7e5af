-- A fetch that fails.
use Rattle.std.specs.Prelude.{ℕ, List, Ok, Err}
use Rattle.bt_disk.specs.Conduct.{Conduct}
use Rattle.bt_check.specs.declared.fault.Fault.{Fault}
use Rattle.bt_files.specs.OpenFolder.{IsCallFault}
use Rattle.bt_files.specs.Store.{FailsWithFlush}
use Rattle.bt_machine.specs.State.{EngineView}
use Rattle.bt_session.specs.declared.flushing.Flushing.{Flushing}
use Rattle.bt_session.specs.declared.peer_end.PeerEnd.{PeerEnd}
use Rattle.bt_transfer.specs.Turns.{InTurnOrStopped, LinkConduct, TriesAndTakesIn, Turn}

-- Peers were tried in turn, and this fault ended it; or no fault did, and this one is of a line that could not be
-- written.
pub data StopsAmong {D L : Type 0} (Try : Turn D L) (old : EngineView D) (links rest : List L)
    (fault : Fault) (new : EngineView D) : Type 0 where
  ended : (ends : List PeerEnd) → InTurnOrStopped Try old links ends rest (Err fault) new
      → StopsAmong Try old links rest fault new
  unwritten : (ends : List PeerEnd) → InTurnOrStopped Try old links ends rest (Ok tt) new → IsCallFault fault
      → StopsAmong Try old links rest fault new

module _ {D L R W : Type 0} (conduct : Conduct D) (dig : List ℕ → List ℕ) (kind : LinkConduct L R W)
    (flushing : Flushing) (turns : ℕ) where
  abbrev Try : Turn D L
  Try = TriesAndTakesIn conduct dig kind flushing turns

  -- A fetch fails among the peers, each of whom was tried so; or behind them, with the flush at its end.
  pub data BreaksOff (old : EngineView D) (links rest : List L) (fault : Fault) (new : EngineView D) : Type 0 where
    among : StopsAmong Try old links rest fault new → BreaksOff old links rest fault new
    not_concluded : (ends : List PeerEnd) (kept : EngineView D)
        → InTurnOrStopped Try old links ends rest (Ok tt) kept
        → FailsWithFlush conduct dig kept fault new → BreaksOff old links rest fault new
