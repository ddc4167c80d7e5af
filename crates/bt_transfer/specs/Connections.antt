-- Connections that are served one after the other.
use Rattle.std.specs.Prelude.{[], ◌≡◌, ℕ, ◌∷◌, ◌++◌, List, Ok, Option, length}
use Rattle.std.specs.Io.KnownBytes.{Appends}
use Rattle.std.specs.List.{enumerate_from, flat_map}
use Rattle.bt_check.specs.declared.fault.Fault.{Fault}
use Rattle.bt_disk.specs.Conduct.{Conduct}
use Rattle.bt_files.specs.Store.{FailsWithFlush}
use Rattle.bt_machine.specs.declared.event.Event.TheVariants.{Flush}
use Rattle.bt_machine.specs.declared.event.Answer.TheVariants.{Flushed}
use Rattle.bt_machine.specs.State.{EngineView}
use Rattle.bt_machine.specs.View.{StepsTo}
use Rattle.bt_engine.specs.Leads.{LeadsTo}
use Rattle.bt_session.specs.declared.peer_end.PeerEnd.{PeerEnd}
use Rattle.bt_together.specs.ServedLines.{served_line}
use Rattle.bt_transfer.specs.OverTcp.{Meeting, MeetsOverTcp}

-- One after the other is served.
pub data InSeries {D : Type 0} (Meet : Meeting D) : EngineView D → List PeerEnd → EngineView D → Type 0 where
  none_yet : (engine : EngineView D) → InSeries Meet engine [] engine
  one_more : (old mid new : EngineView D) (ends : List PeerEnd) (end : PeerEnd)
      → InSeries Meet old ends mid → Meet mid end new → InSeries Meet old (ends ++ end ∷ []) new

-- ---- lines

-- a line for each; the first has the number 1
abbrev pub served_lines : List PeerEnd → List ℕ
served_lines ends = flat_map (λ p. served_line p.0 p.1) (enumerate_from 1 ends)

-- this many were served, and a line tells of each
pub record HasServed {D : Type 0} (Meet : Meeting D) (count : ℕ) (old : EngineView D)
    (before after : Option (List ℕ)) (new : EngineView D) : Type 0 where
  pub ends : List PeerEnd
  pub counted : length ends ≡ count
  pub in_series : InSeries Meet old ends new
  pub lines : Appends before after (served_lines ends)

-- ---- one connection

module _ {D : Type 0} (conduct : Conduct D) (dig : List ℕ → List ℕ) where
  -- a connection is served over TCP, and then all devices are synced
  pub record MeetsAndSyncs (old : EngineView D) (end : PeerEnd) (new : EngineView D) : Type 0 where
    pub mid : EngineView D
    pub met : MeetsOverTcp conduct dig old end mid
    pub synced : StepsTo conduct dig mid Flush (Flushed (Ok tt)) new

  -- Serving fails: events led on from the old engine, and the last thing was a flush. The fault is that of this
  -- flush, where it was refused; where it was made, that of a call.
  pub record FailsToServe (old : EngineView D) (fault : Fault) (new : EngineView D) : Type 0 where
    pub mid : EngineView D
    pub led : LeadsTo conduct dig old mid
    pub ended : FailsWithFlush conduct dig mid fault new
