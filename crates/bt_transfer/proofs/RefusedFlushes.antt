-- Why a flush among peers in turn is refused, and what leads to it.
use Rattle.std.proofs.Common.{◌≡◌, ℕ, Bool, true, false, List, Option, Some, None, Result, Ok, Err, subst}
use Rattle.bt_disk.specs.Conduct.{Conduct}
use Rattle.bt_check.specs.Fault.{log_full}
use Rattle.bt_check.specs.declared.fault.Fault.{Fault}
use Rattle.bt_machine.specs.declared.error.FlushError.{FlushError}
use Rattle.bt_machine.specs.declared.event.Event.{Event}
use Rattle.bt_machine.specs.declared.event.Event.TheVariants.{Connect, Feed, Next, Lost, Rechoke, Adopt, Flush, Restart}
use Rattle.bt_machine.specs.declared.event.Answer.TheVariants.{Flushed}
use Rattle.bt_machine.specs.State.{EngineView}
use Rattle.bt_machine.specs.View.{StepsTo}
use Rattle.bt_engine.specs.Leads.{LeadsTo}
use Rattle.bt_session.specs.Session.{Session, begins, goes_on}
use Rattle.bt_session.specs.declared.end.SessionEnd.{SessionEnd}
use Rattle.bt_session.specs.declared.flushing.Flushing.{Flushing}
use Rattle.bt_session.specs.declared.peer_end.PeerEnd.{PeerEnd}
use Rattle.bt_session.specs.declared.peer_end.PeerEnd.TheVariants.{Untried, Unreachable, Refused, Session as HadSession}
use Rattle.bt_session.specs.Flushing.{is_ever_flushed}
use Rattle.bt_session.specs.Peer.{HasSession, IsFlushedWhere, IsFlushedSession, behind, within, EndsAs}
use Rattle.bt_session.proofs.Sessions.{events_lead, session_leads}
use Rattle.bt_files.specs.Store.{IsFlushFault, flush_fault}
use Rattle.bt_files.proofs.Unlogged.{flush_fails, flush_fault_before}
use Rattle.bt_transfer.specs.FullLog.{FindsLogFull}
use Rattle.bt_transfer.proofs.FullLogs.{refused_full}

module _ {D : Type 0} (conduct : Conduct D) (dig : List ℕ → List ℕ) where
  -- ---- events lead on

  whole_leads : {until flushing turns remaining contents : _} {old new : EngineView D} {end : Result SessionEnd FlushError}
      → HasSession conduct dig until flushing turns remaining contents old end new → LeadsTo conduct dig old new
  whole_leads {until} {flushing} {turns} {remaining} {contents} {old} {new} {end} has =
      session_leads conduct dig until flushing turns old new end remaining has.left contents has.written has.session

  -- ---- the flush that was refused

  -- behind events from this engine on a flush was refused so
  record RefusesLater (old : EngineView D) (error : FlushError) : Type 0 where
    pub mid : EngineView D
    pub new : EngineView D
    pub led : LeadsTo conduct dig old mid
    pub step : StepsTo conduct dig mid Flush (Flushed (Err error)) new

  -- only a flush is answered so
  is_flush : (event : Event) (old new : EngineView D) (error : FlushError) → StepsTo conduct dig old event (Flushed (Err error)) new
      → StepsTo conduct dig old Flush (Flushed (Err error)) new
  is_flush Flush old new error step = step
  is_flush Connect old new error step = let is = step.step.1 in absurd cc
  is_flush (Feed key bytes) old new error step = let is = step.step.1 in absurd cc
  is_flush (Next key) old new error step = let is = step.step.1 in absurd cc
  is_flush (Lost key) old new error step = let is = step.step.1 in absurd cc
  is_flush Rechoke old new error step = let is = step.step.1 in absurd cc
  is_flush (Adopt file) old new error step = let is = step.step.1 in absurd cc
  is_flush Restart old new error step = let is = step.step.1 in absurd cc

  session_refused : {key until flushing : _} {first now : EngineView D} {events answers last : _} (error : FlushError)
      → Session conduct dig key until flushing first events answers last now → last ≡ Flushed (Err error) → RefusesLater first error
  session_refused error (begins out answer now is step) refused = absurd cc
  session_refused error (goes_on events answers last answer event mid now session follows step) refused = record {
    mid = mid;
    new = now;
    led = events_lead conduct dig session;
    step = is_flush event mid now error (subst (λ a. StepsTo conduct dig mid event a now) refused step);
  }

  where_refused : (flushes : Bool) (old new : EngineView D) (error : FlushError) → IsFlushedWhere conduct dig flushes old (Err error) new
      → StepsTo conduct dig old Flush (Flushed (Err error)) new
  where_refused true old new error step = step
  where_refused false old new error same = let is : Err error ≡ Ok tt = same.0 in absurd cc

  flushed_refused : {until turns remaining contents : _} (flushing : Flushing) (old new : EngineView D) (end : SessionEnd) (error : FlushError)
      → IsFlushedSession conduct dig until flushing turns remaining contents old end (Err error) new → RefusesLater old error
  flushed_refused flushing old new end error (behind mid has flushed) = record {
    mid = mid;
    new = new;
    led = whole_leads has;
    step = where_refused (is_ever_flushed flushing) mid new error flushed;
  }
  flushed_refused flushing old new end error (within other has ends answers) =
      let same : other ≡ error = cc in subst (RefusesLater old) same (session_refused other has.session.ended.ran.session has.session.ended.comes.1)

  end_refused : {R W : Type 0} (remaining : R → Option (List ℕ)) (contents : W → Option (List ℕ)) (until : Bool) (flushing : Flushing) (turns : ℕ) (reached : Option (R × W))
      (old new : EngineView D) (end : PeerEnd) (error : FlushError)
      → EndsAs conduct dig remaining contents until flushing turns reached old end (Err error) new → RefusesLater old error
  end_refused remaining contents until flushing turns None old new Unreachable error e = let is : Err error ≡ Ok tt = e.0 in absurd cc
  end_refused remaining contents until flushing turns None old new Untried error e = absurd e
  end_refused remaining contents until flushing turns None old new (Refused cause) error e = absurd e
  end_refused remaining contents until flushing turns None old new (HadSession end) error e = absurd e
  end_refused remaining contents until flushing turns (Some ways) old new Untried error e = absurd e
  end_refused remaining contents until flushing turns (Some ways) old new Unreachable error e = absurd e
  end_refused remaining contents until flushing turns (Some ways) old new (Refused cause) error e = let is : Err error ≡ Ok tt = e.0 in absurd cc
  end_refused remaining contents until flushing turns (Some ways) old new (HadSession end) error e = flushed_refused flushing old new end error e

  -- ---- what is told of it

  module _ {R W : Type 0} (remaining : R → Option (List ℕ)) (contents : W → Option (List ℕ)) (until : Bool) (flushing : Flushing) (turns : ℕ) (reached : Option (R × W))
      (old new : EngineView D) (end : PeerEnd) (error : FlushError)
      (refused : EndsAs conduct dig remaining contents until flushing turns reached old end (Err error) new) where
    -- why it was
    pub end_fault : IsFlushFault old.log (flush_fault error)
    end_fault =
        let refuses : RefusesLater old error = end_refused remaining contents until flushing turns reached old new end error refused in
        flush_fault_before conduct dig refuses.led (flush_fault error) (flush_fails conduct dig refuses.mid refuses.new error refuses.step)

    -- by a full log
    pub end_full : (fault : Fault) → fault ≡ flush_fault error → fault ≡ log_full → FindsLogFull conduct dig old
    end_full fault told full =
        let refuses : RefusesLater old error = end_refused remaining contents until flushing turns reached old new end error refused in
        refused_full refuses.led refuses.step told full
