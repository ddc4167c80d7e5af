-- How it ended with a peer that was reached.
use Rattle.std.proofs.Common.{◌≡◌, ℕ, ◌⊎◌, inl, inr, Bool, List, Option, Some, sym, subst}
use Rattle.std.specs.Prelude.{Result, Err}
use Rattle.bt_disk.specs.Conduct.{Conduct}
use Rattle.bt_machine.specs.declared.error.FlushError.{FlushError}
use Rattle.bt_machine.specs.State.{EngineView}
use Rattle.bt_session.specs.declared.end.SessionEnd.{SessionEnd}
use Rattle.bt_session.specs.declared.end.SessionEnd.TheVariants.{ReadFault}
use Rattle.bt_session.specs.declared.flushing.Flushing.{Flushing}
use Rattle.bt_session.specs.declared.peer_end.PeerEnd.{PeerEnd}
use Rattle.bt_session.specs.declared.peer_end.PeerEnd.TheVariants.{Session}
use Rattle.bt_session.specs.Failures.{OnlyAfterFailure, OneFailed}
use Rattle.bt_session.specs.Peer.{HasSession, IsFlushedSession, IsCutShort, EndsAs}

module _ {D R W : Type 0} (conduct : Conduct D) (dig : List ℕ → List ℕ) (remaining : R → Option (List ℕ)) (contents : W → Option (List ℕ)) (until : Bool)
    (flushing : Flushing) (turns : ℕ) (reached : Option (R × W)) (ways : R × W) (old new : EngineView D) where
  -- it had a session
  pub had_session : (end : SessionEnd) (answer : Result (Unit {0}) FlushError) → reached ≡ Some ways
      → IsFlushedSession conduct dig until flushing turns (remaining ways.0) (contents ways.1) old end answer new
      → EndsAs conduct dig remaining contents until flushing turns reached old (Session end) answer new
  had_session end answer is session =
      subst (λ (r : Option (R × W)). EndsAs conduct dig remaining contents until flushing turns r old (Session end) answer new) (sym is) session

  -- a flush was refused in it
  pub cut_short : (error : FlushError) → reached ≡ Some ways
      → HasSession conduct dig until flushing turns (remaining ways.0) (contents ways.1) old (Err error) new
      → IsCutShort conduct dig remaining contents until flushing turns (Err error) reached old new
  cut_short error is session =
      subst (λ (r : Option (R × W)). IsCutShort conduct dig remaining contents until flushing turns (Err error) r old new) (sym is) session

-- the end of a session whose reader failed is told
pub told_of_reader : {R Cut : Type 0} (has_failed : R → Type 0) (reader : R) (end : SessionEnd)
    → OnlyAfterFailure ReadFault (has_failed reader) end → OnlyAfterFailure (Session ReadFault) (OneFailed has_failed ⊎ Cut) (Session end)
told_of_reader has_failed reader end failed = λ is. inl (reader, failed cc)

-- where no session was cut short, that a reader failed is told only where one did
pub not_cut : {Failed : Type 0} (end : PeerEnd) → OnlyAfterFailure (Session ReadFault) (Failed ⊎ ⊥) end → OnlyAfterFailure (Session ReadFault) Failed end
not_cut {Failed} end told = λ is. one (told is)
  where
    one : Failed ⊎ ⊥ → Failed
    one (inl failed) = failed
    one (inr none) = absurd none
