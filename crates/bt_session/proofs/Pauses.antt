-- What stands between two turns of a session: a flush, where one is due.
use Rattle.std.proofs.Common.{◌≡◌, ℕ, Bool, true, false, List, refl, sym, subst, arith}
use Rattle.std.proofs.KnownBytes.{Appends-nil, Consumes-nil}
use Rattle.std.specs.Prelude.{Result, Ok, Err, MatchResult}
use Rattle.bt_disk.specs.Conduct.{Conduct}
use Rattle.bt_book.specs.declared.names.PeerKey.{PeerKey}
use Rattle.bt_machine.specs.declared.error.FlushError.{FlushError}
use Rattle.bt_machine.specs.declared.event.Event.TheVariants.{Flush}
use Rattle.bt_machine.specs.declared.event.Answer.{Answer}
use Rattle.bt_machine.specs.declared.event.Answer.TheVariants.{Rechoked, Flushed}
use Rattle.bt_machine.specs.State.{EngineState, EngineView}
use Rattle.bt_machine.specs.View.{StepsTo}
use Rattle.bt_session.specs.declared.flushing.Flushing.{Flushing}
use Rattle.bt_session.specs.Flushing.{is_flush_due}
use Rattle.bt_session.specs.Session.{Follows, FollowsTurn}
use Rattle.bt_session.specs.Progress.{HasRun, place, AllWritten}
use Rattle.bt_session.specs.Ends.{IsBetweenTurns, HasEnded}
use Rattle.bt_session.specs.Parts.{GoesOn, IsTurnOver, IsPause}
use Rattle.bt_session.proofs.Progress.{went_on, written_all}

-- where none is due, after a turn bytes are read
read_is_next : (until : Bool) (flushing : Flushing) (taken : ℕ) (s : EngineState) (last : Answer) → is_flush_due flushing taken ≡ false → IsTurnOver flushing taken s last
    → IsBetweenTurns until flushing taken s last
read_is_next until flushing taken s (Rechoked (Ok out)) none over = none
read_is_next until flushing taken s _ none over = absurd over

-- where one is due, it is next
flush_is_next : (key : PeerKey) (until : Bool) (flushing : Flushing) (taken : ℕ) (s : EngineState) (last : Answer) → is_flush_due flushing taken ≡ true
    → IsTurnOver flushing taken s last → Follows key until flushing taken s last Flush
flush_is_next key until flushing taken s (Rechoked (Ok out)) due over = subst (λ d. FollowsTurn d key Flush) (sym due) refl
flush_is_next key until flushing taken s _ due over = absurd over

module _ {D : Type 0} (conduct : Conduct D) (dig : List ℕ → List ℕ) (key : PeerKey) (until : Bool) (flushing : Flushing) where
  -- none is due
  pub not_flushed : (taken : ℕ) (engine : EngineView D) → is_flush_due flushing taken ≡ false
      → IsPause conduct dig key until flushing taken engine (Ok tt) engine
  not_flushed taken engine none given first remaining contents h few = record {
    last = h.last;
    ran = h.ran;
    next = read_is_next until flushing taken engine.state h.last none h.next;
  }

  -- one is due: it is made, or it is refused
  pub flushed : (taken : ℕ) (old new : EngineView D) (answer : Result (Unit {0}) FlushError) → is_flush_due flushing taken ≡ true
      → StepsTo conduct dig old Flush (Flushed answer) new → IsPause conduct dig key until flushing taken old answer new
  flushed taken old new answer due step given first remaining contents h few = by answer step
    where
      ran : (answer : Result (Unit {0}) FlushError) → StepsTo conduct dig old Flush (Flushed answer) new
          → HasRun conduct dig key until flushing AllWritten first taken (Flushed answer) (place new remaining contents)
      ran answer step =
          went_on conduct dig key until flushing first AllWritten taken taken h.last (Flushed answer) Flush (place old remaining contents)
          (place new remaining contents) h.ran (flush_is_next key until flushing taken old.state h.last due h.next) step (omega arith) (Consumes-nil remaining)
          (written_all conduct dig key until flushing first taken h.last (Flushed answer) (place old remaining contents) contents h.ran (Appends-nil contents))

      by : (answer : Result (Unit {0}) FlushError) → StepsTo conduct dig old Flush (Flushed answer) new
          → MatchResult answer
          (λ done. GoesOn conduct dig key until flushing (IsBetweenTurns until) first taken (place new remaining contents))
          (λ error. HasEnded conduct dig key until flushing given first (Err error) (place new remaining contents))
      by (Ok done) step = record { last = Flushed (Ok done); ran = ran (Ok done) step; next = tt }
      by (Err error) step = record { taken = taken; few = few; last = Flushed (Err error); ran = ran (Err error) step; comes = (due, refl) }
