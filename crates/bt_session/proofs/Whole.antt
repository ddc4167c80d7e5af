-- How a session begins, and how its turns are spent.
use Rattle.std.proofs.Common.{[], ◌≡◌, ◌≢◌, ℕ, inl, Bool, List, Option, Some, None, refl, subst, arith}
use Rattle.std.specs.Prelude.{Ok, Err, MatchOption}
use Rattle.bt_disk.specs.Conduct.{Conduct}
use Rattle.bt_book.specs.declared.names.PeerKey.{PeerKey}
use Rattle.bt_machine.specs.declared.event.Event.TheVariants.{Connect}
use Rattle.bt_machine.specs.declared.event.Answer.TheVariants.{Connected}
use Rattle.bt_machine.specs.Output.{Output, Sent}
use Rattle.bt_machine.specs.State.{EngineView}
use Rattle.bt_machine.specs.View.{StepsTo}
use Rattle.bt_session.specs.declared.flushing.Flushing.{Flushing}
use Rattle.bt_session.specs.declared.end.SessionEnd.{SessionEnd}
use Rattle.bt_session.specs.declared.end.SessionEnd.TheVariants.{TurnsSpent, WriteFault, Memory}
use Rattle.bt_session.specs.Frames.{frames_to, AreWritten}
use Rattle.bt_session.specs.Progress.{HasRun, Place, place, AllWritten, WrittenBefore, IsUnknown}
use Rattle.bt_session.specs.Ends.{IsBetweenTurns, HasEnded}
use Rattle.bt_session.specs.Parts.{GoesOn, EndsAfter}
use Rattle.bt_session.proofs.Progress.{begun, nothing_written}
use Rattle.bt_session.proofs.Parts.{ended_after, not_ended}

module _ {D : Type 0} (conduct : Conduct D) (dig : List ℕ → List ℕ) (key : PeerKey) (until : Bool) (flushing : Flushing) where
  -- the greeting is not written
  pub not_greeted : (given : ℕ) (old new : EngineView D) (remaining before after : Option (List ℕ)) (out : Output) (send : List Sent) (end : SessionEnd)
      → StepsTo conduct dig old Connect (Connected (Ok (key, out))) new → send ≡ out.send → AreWritten before after (frames_to key send) (Err end)
      → HasEnded conduct dig key until flushing given (place old remaining before) (Ok end) (place new remaining after)
  not_greeted given old new remaining before after out send Memory step is written = record {
    taken = 0;
    few = omega arith;
    last = Connected (Ok (key, out));
    ran =
        begun conduct dig key until flushing (place old remaining before) (WrittenBefore (frames_to key out.send)) out (Connected (Ok (key, out))) new after refl step
        (nothing_written before after (frames_to key out.send) written.0);
    comes = inl (tt, subst (λ (l : List Sent). frames_to key l ≢ []) is written.1);
  }
  not_greeted given old new remaining before after out send WriteFault step is written = record {
    taken = 0;
    few = omega arith;
    last = Connected (Ok (key, out));
    ran = begun conduct dig key until flushing (place old remaining before) IsUnknown out (Connected (Ok (key, out))) new after refl step tt;
    comes = tt;
  }
  not_greeted given old new remaining before after out send _ step is written = absurd written

  -- it is written, and the session ended or takes its first turn
  pub greeted : (given : ℕ) (old new : EngineView D) (remaining before after : Option (List ℕ)) (out : Output) (send : List Sent) (end : Option SessionEnd)
      → StepsTo conduct dig old Connect (Connected (Ok (key, out))) new → send ≡ out.send → AreWritten before after (frames_to key send) (Ok tt)
      → EndsAfter until new.state None end
      → MatchOption end (GoesOn conduct dig key until flushing (IsBetweenTurns until) (place old remaining before) 0 (place new remaining after))
      (λ e. HasEnded conduct dig key until flushing given (place old remaining before) (Ok e) (place new remaining after))
  greeted given old new remaining before after out send end step is written ends = by end ends
    where
      ran : HasRun conduct dig key until flushing AllWritten (place old remaining before) 0 (Connected (Ok (key, out))) (place new remaining after)
      ran = begun conduct dig key until flushing (place old remaining before) AllWritten out (Connected (Ok (key, out))) new after refl step
          (subst (λ l. AreWritten before after (frames_to key l) (Ok tt)) is written)

      by : (end : Option SessionEnd) → EndsAfter until new.state None end
          → MatchOption end (GoesOn conduct dig key until flushing (IsBetweenTurns until) (place old remaining before) 0 (place new remaining after))
          (λ e. HasEnded conduct dig key until flushing given (place old remaining before) (Ok e) (place new remaining after))
      by None e = record { last = Connected (Ok (key, out)); ran = ran; next = (not_ended until new.state None e).1 }
      by (Some end) e =
          ended_after conduct dig key until flushing given 0 (place old remaining before) (place new remaining after) (Connected (Ok (key, out))) None end
          (omega arith) ran (λ why closed. absurd cc) (λ stays. tt) e

  -- all turns were taken
  pub spent : (given taken : ℕ) (first now : Place D) → taken ≡ given → GoesOn conduct dig key until flushing (IsBetweenTurns until) first taken now
      → HasEnded conduct dig key until flushing given first (Ok TurnsSpent) now
  spent given taken first now all h = record { taken = taken; few = omega arith; last = h.last; ran = h.ran; comes = (h.next, all) }
