-- What a wire event, and the choice of peers to serve, do to a session.
use Rattle.std.proofs.Common.{◌≡◌, ℕ, ◌≤◌, Bool, true, List, Option, Some, None, refl, sym, ◌∙◌, subst, arith}
use Rattle.std.proofs.lemmas.Result.{MatchResult-weaker}
use Rattle.std.proofs.KnownBytes.{Appends-nil, Consumes-nil}
use Rattle.std.specs.Prelude.{Result, Ok, Err, MatchResult, MatchOption}
use Rattle.std.specs.declared.alloc.AllocError.{AllocError}
use Rattle.bt_disk.specs.Conduct.{Conduct}
use Rattle.bt_book.specs.declared.names.PeerKey.{PeerKey}
use Rattle.bt_machine.specs.declared.answer.Why.{Why}
use Rattle.bt_machine.specs.declared.error.EngineError.{EngineError}
use Rattle.bt_machine.specs.declared.error.EngineError.TheVariants.{OutOfMemory}
use Rattle.bt_machine.specs.declared.event.Event.TheVariants.{Next, Rechoke}
use Rattle.bt_machine.specs.declared.event.Answer.TheVariants.{Stepped, Rechoked}
use Rattle.bt_machine.specs.Output.{Output, Sent}
use Rattle.bt_machine.specs.State.{EngineState, EngineView}
use Rattle.bt_machine.specs.View.{StepsTo}
use Rattle.bt_session.specs.declared.flushing.Flushing.{Flushing}
use Rattle.bt_session.specs.declared.end.SessionEnd.{SessionEnd}
use Rattle.bt_session.specs.declared.end.SessionEnd.TheVariants.{Memory}
use Rattle.bt_session.specs.Frames.{frames_to, AllFit, AreWritten}
use Rattle.bt_session.specs.Progress.{HasRun, Place, place, AllWritten}
use Rattle.bt_session.specs.Ends.{HasEnded}
use Rattle.bt_session.specs.Parts.{GoesOn, Awaits, IsTurnOver, EndsAfter}
use Rattle.bt_session.specs.PeerSteps.{StaysAlone, LeavesPeer}
use Rattle.bt_session.proofs.Progress.{went_on, written_all}
use Rattle.bt_session.proofs.Parts.{sent, refused, ended_after, not_ended}

-- the frames of an output can be written
pub fits_too : (send out : List Sent) → send ≡ out → AllFit out → AllFit send
fits_too send out is fit = subst AllFit (sym is) fit

-- the peer stays after an output that does not close it, with fewer bytes
pub stays_alone : (key : PeerKey) (until : Bool) (old new : EngineState) (out : Output) (close : Option Why) → LeavesPeer key old (Ok (Some out)) new
    → close ≡ out.close → EndsAfter until new close None → StaysAlone key old new true
stays_alone key until old new out close leaves is ends = leaves.0 (sym is ∙ (not_ended until new close ends).0)

module _ {D : Type 0} (conduct : Conduct D) (dig : List ℕ → List ℕ) (key : PeerKey) (until : Bool) (flushing : Flushing) where
  -- an output is not written
  pub not_sent : (given taken : ℕ) (first : Place D) (old new : EngineView D) (remaining before after : Option (List ℕ)) (out : Output)
      (send : List Sent) (end : SessionEnd) → StepsTo conduct dig old (Next key) (Stepped (Ok (Some out))) new → send ≡ out.send
      → AreWritten before after (frames_to key send) (Err end)
      → GoesOn conduct dig key until flushing (Awaits key until (Next key)) first taken (place old remaining before) → taken ≤ given
      → HasEnded conduct dig key until flushing given first (Ok end) (place new remaining after)
  not_sent given taken first old new remaining before after out send end step is written h few =
      sent conduct dig key until flushing given taken first old new remaining before after h.last (Next key) (Stepped (Ok (Some out))) (Err end) few h.ran h.next step
      (record { no_turn = refl; no_bytes = refl }) tt (subst (λ l. AreWritten before after (frames_to key l) (Err end)) is written)

  -- it is written, and the session ended or takes the next event
  pub output_sent : (given taken : ℕ) (first : Place D) (old new : EngineView D) (remaining before after : Option (List ℕ)) (out : Output)
      (send : List Sent) (close : Option Why) (end : Option SessionEnd) → StepsTo conduct dig old (Next key) (Stepped (Ok (Some out))) new
      → send ≡ out.send → close ≡ out.close → AreWritten before after (frames_to key send) (Ok tt) → EndsAfter until new.state close end
      → GoesOn conduct dig key until flushing (Awaits key until (Next key)) first taken (place old remaining before) → taken ≤ given
      → MatchOption end
      (GoesOn conduct dig key until flushing (Awaits key until (Next key)) first taken (place new remaining after))
      (λ e. HasEnded conduct dig key until flushing given first (Ok e) (place new remaining after))
  output_sent given taken first old new remaining before after out send close end step is closed written ends h few =
      by end (subst (λ (x : Option Why). EndsAfter until new.state x end) closed ends)
    where
      ran : HasRun conduct dig key until flushing AllWritten first taken (Stepped (Ok (Some out))) (place new remaining after)
      ran =
          sent conduct dig key until flushing given taken first old new remaining before after h.last (Next key) (Stepped (Ok (Some out))) (Ok tt) few h.ran
          h.next step (record { no_turn = refl; no_bytes = refl }) tt (subst (λ l. AreWritten before after (frames_to key l) (Ok tt)) is written)

      by : (end : Option SessionEnd) → EndsAfter until new.state out.close end → MatchOption end
          (GoesOn conduct dig key until flushing (Awaits key until (Next key)) first taken (place new remaining after))
          (λ e. HasEnded conduct dig key until flushing given first (Ok e) (place new remaining after))
      by None e =
          let rest = not_ended until new.state out.close e in record { last = Stepped (Ok (Some out)); ran = ran; next = (rest.0, rest.1, refl) }
      by (Some end) e =
          ended_after conduct dig key until flushing given taken first (place new remaining after) (Stepped (Ok (Some out))) out.close end few ran
          (λ why closed. closed) (λ stays. stays) e

  -- no event had come whole
  pub none_came : (taken : ℕ) (first : Place D) (old new : EngineView D) (remaining contents : Option (List ℕ))
      → StepsTo conduct dig old (Next key) (Stepped (Ok None)) new
      → GoesOn conduct dig key until flushing (Awaits key until (Next key)) first taken (place old remaining contents)
      → GoesOn conduct dig key until flushing (Awaits key until Rechoke) first taken (place new remaining contents)
  none_came taken first old new remaining contents step h = record {
    last = Stepped (Ok None);
    ran =
        went_on conduct dig key until flushing first AllWritten taken taken h.last (Stepped (Ok None)) (Next key) (place old remaining contents)
        (place new remaining contents) h.ran h.next step (omega arith) (Consumes-nil remaining)
        (written_all conduct dig key until flushing first taken h.last (Stepped (Ok None)) (place old remaining contents) contents h.ran (Appends-nil contents));
    next = refl;
  }

  -- memory was refused in the event
  pub not_taken : (given taken : ℕ) (first : Place D) (old new : EngineView D) (remaining contents : Option (List ℕ)) (error : EngineError)
      → StepsTo conduct dig old (Next key) (Stepped (Err error)) new → error ≡ OutOfMemory
      → GoesOn conduct dig key until flushing (Awaits key until (Next key)) first taken (place old remaining contents) → taken ≤ given
      → HasEnded conduct dig key until flushing given first (Ok Memory) (place new remaining contents)
  not_taken given taken first old new remaining contents error step is h few =
      refused conduct dig key until flushing given taken taken first old new remaining remaining contents h.last (Next key) (Stepped (Err error)) few h.ran h.next
      step (omega arith) (Consumes-nil remaining) is

  -- the peers to serve are chosen, and what is sent is written or it is not
  pub choice_sent : (given taken : ℕ) (first : Place D) (old new : EngineView D) (remaining before after : Option (List ℕ)) (out : Output) (send : List Sent)
      (result : Result (Unit {0}) SessionEnd) → StepsTo conduct dig old Rechoke (Rechoked (Ok out)) new → send ≡ out.send
      → AreWritten before after (frames_to key send) result
      → GoesOn conduct dig key until flushing (Awaits key until Rechoke) first taken (place old remaining before) → taken ≤ given
      → MatchResult result
      (λ done. GoesOn conduct dig key until flushing IsTurnOver first taken (place new remaining after))
      (λ end. HasEnded conduct dig key until flushing given first (Ok end) (place new remaining after))
  choice_sent given taken first old new remaining before after out send result step is written h few =
      MatchResult-weaker result
      (sent conduct dig key until flushing given taken first old new remaining before after h.last Rechoke (Rechoked (Ok out)) result few h.ran h.next step
      (record { no_turn = refl; no_bytes = refl }) tt (subst (λ l. AreWritten before after (frames_to key l) result) is written))
      (λ done ran. record { last = Rechoked (Ok out); ran = ran; next = tt }) (λ end ended. ended)

  -- memory was refused in the choice
  pub not_chosen : (given taken : ℕ) (first : Place D) (old new : EngineView D) (remaining contents : Option (List ℕ)) (error : AllocError)
      → StepsTo conduct dig old Rechoke (Rechoked (Err error)) new
      → GoesOn conduct dig key until flushing (Awaits key until Rechoke) first taken (place old remaining contents) → taken ≤ given
      → HasEnded conduct dig key until flushing given first (Ok Memory) (place new remaining contents)
  not_chosen given taken first old new remaining contents error step h few =
      refused conduct dig key until flushing given taken taken first old new remaining remaining contents h.last Rechoke (Rechoked (Err error)) few h.ran h.next
      step (omega arith) (Consumes-nil remaining) tt
