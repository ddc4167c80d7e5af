-- What one event, and a write of what it sends, does to a session.
use Rattle.std.proofs.Common.{[], ◌≡◌, ℕ, ◌+◌, ◌≤◌, inl, inr, Bool, List, ◌∷◌, Option, Some, None, refl, sym, ap, ◌∙◌, subst, arith}
use Rattle.std.proofs.KnownBytes.{Consumes-nil, Keeps-refl}
use Rattle.std.specs.Prelude.{Result, Ok, Err, MatchResult}
use Rattle.std.specs.Io.KnownBytes.{Consumes}
use Rattle.std.specs.List.{count_by}
use Rattle.bt_disk.specs.Conduct.{Conduct}
use Rattle.bt_book.specs.declared.names.PeerKey.{PeerKey}
use Rattle.bt_machine.specs.declared.answer.Why.{Why}
use Rattle.bt_machine.specs.declared.event.Event.{Event}
use Rattle.bt_machine.specs.declared.event.Answer.{Answer}
use Rattle.bt_machine.specs.Law.{sent_by}
use Rattle.bt_machine.specs.State.{EngineState, EngineView}
use Rattle.bt_machine.specs.View.{StepsTo}
use Rattle.bt_session.specs.declared.flushing.Flushing.{Flushing}
use Rattle.bt_session.specs.declared.end.SessionEnd.{SessionEnd}
use Rattle.bt_session.specs.declared.end.SessionEnd.TheVariants.{Closed, WriteFault, Memory}
use Rattle.bt_session.specs.Frames.{frames_to, AreWritten}
use Rattle.bt_session.specs.Session.{Follows, IsDone, is_turn}
use Rattle.bt_session.specs.Progress.{HasRun, Place, place, fed_by, AllWritten, WrittenBefore, IsUnknown}
use Rattle.bt_session.specs.Ends.{HasOutput, IsRefused, ClosesPeer, MayBeDone, HasEnded}
use Rattle.bt_session.specs.Parts.{EndsAfter}
use Rattle.bt_session.proofs.Progress.{went_on, written_all, written_before}

-- an event that feeds nothing
pub record IsQuiet (event : Event) : Type 0 where
  pub no_turn : count_by is_turn (event ∷ []) ≡ 0
  pub no_bytes : fed_by event ≡ []

-- the peer was not closed, and the session is not done
pub not_ended : (until : Bool) (s : EngineState) (close : Option Why) → EndsAfter until s close None → (close ≡ None) × ¬ IsDone until s
not_ended until s None not_done = (refl, not_done)
not_ended until s (Some why) e = absurd cc

module _ {D : Type 0} (conduct : Conduct D) (dig : List ℕ → List ℕ) (key : PeerKey) (until : Bool) (flushing : Flushing) where
  -- an answer is written, or it is not
  pub sent : (given taken : ℕ) (first : Place D) (old new : EngineView D) (remaining before after : Option (List ℕ)) (last : Answer) (event : Event) (answer : Answer)
      (result : Result (Unit {0}) SessionEnd) → taken ≤ given → HasRun conduct dig key until flushing AllWritten first taken last (place old remaining before)
      → Follows key until flushing taken old.state last event → StepsTo conduct dig old event answer new → IsQuiet event → HasOutput answer
      → AreWritten before after (frames_to key (sent_by answer)) result
      → MatchResult result (λ done. HasRun conduct dig key until flushing AllWritten first taken answer (place new remaining after))
      (λ end. HasEnded conduct dig key until flushing given first (Ok end) (place new remaining after))
  sent given taken first old new remaining before after last event answer result few h follows step quiet output written = by result written
    where
      counted : taken + count_by is_turn (event ∷ []) ≡ taken
      counted = ap (λ n. taken + n) quiet.no_turn ∙ (omega arith)

      read : Consumes remaining remaining (fed_by event)
      read = subst (Consumes remaining remaining) (sym quiet.no_bytes) (Consumes-nil remaining)

      by : (result : Result (Unit {0}) SessionEnd) → AreWritten before after (frames_to key (sent_by answer)) result
          → MatchResult result (λ done. HasRun conduct dig key until flushing AllWritten first taken answer (place new remaining after))
          (λ end. HasEnded conduct dig key until flushing given first (Ok end) (place new remaining after))
      by (Ok done) w =
          went_on conduct dig key until flushing first AllWritten taken taken last answer event (place old remaining before) (place new remaining after) h follows
          step counted read (written_all conduct dig key until flushing first taken last answer (place old remaining before) after h w)
      by (Err Memory) w = record {
        taken = taken;
        few = few;
        last = answer;
        ran =
            went_on conduct dig key until flushing first (WrittenBefore (frames_to key (sent_by answer))) taken taken last answer event (place old remaining before) (place new remaining after) h
            follows step counted read (written_before conduct dig key until flushing first taken last answer (place old remaining before) after h w.0);
        comes = inl (output, w.1);
      }
      by (Err WriteFault) w = record {
        taken = taken;
        few = few;
        last = answer;
        ran =
            went_on conduct dig key until flushing first IsUnknown taken taken last answer event (place old remaining before) (place new remaining after) h
            follows step counted read tt;
        comes = output;
      }
      by (Err _) w = absurd w

  -- memory was refused in an event
  pub refused : (given taken more : ℕ) (first : Place D) (old new : EngineView D) (remaining left contents : Option (List ℕ)) (last : Answer) (event : Event)
      (answer : Answer) → more ≤ given → HasRun conduct dig key until flushing AllWritten first taken last (place old remaining contents)
      → Follows key until flushing taken old.state last event → StepsTo conduct dig old event answer new → taken + count_by is_turn (event ∷ []) ≡ more
      → Consumes remaining left (fed_by event) → IsRefused answer → HasEnded conduct dig key until flushing given first (Ok Memory) (place new left contents)
  refused given taken more first old new remaining left contents last event answer few h follows step counted read is = record {
    taken = more;
    few = few;
    last = answer;
    ran =
        went_on conduct dig key until flushing first (WrittenBefore (frames_to key (sent_by answer))) taken more last answer event (place old remaining contents) (place new left contents) h follows
        step counted read
        (written_before conduct dig key until flushing first taken last answer (place old remaining contents) contents h (Keeps-refl contents));
    comes = inr is;
  }

  -- after an output the session ended
  pub ended_after : (given taken : ℕ) (first now : Place D) (last : Answer) (close : Option Why) (end : SessionEnd) → taken ≤ given
      → HasRun conduct dig key until flushing AllWritten first taken last now → ((why : Why) → close ≡ Some why → ClosesPeer why last)
      → (close ≡ None → MayBeDone last) → EndsAfter until now.engine.state close (Some end)
      → HasEnded conduct dig key until flushing given first (Ok end) now
  ended_after given taken first now last (Some why) end few h closes may e =
      let is : Closed why ≡ end = cc in
      subst (λ (x : SessionEnd). HasEnded conduct dig key until flushing given first (Ok x) now) is
      (record { taken = taken; few = few; last = last; ran = h; comes = closes why refl })
  ended_after given taken first now last None end few h closes may (is, done) =
      subst (λ (x : SessionEnd). HasEnded conduct dig key until flushing given first (Ok x) now) (sym is)
      (record { taken = taken; few = few; last = last; ran = h; comes = (may refl, done) })
