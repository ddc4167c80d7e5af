-- What a read, and the feeding of what it gave, do to a session.
use Rattle.std.proofs.Common.{[], ◌≡◌, ◌≢◌, ℕ, ◌+◌, ◌≤◌, Bool, List, length, take, Option, Some, None, refl, sym, ap, ◌∙◌, subst, arith}
use Rattle.std.proofs.lemmas.List.{length-take-le}
use Rattle.std.proofs.KnownBytes.{Appends-nil}
use Rattle.std.specs.Prelude.{Result, Ok, Err, MatchResult, IfErr}
use Rattle.std.specs.Io.KnownBytes.{Consumes, Keeps}
use Rattle.bt_disk.specs.Conduct.{Conduct}
use Rattle.bt_book.specs.declared.names.PeerKey.{PeerKey}
use Rattle.bt_machine.specs.declared.error.EngineError.{EngineError}
use Rattle.bt_machine.specs.declared.error.EngineError.TheVariants.{OutOfMemory}
use Rattle.bt_machine.specs.declared.event.Event.TheVariants.{Feed, Next}
use Rattle.bt_machine.specs.declared.event.Answer.TheVariants.{Fed}
use Rattle.bt_machine.specs.State.{EngineView}
use Rattle.bt_machine.specs.View.{StepsTo}
use Rattle.bt_session.specs.declared.flushing.Flushing.{Flushing}
use Rattle.bt_session.specs.declared.end.SessionEnd.{SessionEnd}
use Rattle.bt_session.specs.declared.end.SessionEnd.TheVariants.{Ended, ReadFault, Memory}
use Rattle.bt_session.specs.Session.{Follows, read_length}
use Rattle.bt_session.specs.Progress.{Place, place, AllWritten}
use Rattle.bt_session.specs.Ends.{IsBetweenTurns, HasEnded}
use Rattle.bt_session.specs.Parts.{GoesOn, Awaits, IsGiven}
use Rattle.bt_session.proofs.Progress.{read_follows, went_on, written_all, read_none}
use Rattle.bt_session.proofs.Parts.{refused}

-- no byte was taken
none_taken : (old new : Option (List ℕ)) (bytes : List ℕ) → bytes ≡ [] → Consumes old new bytes → Keeps old new
none_taken None new bytes none taken = tt
none_taken (Some x) None bytes none taken = absurd taken
none_taken (Some x) (Some y) bytes none taken = cc

module _ {D : Type 0} (conduct : Conduct D) (dig : List ℕ → List ℕ) (key : PeerKey) (until : Bool) (flushing : Flushing) where
  -- the read failed
  pub read_failed : (given taken : ℕ) (first : Place D) (engine : EngineView D) (remaining left contents : Option (List ℕ)) (end : SessionEnd) → end ≡ ReadFault
      → Keeps remaining left → GoesOn conduct dig key until flushing (IsBetweenTurns until) first taken (place engine remaining contents) → taken + 1 ≤ given
      → HasEnded conduct dig key until flushing given first (Ok end) (place engine left contents)
  read_failed given taken first engine remaining left contents end is kept h few =
      subst (λ (x : SessionEnd). HasEnded conduct dig key until flushing given first (Ok x) (place engine left contents)) (sym is)
      (record {
        taken = taken;
        few = omega arith;
        last = h.last;
        ran = read_none conduct dig key until flushing first taken h.last (place engine remaining contents) left h.ran kept;
        comes = (h.next, omega arith);
      })

  -- the reader had no more
  pub read_ended : (given taken : ℕ) (first : Place D) (engine : EngineView D) (remaining left contents : Option (List ℕ)) (count : ℕ) (buffer : List ℕ)
      → count ≡ 0 → IsGiven remaining left count buffer
      → GoesOn conduct dig key until flushing (IsBetweenTurns until) first taken (place engine remaining contents) → taken + 1 ≤ given
      → HasEnded conduct dig key until flushing given first (Ok Ended) (place engine left contents)
  read_ended given taken first engine remaining left contents count buffer zero read h few = record {
    taken = taken;
    few = omega arith;
    last = h.last;
    ran =
        read_none conduct dig key until flushing first taken h.last (place engine remaining contents) left h.ran
        (none_taken remaining left (take count buffer) (ap (λ n. take n buffer) zero) read.taken);
    comes = (h.next, omega arith, read.ended zero);
  }

  -- what was read is fed
  pub fed_part : (given taken : ℕ) (first : Place D) (old new : EngineView D) (remaining left contents : Option (List ℕ)) (count : ℕ) (buffer bytes : List ℕ)
      (answer : Result (Unit {0}) EngineError) → StepsTo conduct dig old (Feed key bytes) (Fed answer) new
      → IfErr answer (λ error. error ≡ OutOfMemory) → IsGiven remaining left count buffer → count ≢ 0 → length buffer ≡ read_length → bytes ≡ take count buffer
      → GoesOn conduct dig key until flushing (IsBetweenTurns until) first taken (place old remaining contents) → taken + 1 ≤ given
      → MatchResult answer
      (λ done. GoesOn conduct dig key until flushing (Awaits key until (Next key)) first (taken + 1) (place new left contents))
      (λ error. HasEnded conduct dig key until flushing given first (Ok Memory) (place new left contents))
  fed_part given taken first old new remaining left contents count buffer bytes answer step error read some all is h turns = by answer step error
    where
      size : length bytes ≡ count
      size = ap length is ∙ length-take-le count buffer read.within

      follows : Follows key until flushing taken old.state h.last (Feed key bytes)
      follows = read_follows key until flushing taken old.state h.last (Feed key bytes) h.next (bytes, omega (arith, size, some), omega (arith, size, read.within, all), refl)

      taken_of : Consumes remaining left bytes
      taken_of = subst (Consumes remaining left) (sym is) read.taken

      by : (answer : Result (Unit {0}) EngineError) → StepsTo conduct dig old (Feed key bytes) (Fed answer) new
          → IfErr answer (λ error. error ≡ OutOfMemory)
          → MatchResult answer
          (λ done. GoesOn conduct dig key until flushing (Awaits key until (Next key)) first (taken + 1) (place new left contents))
          (λ error. HasEnded conduct dig key until flushing given first (Ok Memory) (place new left contents))
      by (Ok done) step error = record {
        last = Fed (Ok done);
        ran =
            went_on conduct dig key until flushing first AllWritten taken (taken + 1) h.last (Fed (Ok done)) (Feed key bytes) (place old remaining contents)
            (place new left contents) h.ran follows step refl taken_of
            (written_all conduct dig key until flushing first taken h.last (Fed (Ok done)) (place old remaining contents) contents h.ran (Appends-nil contents));
        next = refl;
      }
      by (Err error) step is =
          refused conduct dig key until flushing given taken (taken + 1) first old new remaining left contents h.last (Feed key bytes) (Fed (Err error)) turns
          h.ran follows step refl taken_of is
