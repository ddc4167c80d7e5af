-- A session that goes on by one event.
use Rattle.std.proofs.Common.{[], ◌≡◌, ℕ, ◌+◌, Bool, List, ◌∷◌, ◌++◌, Option, refl, sym, ap, ◌∙◌, subst, cond, append-nil}
use Rattle.std.proofs.lemmas.List.Sums.{sum_by-append}
use Rattle.std.proofs.lemmas.Grind.{flat_map-append}
use Rattle.std.proofs.KnownBytes.{Appends-nil, Appends-trans, Appends-kept, Consumes-nil, Consumes-trans, Consumes-kept}
use Rattle.std.specs.Prelude.{flat_map, Ok}
use Rattle.std.specs.Io.KnownBytes.{Appends, Keeps, Consumes}
use Rattle.std.specs.List.{count_by}
use Rattle.bt_disk.specs.Conduct.{Conduct}
use Rattle.bt_book.specs.declared.names.PeerKey.{PeerKey}
use Rattle.bt_machine.specs.declared.answer.Frame.{Frame}
use Rattle.bt_machine.specs.declared.event.Event.{Event}
use Rattle.bt_machine.specs.declared.event.Event.TheVariants.{Connect}
use Rattle.bt_machine.specs.declared.event.Answer.{Answer}
use Rattle.bt_machine.specs.declared.event.Answer.TheVariants.{Connected, Rechoked, Flushed}
use Rattle.bt_machine.specs.Law.{sent_by}
use Rattle.bt_machine.specs.Output.{Output}
use Rattle.bt_machine.specs.State.{EngineState, EngineView}
use Rattle.bt_machine.specs.View.{StepsTo}
use Rattle.bt_session.specs.declared.flushing.Flushing.{Flushing}
use Rattle.bt_session.specs.Frames.{spelling, spellings, frames_to}
use Rattle.bt_session.specs.Session.{begins, goes_on, Follows, FollowsTurn, FeedsRead, is_turn}
use Rattle.bt_session.specs.Progress.{HowMuch, HasRun, Place, frames_in, fed_by, AllWritten, WrittenBefore}
use Rattle.bt_session.specs.Ends.{IsBetweenTurns}

-- a read follows between turns
pub read_follows : (key : PeerKey) (until : Bool) (flushing : Flushing) (taken : ℕ) (s : EngineState) (last : Answer) (event : Event)
    → IsBetweenTurns until flushing taken s last → FeedsRead key event → Follows key until flushing taken s last event
read_follows key until flushing taken s (Connected (Ok joined)) event between read = (between, read)
read_follows key until flushing taken s (Rechoked (Ok out)) event between read = subst (λ due. FollowsTurn due key event) (sym between) read
read_follows key until flushing taken s (Flushed (Ok done)) event between read = read
read_follows key until flushing taken s _ event between read = absurd between

frames_more : (key : PeerKey) (answers : List Answer) (answer : Answer) → frames_in key (answers ++ answer ∷ []) ≡ frames_in key answers ++ frames_to key (sent_by answer)
frames_more key answers answer =
    flat_map-append (λ a. frames_to key (sent_by a)) answers (answer ∷ [])
    ∙ ap (λ l. frames_in key answers ++ l) (append-nil (frames_to key (sent_by answer)))

fed_more : (events : List Event) (event : Event) → flat_map fed_by (events ++ event ∷ []) ≡ flat_map fed_by events ++ fed_by event
fed_more events event = flat_map-append fed_by events (event ∷ []) ∙ ap (λ l. flat_map fed_by events ++ l) (append-nil (fed_by event))

count_more : (events : List Event) (event : Event) → count_by is_turn (events ++ event ∷ []) ≡ count_by is_turn events + count_by is_turn (event ∷ [])
count_more events event = sum_by-append (λ x. cond (is_turn x) 1 0) events (event ∷ [])

-- nothing is written of an answer
pub nothing_written : (old new : Option (List ℕ)) (frames : List Frame) → Keeps old new → WrittenBefore frames old new frames
nothing_written old new frames kept = ([], refl, Appends-kept old old new [] (Appends-nil old) kept)

module _ {D : Type 0} (conduct : Conduct D) (dig : List ℕ → List ℕ) (key : PeerKey) (until : Bool) (flushing : Flushing) (first : Place D) where
  -- it begins
  pub begun : (how_much : HowMuch) (out : Output) (answer : Answer) (engine : EngineView D) (contents : Option (List ℕ)) → answer ≡ Connected (Ok (key, out))
      → StepsTo conduct dig first.engine Connect answer engine → how_much first.contents contents (frames_to key (sent_by answer))
      → HasRun conduct dig key until flushing how_much first 0 answer (record { engine = engine; remaining = first.remaining; contents = contents })
  begun how_much out answer engine contents is step written = record {
    events = Connect ∷ [];
    answers = answer ∷ [];
    session = begins out answer engine is step;
    count = refl;
    read = Consumes-nil first.remaining;
    written = subst (how_much first.contents contents) (sym (append-nil (frames_to key (sent_by answer)))) written;
  }

  -- it goes on
  pub went_on : (how_much : HowMuch) (turns more : ℕ) (last answer : Answer) (event : Event) (mid now : Place D)
      (h : HasRun conduct dig key until flushing AllWritten first turns last mid)
      → Follows key until flushing turns mid.engine.state last event → StepsTo conduct dig mid.engine event answer now.engine
      → turns + count_by is_turn (event ∷ []) ≡ more → Consumes mid.remaining now.remaining (fed_by event)
      → how_much first.contents now.contents (frames_in key h.answers ++ frames_to key (sent_by answer))
      → HasRun conduct dig key until flushing how_much first more answer now
  went_on how_much turns more last answer event mid now h follows step counted read written = record {
    events = h.events ++ event ∷ [];
    answers = h.answers ++ answer ∷ [];
    session = goes_on h.events h.answers last answer event mid.engine now.engine h.session
        (subst (λ n. Follows key until flushing n mid.engine.state last event) (sym h.count) follows) step;
    count = count_more h.events event ∙ ap (λ n. n + count_by is_turn (event ∷ [])) h.count ∙ counted;
    read = subst (Consumes first.remaining now.remaining) (sym (fed_more h.events event))
        (Consumes-trans first.remaining mid.remaining now.remaining _ _ h.read read);
    written = subst (how_much first.contents now.contents) (sym (frames_more key h.answers answer)) written;
  }

  -- what an answer sends to the peer is written
  pub written_all : (turns : ℕ) (last answer : Answer) (mid : Place D) (contents : Option (List ℕ))
      (h : HasRun conduct dig key until flushing AllWritten first turns last mid) → Appends mid.contents contents (spellings (frames_to key (sent_by answer)))
      → AllWritten first.contents contents (frames_in key h.answers ++ frames_to key (sent_by answer))
  written_all turns last answer mid contents h written =
      subst (Appends first.contents contents) (sym (flat_map-append spelling (frames_in key h.answers) (frames_to key (sent_by answer))))
      (Appends-trans first.contents mid.contents contents _ _ h.written written)

  -- or nothing of it
  pub written_before : (turns : ℕ) (last answer : Answer) (mid : Place D) (contents : Option (List ℕ))
      (h : HasRun conduct dig key until flushing AllWritten first turns last mid) → Keeps mid.contents contents
      → WrittenBefore (frames_to key (sent_by answer)) first.contents contents (frames_in key h.answers ++ frames_to key (sent_by answer))
  written_before turns last answer mid contents h kept =
      (frames_in key h.answers, refl, Appends-kept first.contents mid.contents contents _ h.written kept)

  -- a read that gave nothing, or failed
  pub read_none : (turns : ℕ) (last : Answer) (mid : Place D) (remaining : Option (List ℕ))
      → HasRun conduct dig key until flushing AllWritten first turns last mid → Keeps mid.remaining remaining
      → HasRun conduct dig key until flushing AllWritten first turns last (record mid { remaining = remaining })
  read_none turns last mid remaining h kept = record {
    events = h.events;
    answers = h.answers;
    session = h.session;
    count = h.count;
    read = Consumes-kept first.remaining mid.remaining remaining _ h.read kept;
    written = h.written;
  }
