-- Lemmas on the events of a swarm, and on what ends it.
use Rattle.std.proofs.Common.{[], ◌≡◌, inl, inr, ℕ, false, List, Result, Ok, Err, sym, subst, ap, ◌∙◌, arith}
use Rattle.std.specs.Prelude.{⊤, Option, Contains, OnOk}
use Rattle.std.specs.Io.KnownBytes.{Appends}
use Rattle.std.proofs.lemmas.List.Elements.{All-nil, Contains-push_cases}
use Rattle.bt_disk.specs.Conduct.{Conduct}
use Rattle.bt_check.specs.declared.fault.Fault.{Fault}
use Rattle.bt_files.specs.Ending.{IsEndFault}
use Rattle.bt_files.specs.Store.{IsFlushFault, flush_fault}
use Rattle.bt_files.proofs.Unlogged.{flush_fails, flush_fault_before}
use Rattle.bt_files.proofs.Faults.{call_ends}
use Rattle.bt_machine.specs.declared.error.FlushError.{FlushError}
use Rattle.bt_machine.specs.declared.event.Event.{Event}
use Rattle.bt_machine.specs.declared.event.Event.TheVariants.{Flush}
use Rattle.bt_machine.specs.declared.event.Answer.{Answer}
use Rattle.bt_machine.specs.declared.event.Answer.TheVariants.{Flushed}
use Rattle.bt_machine.specs.State.{EngineView}
use Rattle.bt_machine.specs.View.{StepsTo}
use Rattle.bt_engine.specs.Leads.{LeadsTo, none as no_event, both as one_and_other}
use Rattle.bt_book.specs.declared.names.PeerKey.{PeerKey}
use Rattle.bt_session.specs.declared.end.SessionEnd.{SessionEnd}
use Rattle.bt_session.specs.declared.end.SessionEnd.TheVariants.{Complete, Ended, Closed, TurnsSpent, ReadFault, WriteFault, Memory}
use Rattle.bt_swarm.specs.declared.member.Member.{Member}
use Rattle.bt_swarm.specs.Passing.{Passing, came}
use Rattle.bt_swarm.specs.Swarm.{HasGone, HasStayed, HasSwarmed}
use Rattle.bt_swarm.specs.Causes.{HasCause, IsRefused}
use Rattle.bt_swarm.specs.Runs.{Happening, Runs, none, one_more}
use Rattle.bt_swarm.specs.Steps.{Steps}
use Rattle.bt_swarm.proofs.Swarming.{runs_lead}
use Rattle.bt_machine.proofs.Lists.{contains_none}
use Rattle.bt_together.specs.Together.{FailsAtOnce, HasServedTogether, IsRefusedFlush, Swarms}
use Rattle.bt_together.specs.Seating.{gone_in, nobody, seated}
use Rattle.bt_together.specs.ServedLines.{Tells, gone_lines}
use Rattle.bt_together.specs.declared.seating.Seating.{Seating}
use Rattle.bt_together.proofs.Numbering.{are_of_count}
use Rattle.bt_together.proofs.Numbers.{came_counts, gone_counts}

abbrev happened : Event → Answer → Happening
happened event answer = (event, answer)

module _ {D : Type 0} (conduct : Conduct D) (dig : List ℕ → List ℕ) where
  last_refused : (a mid now : EngineView D) (history : List Happening) (event : Event) (answer : Answer) (error : FlushError) (fault : Fault)
      → Runs (Steps conduct dig) a history mid → Steps conduct dig mid event answer now
      → happened event answer ≡ happened Flush (Flushed (Err error))
      → fault ≡ flush_fault error → IsRefusedFlush conduct dig a fault
  last_refused a mid now history event answer error fault ran step is told = record {
    mid = mid;
    led = runs_lead conduct dig a mid history ran;
    error = error;
    last = now;
    refused = subst (λ (h : Happening). StepsTo conduct dig mid h.0 h.1 now) is step.step;
    told = told;
  }

  -- a flush among events was refused
  refused_in : (a b : EngineView D) (history : List Happening) (error : FlushError) (fault : Fault) → Runs (Steps conduct dig) a history b
      → Contains history (Flush, Flushed (Err error)) → fault ≡ flush_fault error → IsRefusedFlush conduct dig a fault
  refused_in a b history error fault none there told = absurd (contains_none there)
  refused_in a b history error fault (one_more before event answer mid now ran step) there told =
      elim (Contains-push_cases before (event, answer) (Flush, Flushed (Err error)) there) [
        | inl earlier ↦ refused_in a mid before error fault ran earlier told
        | inr is ↦ last_refused a mid now before event answer error fault ran step is told
      ]

  -- of a swarm
  pub swarm_refused : (old new : EngineView D) (error : FlushError) (fault : Fault) → IsRefused conduct dig old error new
      → fault ≡ flush_fault error → FailsAtOnce conduct dig old fault
  swarm_refused old new error fault refused told = inr (refused_in old new refused.history error fault refused.runs refused.refused told)

  -- of a last flush
  pub flush_refused : (old new : EngineView D) (fault : Fault)
      → (error : FlushError) × (fault ≡ flush_fault error) × StepsTo conduct dig old Flush (Flushed (Err error)) new → FailsAtOnce conduct dig old fault
  flush_refused old new fault refused =
      inr (record { mid = old; led = no_event old; error = refused.0; last = new; refused = refused.2; told = refused.1 })

  -- behind events that came before
  pub fails_behind : (old mid : EngineView D) (fault : Fault) → LeadsTo conduct dig old mid → FailsAtOnce conduct dig mid fault → FailsAtOnce conduct dig old fault
  fails_behind old mid fault led (inl call) = inl call
  fails_behind old mid fault led (inr refused) = inr (record {
    mid = refused.mid;
    led = one_and_other old mid refused.mid led refused.led;
    error = refused.error;
    last = refused.last;
    refused = refused.refused;
    told = refused.told;
  })

  -- it is a fault that ends a fetch or a seed
  pub fails_at_end : (old : EngineView D) (fault : Fault) → FailsAtOnce conduct dig old fault → IsEndFault old.log fault
  fails_at_end old fault (inl call) = call_ends old.log fault call
  fails_at_end old fault (inr refused) =
      inl (flush_fault_before conduct dig refused.led fault
      (subst (λ told. IsFlushFault refused.mid.log told) (sym refused.told) (flush_fails conduct dig refused.mid refused.last refused.error refused.refused)))

-- ---- a connection is known by its bytes

module _ {D R W : Type 0} (conduct : Conduct D) (dig : List ℕ → List ℕ) (read_fault write_fault : Type 0) (gives : R → W → Type 0)
    (remaining : R → Option (List ℕ)) (contents : W → Option (List ℕ)) (first : EngineView D) where
  abbrev bytes_of : Member R W → Member (Option (List ℕ)) (Option (List ℕ))
  bytes_of member = record {
    key = member.key;
    place = member.place;
    reader = remaining member.reader;
    writer = contents member.writer;
    may_have_events = member.may_have_events;
    end = member.end;
  }

  caused_by : (history : List Happening) (key : PeerKey) (end : SessionEnd) → HasCause conduct dig read_fault write_fault first history key end
      → HasCause conduct dig ⊤ ⊤ first history key end
  caused_by history key Complete c = c
  caused_by history key Ended c = c
  caused_by history key (Closed why) c = c
  caused_by history key TurnsSpent c = c
  caused_by history key ReadFault c = tt
  caused_by history key WriteFault c = tt
  caused_by history key Memory c = c

  stayed_by_bytes : (history : List Happening) (now : Member R W)
      → HasStayed conduct dig read_fault write_fault gives remaining contents first history now
      → HasStayed conduct dig ⊤ ⊤ (λ given taken. ⊤) (λ (b : Option (List ℕ)). b) (λ (b : Option (List ℕ)). b) first history (bytes_of now)
  stayed_by_bytes history now s = record {
    reader = remaining s.reader;
    writer = contents s.writer;
    given = tt;
    before = s.before;
    greeting = s.greeting;
    since = s.since;
    splits = s.splits;
    read = s.read;
    written = s.written;
    caused = λ end ended. caused_by history now.key end (s.caused end ended);
    unclosed = s.unclosed;
  }

  gone_by_bytes : (history : List Happening) (key : PeerKey) (place : ℕ) (end : SessionEnd)
      → HasGone conduct dig read_fault write_fault gives remaining contents first history key place end
      → HasGone conduct dig ⊤ ⊤ (λ given taken. ⊤) (λ (b : Option (List ℕ)). b) (λ (b : Option (List ℕ)). b) first history key place end
  gone_by_bytes history key place end g = record {
    until = g.until;
    after = g.after;
    splits = g.splits;
    member = bytes_of g.member;
    same_key = g.same_key;
    same_place = g.same_place;
    ended = g.ended;
    stayed = stayed_by_bytes g.until g.member g.stayed;
  }

  -- a whole swarm
  pub swarms_by_bytes : (passed : List Passing) (now : EngineView D)
      → HasSwarmed conduct dig read_fault write_fault gives remaining contents first passed now [] → Swarms conduct dig first passed now
  swarms_by_bytes passed now s = record {
    history = s.history;
    runs = s.runs;
    here = All-nil (HasStayed conduct dig ⊤ ⊤ (λ given taken. ⊤) (λ (b : Option (List ℕ)). b) (λ (b : Option (List ℕ)). b) first s.history);
    at_place = All-nil (λ (m : Member (Option (List ℕ)) (Option (List ℕ))). Contains passed (came m.place));
    each = λ key joined. elim (s.each key joined) [
      | inl here ↦ absurd (contains_none here.1)
      | inr gone ↦ inr (gone.0, gone.1, gone_by_bytes s.history key gone.0 gone.1 gone.2, gone.3, gone.4)
    ];
    told = λ place end was. elim (s.told place end was) [
      | inl gone ↦ inl (gone.0, gone_by_bytes s.history gone.0 place end gone.1)
      | inr refused ↦ inr refused
    ];
    all_told = s.all_told;
  }

-- ---- connections that are served

-- what is known of a success is known where it is one
of_ok : {T E : Type 0} (r : Result T E) (x : T) (P : Type 0) → r ≡ Ok x → OnOk r P → P
of_ok (Ok y) x P is holds = holds
of_ok (Err e) x P is holds = absurd (let bad : Err e ≡ Ok x = is in cc)

module _ {D W : Type 0} (conduct : Conduct D) (dig : List ℕ → List ℕ) (contents : W → Option (List ℕ)) (old mid new : EngineView D)
    (count most : ℕ) (first before last after : W) (start now : Seating) (was written : Result (Unit {0}) Fault) (passed : List Passing)
    (swarmed : Swarms conduct dig old passed mid) (begins : before ≡ first) (ends : after ≡ last) (starts : start ≡ nobody) (as_many : most ≡ count)
    (tells : Tells start was (contents before) passed now written (contents last)) where
  all_served : written ≡ Ok tt → now.came ≡ most → now.strays ≡ false → StepsTo conduct dig mid Flush (Flushed (Ok tt)) new
      → HasServedTogether conduct dig count old (contents first) (contents after) new
  all_served ok came_so no_strays synced =
      let at : now ≡ seated nobody passed = tells.sit ∙ ap (λ s. seated s passed) starts in
      let no_stray : (seated nobody passed).strays ≡ false = ap (λ (s : Seating). s.strays) (sym at) ∙ no_strays in
      let all_came : (seated nobody passed).came ≡ count = ap (λ (s : Seating). s.came) (sym at) ∙ came_so ∙ as_many in
      let gone = gone_counts nobody passed no_stray in
      let come = came_counts nobody passed in
      let told = swarmed.all_told in record {
        passed = passed;
        mid = mid;
        swarmed = swarmed;
        counted = omega (arith, gone, come, all_came, told);
        numbers = are_of_count count passed all_came;
        lines = subst (λ text. Appends text (contents after) (gone_lines (gone_in nobody passed))) (ap contents begins)
            (subst (λ text. Appends (contents before) text (gone_lines (gone_in nobody passed))) (ap contents (sym ends))
            (subst (λ s. Appends (contents before) (contents last) (gone_lines (gone_in s passed))) starts (tells.lines ok)));
        synced = synced;
      }

  pub served_together : (told result : Result (Unit {0}) Fault) → OnOk told (written ≡ Ok tt) → OnOk told (now.came ≡ most) → OnOk told (now.strays ≡ false)
      → OnOk result (told ≡ Ok tt) → OnOk result (StepsTo conduct dig mid Flush (Flushed (Ok tt)) new)
      → OnOk result (HasServedTogether conduct dig count old (contents first) (contents after) new)
  served_together told (Err fault) ok came_so no_strays is synced = tt
  served_together told (Ok done) ok came_so no_strays is synced =
      all_served (of_ok told done (written ≡ Ok tt) is ok) (of_ok told done (now.came ≡ most) is came_so) (of_ok told done (now.strays ≡ false) is no_strays) synced
