-- Streams of events: one reading, however they are cut.
use Rattle.std.proofs.Common.{◌≡◌, ℕ, Bool, true, false, Option, Some, None, List, [], ◌∷◌, ◌++◌, sym, ◌∙◌, replicate, ap, refl, subst}
use Rattle.std.proofs.lemmas.List.{append_assoc, append-nil}
use Rattle.bt_wire.specs.declared.event.WireEvent.{WireEvent}
use Rattle.bt_wire.specs.declared.event.WireEvent.TheVariants.{Hello, Message}
use Rattle.bt_wire.specs.declared.event.WireError.{WireError}
use Rattle.bt_wire.specs.Handshake.{handshake_spelling}
use Rattle.bt_wire.specs.Message.{message_spelling}
use Rattle.bt_wire.specs.Event.{IsEvent, HasNoEvent, ShowsFault}
use Rattle.bt_wire.specs.Cutter.{Stream, new_stream, fed, IsAnswer}
use Rattle.bt_wire.specs.Law.{IsStream, StreamsHaveOneReading, Move, feed, take, bytes_in, events_in, Leads, IsEnd, IsCut, CuttingMakesNoDifference, CutsAreStreams, IsTaken, MustTake, WritingIsRead}
use Rattle.bt_wire.proofs.Events.{same_event}
use Rattle.bt_wire.proofs.Faults.{fault_stays, fault_alone, one_fault}

pub one_reading : StreamsHaveOneReading
one_reading greeted [] [] rest other bytes s t = record { events_are = refl; rest_is = s.0 ∙ sym t.0 }
one_reading greeted [] (f ∷ others) rest other bytes s t = absurd (s.1 f t.0 t.1 t.2 (s.0 ∙ t.3))
one_reading greeted (e ∷ events) [] rest other bytes s t = absurd (t.1 e s.0 s.1 s.2 (t.0 ∙ s.3))
one_reading greeted (e ∷ events) (f ∷ others) rest other bytes s t =
    let same = same_event greeted e f s.0 t.0 s.1 t.1 s.2 t.2 (sym s.3 ∙ t.3) in
    let behind : IsStream true events rest t.1 = subst (λ (xs : List ℕ). IsStream true events rest xs) same.rest_is s.4 in
    let tail = one_reading true events others rest other t.1 behind t.4 in
    record {
      events_are = ap (λ x. x ∷ events) same.event_is ∙ ap (λ xs. f ∷ xs) tail.events_are;
      rest_is = tail.rest_is;
    }

-- calls from one stream to another, and bytes after them, are a stream where no event is at the end
calls : (moves : List Move) (s last : Stream) (unfed : List ℕ) → Leads moves s last → HasNoEvent last.greeted (last.unread ++ unfed)
    → IsStream s.greeted (events_in moves) (last.unread ++ unfed) (s.unread ++ (bytes_in moves ++ unfed))
calls [] s last unfed leads none =
    let last-is : Stream → Type 0 = λ t. IsStream s.greeted [] (t.unread ++ unfed) (s.unread ++ unfed) in
    let none-is : HasNoEvent s.greeted (s.unread ++ unfed) = subst (λ (t : Stream). HasNoEvent t.greeted (t.unread ++ unfed)) leads none in
    subst last-is (sym leads) (refl, none-is)
calls (feed bytes ∷ moves) s last unfed leads none =
    let tail = calls moves (fed s bytes) last unfed leads none in
    let same : (s.unread ++ bytes) ++ (bytes_in moves ++ unfed) ≡ s.unread ++ ((bytes ++ bytes_in moves) ++ unfed) = simp append_assoc in
    subst (λ (xs : List ℕ). IsStream s.greeted (events_in moves) (last.unread ++ unfed) xs) same tail
calls (take e ∷ moves) s last unfed leads none =
    let mid : Stream = leads.0 in
    let takes = leads.1 in
    let tail = calls moves mid last unfed leads.2 none in
    let behind : List ℕ = mid.unread ++ (bytes_in moves ++ unfed) in
    let greeted : IsStream true (events_in moves) (last.unread ++ unfed) behind
    = subst (λ (b : Bool). IsStream b (events_in moves) (last.unread ++ unfed) behind) takes.greeted tail in
    let front : s.unread ++ (bytes_in moves ++ unfed) ≡ takes.bytes ++ behind
    = ap (λ xs. xs ++ (bytes_in moves ++ unfed)) takes.front ∙ append_assoc takes.bytes mid.unread (bytes_in moves ++ unfed) in
    (takes.bytes, behind, takes.event, front, greeted)

-- no event is at the end of a cut
no_event_at_end : (s : Stream) (unfed : List ℕ) (fault : Option WireError) → IsEnd s unfed fault → HasNoEvent s.greeted (s.unread ++ unfed)
no_event_at_end s unfed None ends =
    let short : s.unread ++ unfed ≡ s.unread = ap (λ xs. s.unread ++ xs) ends.1 ∙ append-nil s.unread in
    subst (λ (xs : List ℕ). HasNoEvent s.greeted xs) (sym short) ends.0.no_event
no_event_at_end s unfed (Some fault) ends = fault_alone s.greeted (s.unread ++ unfed) fault (fault_stays s.greeted s.unread unfed fault ends)

cut_stream : (bytes : List ℕ) (moves : List Move) (fault : Option WireError) (cut : IsCut bytes moves fault)
    → IsStream false (events_in moves) (cut.last.unread ++ cut.unfed) bytes
cut_stream bytes moves fault cut =
    subst (λ (xs : List ℕ). IsStream false (events_in moves) (cut.last.unread ++ cut.unfed) xs) cut.whole
    (calls moves new_stream cut.last cut.unfed cut.leads (no_event_at_end cut.last cut.unfed fault cut.ends))

pub cuts_are_streams : CutsAreStreams
cuts_are_streams bytes moves fault cut = (cut.last.unread ++ cut.unfed, cut_stream bytes moves fault cut)

-- whether a handshake has come, by the events that were taken
greeted_after : Bool → List WireEvent → Bool
greeted_after greeted [] = greeted
greeted_after greeted (e ∷ events) = true

after_true : (events : List WireEvent) → greeted_after true events ≡ true
unfolding greeted_after
after_true [] = refl
after_true (e ∷ events) = refl

greeted_at_end : (moves : List Move) (s last : Stream) → Leads moves s last → last.greeted ≡ greeted_after s.greeted (events_in moves)
unfolding greeted_after
greeted_at_end [] s last leads = ap (λ (t : Stream). t.greeted) leads
greeted_at_end (feed bytes ∷ moves) s last leads = greeted_at_end moves (fed s bytes) last leads
greeted_at_end (take e ∷ moves) s last leads =
    greeted_at_end moves leads.0 last leads.2 ∙ ap (λ b. greeted_after b (events_in moves)) leads.1.greeted ∙ after_true (events_in moves)

-- where a stream ends and none of its events is left, another cut shows no fault
no_other_fault : (s t : Stream) (x y : List ℕ) (fault : WireError) → IsEnd s x None → IsEnd t y (Some fault) → s.greeted ≡ t.greeted
    → s.unread ++ x ≡ t.unread ++ y → ⊥
no_other_fault s t x y fault ends shown greeted same =
    let rest : t.unread ++ y ≡ s.unread = sym same ∙ ap (λ xs. s.unread ++ xs) ends.1 ∙ append-nil s.unread in
    let stays = fault_stays t.greeted t.unread y fault shown in
    let here : ShowsFault t.greeted s.unread fault = subst (λ (xs : List ℕ). ShowsFault t.greeted xs fault) rest stays in
    ends.0.no_fault fault (subst (λ (b : Bool). ShowsFault b s.unread fault) (sym greeted) here)

one_end : (s t : Stream) (x y : List ℕ) (fault other : Option WireError) → IsEnd s x fault → IsEnd t y other → s.greeted ≡ t.greeted
    → s.unread ++ x ≡ t.unread ++ y → fault ≡ other
one_end s t x y None None s-ends t-ends greeted same = refl
one_end s t x y None (Some other) s-ends t-ends greeted same = absurd (no_other_fault s t x y other s-ends t-ends greeted same)
one_end s t x y (Some fault) None s-ends t-ends greeted same =
    absurd (no_other_fault t s y x fault t-ends s-ends (sym greeted) (sym same))
one_end s t x y (Some fault) (Some other) s-ends t-ends greeted same =
    let shown = fault_stays s.greeted s.unread x fault s-ends in
    let also = fault_stays t.greeted t.unread y other t-ends in
    let moved : ShowsFault s.greeted (t.unread ++ y) other = subst (λ (b : Bool). ShowsFault b (t.unread ++ y) other) (sym greeted) also in
    let here : ShowsFault s.greeted (s.unread ++ x) other = subst (λ (xs : List ℕ). ShowsFault s.greeted xs other) (sym same) moved in
    ap Some (one_fault s.greeted (s.unread ++ x) fault other shown here)

pub no_difference : CuttingMakesNoDifference
no_difference bytes moves others fault other cut also =
    let same = one_reading false (events_in moves) (events_in others) _ _ bytes (cut_stream bytes moves fault cut) (cut_stream bytes others other also) in
    let greeted : cut.last.greeted ≡ also.last.greeted
    = greeted_at_end moves new_stream cut.last cut.leads ∙ ap (λ es. greeted_after false es) same.events_are
    ∙ sym (greeted_at_end others new_stream also.last also.leads) in
    record {
      events_are = same.events_are;
      fault_is = one_end cut.last also.last cut.unfed also.unfed fault other cut.ends also.ends greeted same.rest_is;
    }

-- the event at the front is the one to take
answer_at : (s : Stream) (e : WireEvent) (bytes rest : List ℕ) → IsEvent s.greeted e bytes → s.unread ≡ bytes ++ rest
    → (given : Option WireEvent) (new : Stream) → IsAnswer s given new → IsTaken given e new.unread rest
answer_at s e bytes rest event front (Some f) new takes =
    let same = same_event s.greeted f e takes.bytes bytes new.unread rest takes.event event (sym takes.front ∙ front) in
    record { given_is = ap Some same.event_is; rest_is = same.rest_is }
answer_at s e bytes rest event front None new waits = absurd (waits.0.no_event e bytes rest event front)

must_take : (s : Stream) (e : WireEvent) (bytes rest : List ℕ) → IsEvent s.greeted e bytes → s.unread ≡ bytes ++ rest → MustTake s e rest
must_take s e bytes rest event front = record {
  answer = answer_at s e bytes rest event front;
  no_fault = λ fault shown. fault_alone s.greeted s.unread fault shown e bytes rest event front;
}

pub writing_is_read : WritingIsRead
writing_is_read = record {
  message = λ m rest s m-is fits greeted front.
      let event : IsEvent true (Message m) (message_spelling m) = record { is_message = m-is; fits = fits; spelled = refl } in
      must_take s (Message m) (message_spelling m) rest
      (subst (λ (b : Bool). IsEvent b (Message m) (message_spelling m)) (sym greeted) event) front;
  handshake = λ h rest s h-is greeted front.
      let event : IsEvent false (Hello h) (handshake_spelling h)
      = record { reserved = replicate 8 0; is_handshake = h-is; eight = refl; spelled = refl } in
      must_take s (Hello h) (handshake_spelling h) rest
      (subst (λ (b : Bool). IsEvent b (Hello h) (handshake_spelling h)) (sym greeted) event) front;
}
