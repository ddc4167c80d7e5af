-- A fault that shows, and that no event begins there.
use Rattle.std.proofs.Common.{◌≡◌, ◌≢◌, ℕ, ◌+◌, ◌≤◌, ◌<◌, ◌^◌, Bool, true, false, Option, Some, None, List, ◌∷◌, ◌++◌, length, drop, slice_index, sym, ◌∙◌, ap, refl, arith}
use Rattle.std.specs.Int.{w32, to_be_bytes}
use Rattle.std.proofs.lemmas.List.{append_assoc, length-append, get_or_append_left}
use Rattle.bt_wire.specs.declared.event.WireEvent.{WireEvent}
use Rattle.bt_wire.specs.declared.event.WireEvent.TheVariants.{Hello, Message, Skipped}
use Rattle.bt_wire.specs.declared.event.WireError.{WireError}
use Rattle.bt_wire.specs.declared.event.WireError.TheVariants.{BadProtocol, TooLong, BadLength}
use Rattle.bt_wire.specs.Handshake.{protocol}
use Rattle.bt_wire.specs.declared.message.TheConstants.{MAX_LENGTH_FIELD}
use Rattle.bt_wire.specs.Message.{Body, body, body_of, length_field, frame_spelling}
use Rattle.bt_wire.specs.Event.{IsEvent, HasNoEvent, ShowsFault, ShowsBadProtocol, ShowsTooLong, ShowsBadLength}
use Rattle.bt_wire.proofs.SameFrames.{same_number}
use Rattle.bt_wire.proofs.Events.{event_frame, fits_number, same_kind}

-- more bytes at the end take no fault away
pub fault_stays : (greeted : Bool) (unread more : List ℕ) (fault : WireError) → ShowsFault greeted unread fault
    → ShowsFault greeted (unread ++ more) fault
fault_stays false unread more BadProtocol shown =
    let same : slice_index (unread ++ more) shown.place ≡ slice_index unread shown.place = get_or_append_left unread more 0 shown.place shown.there in
    record {
      place = shown.place;
      in_protocol = shown.in_protocol;
      there = omega (arith, length-append unread more, shown.there);
      differs = λ e. shown.differs (sym same ∙ e);
    }
fault_stays true unread more TooLong shown = record {
  field = shown.field;
  rest = shown.rest ++ more;
  number = shown.number;
  above = shown.above;
  front = ap (λ xs. xs ++ more) shown.front ∙ append_assoc (to_be_bytes w32 shown.field) shown.rest more;
}
fault_stays true unread more BadLength shown = record {
  kind = shown.kind;
  size = shown.size;
  rest = shown.rest ++ more;
  limit = shown.limit;
  known = shown.known;
  misfit = shown.misfit;
  front = ap (λ xs. xs ++ more) shown.front ∙ append_assoc (to_be_bytes w32 (1 + shown.size)) (shown.kind ∷ shown.rest) more;
}
fault_stays _ unread more _ shown = absurd shown

-- the length field of a frame at the front
pub frame_field : (b : Option Body) (field : ℕ) (bytes rest more : List ℕ) → length_field b ≤ MAX_LENGTH_FIELD → field < 2 ^ 32
    → bytes ≡ frame_spelling b → to_be_bytes w32 field ++ more ≡ bytes ++ rest → field ≡ length_field b
frame_field None field bytes rest more limit fits spelled e =
    same_number field 0 more rest fits (omega arith) (e ∙ ap (λ xs. xs ++ rest) spelled)
frame_field (Some b) field bytes rest more limit fits spelled e =
    same_number field (1 + length b.payload) more (b.kind ∷ b.payload ++ rest) fits (fits_number (Some b) limit) (e ∙ ap (λ xs. xs ++ rest) spelled)

-- a frame that begins with a length field above 0 and a kind
record KindOf (kind size : ℕ) (b : Option Body) : Type 0 where
  payload : List ℕ
  body_is : b ≡ body kind payload
  size_is : length payload ≡ size

frame_kind : (b : Option Body) (kind size : ℕ) (bytes rest more : List ℕ) → length_field b ≤ MAX_LENGTH_FIELD → 1 + size ≤ MAX_LENGTH_FIELD
    → bytes ≡ frame_spelling b → to_be_bytes w32 (1 + size) ++ kind ∷ more ≡ bytes ++ rest → KindOf kind size b
frame_kind None kind size bytes rest more limit fits spelled e =
    let zero : 1 + size ≡ 0 = frame_field None (1 + size) bytes rest (kind ∷ more) limit (omega (arith, fits)) spelled e in
    absurd (omega arith)
frame_kind (Some b) kind size bytes rest more limit fits spelled e =
    let field : 1 + size ≡ 1 + length b.payload = frame_field (Some b) (1 + size) bytes rest (kind ∷ more) limit (omega (arith, fits)) spelled e in
    let behind : kind ∷ more ≡ b.kind ∷ (b.payload ++ rest) = ap (λ xs. drop 4 xs) (e ∙ ap (λ xs. xs ++ rest) spelled) in
    let kinds : b.kind ≡ kind = cc in
    record { payload = b.payload; body_is = ap (λ k. body k b.payload) kinds; size_is = omega arith }

no_event_misfit : (e : WireEvent) (unread bytes rest : List ℕ) → ShowsBadLength unread → IsEvent true e bytes → unread ≢ bytes ++ rest
no_event_misfit (Message m) unread bytes rest shown event e =
    let at = frame_kind (body_of m) shown.kind shown.size bytes rest shown.rest event.fits.limit shown.limit event.spelled (sym shown.front ∙ e) in
    shown.misfit (record {
      message = m;
      payload = at.payload;
      is_message = event.is_message;
      whole = event.fits.whole;
      body_is = at.body_is;
      size = at.size_is;
    })
no_event_misfit (Skipped k) unread bytes rest shown event e =
    let at = frame_kind (body k event.payload) shown.kind shown.size bytes rest shown.rest event.limit shown.limit event.spelled (sym shown.front ∙ e) in
    let kinds : k ≡ shown.kind = same_kind k shown.kind event.payload at.payload at.body_is in
    event.unknown (shown.known.0, shown.known.1, shown.known.2 ∙ ap (λ k. body k shown.known.1) (sym kinds))
no_event_misfit (Hello h) unread bytes rest shown event e = absurd event

protocol_at : (place : ℕ) (bytes rest behind : List ℕ) → place < length protocol → bytes ≡ protocol ++ behind
    → slice_index (bytes ++ rest) place ≡ slice_index protocol place
protocol_at place bytes rest behind inside spelled =
    ap (λ xs. slice_index (xs ++ rest) place) spelled ∙ ap (λ xs. slice_index xs place) (append_assoc protocol behind rest)
    ∙ get_or_append_left protocol (behind ++ rest) 0 place inside

no_event_protocol : (e : WireEvent) (unread bytes rest : List ℕ) → ShowsBadProtocol unread → IsEvent false e bytes → unread ≢ bytes ++ rest
no_event_protocol (Hello h) unread bytes rest shown event e =
    let behind : bytes ≡ protocol ++ (event.reserved ++ (h.infohash ++ h.peer_id)) = event.spelled ∙ simp append_assoc in
    shown.differs (ap (λ xs. slice_index xs shown.place) e ∙ protocol_at shown.place bytes rest _ shown.in_protocol behind)
no_event_protocol (Message m) unread bytes rest shown event e = absurd event
no_event_protocol (Skipped k) unread bytes rest shown event e = absurd event

no_event_long : (e : WireEvent) (unread bytes rest : List ℕ) → ShowsTooLong unread → IsEvent true e bytes → unread ≢ bytes ++ rest
no_event_long e unread bytes rest shown event both =
    let frame = event_frame e bytes event in
    let field = frame_field frame.body shown.field bytes rest shown.rest frame.limit shown.number frame.spelled (sym shown.front ∙ both) in
    absurd (omega (arith, field, frame.limit, shown.above))

-- where a fault shows there is no event
pub fault_alone : (greeted : Bool) (unread : List ℕ) (fault : WireError) → ShowsFault greeted unread fault → HasNoEvent greeted unread
fault_alone false unread BadProtocol shown = λ e bytes rest event. no_event_protocol e unread bytes rest shown event
fault_alone true unread TooLong shown = λ e bytes rest event. no_event_long e unread bytes rest shown event
fault_alone true unread BadLength shown = λ e bytes rest event. no_event_misfit e unread bytes rest shown event
fault_alone _ unread _ shown = absurd shown

apart : (unread : List ℕ) → ShowsTooLong unread → ShowsBadLength unread → ⊥
apart unread long bad =
    let field : long.field ≡ 1 + bad.size
    = same_number long.field (1 + bad.size) long.rest (bad.kind ∷ bad.rest) long.number (omega (arith, bad.limit)) (sym long.front ∙ bad.front) in
    absurd (omega (arith, long.above, bad.limit))

-- and one fault at most
pub one_fault : (greeted : Bool) (unread : List ℕ) (fault other : WireError) → ShowsFault greeted unread fault → ShowsFault greeted unread other
    → fault ≡ other
one_fault false unread BadProtocol BadProtocol shown also = refl
one_fault true unread TooLong TooLong shown also = refl
one_fault true unread BadLength BadLength shown also = refl
one_fault true unread TooLong BadLength shown also = absurd (apart unread shown also)
one_fault true unread BadLength TooLong shown also = absurd (apart unread also shown)
one_fault false unread BadProtocol _ shown also = absurd also
one_fault true unread TooLong _ shown also = absurd also
one_fault true unread BadLength _ shown also = absurd also
one_fault _ unread _ other shown also = absurd shown
