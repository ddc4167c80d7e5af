-- Frames one after the other, and the events that they are.
use Rattle.std.proofs.Common.{◌≡◌, ◌≤◌, ◌+◌, ℕ, suc, true, inr, drop, Option, Some, None, List, [], ◌∷◌, ◌++◌, length, refl, sym, ◌∙◌, ap, subst, arith, length-append}
use Rattle.std.proofs.lemmas.List.{append_assoc, append-nil}
use Rattle.std.specs.Int.{w32, to_be_bytes}
use Rattle.bt_wire.specs.Message.{Body, body, body_of, frame_spelling, length_field}
use Rattle.bt_wire.specs.declared.message.TheConstants.{MAX_LENGTH_FIELD}
use Rattle.bt_wire.specs.declared.handshake.TheConstants.{HANDSHAKE_LEN}
use Rattle.bt_wire.specs.Event.{IsEvent, IsSent, HasNoEvent}
use Rattle.bt_wire.specs.Frames.{IsFrame}
use Rattle.bt_wire.specs.Law.{IsStream, StreamsHaveOneReading}
use Rattle.bt_wire.specs.declared.message.Ask.{Ask}
use Rattle.bt_wire.specs.declared.message.Message.{Message as Sent}
use Rattle.bt_wire.specs.declared.event.WireEvent.{WireEvent}
use Rattle.bt_wire.specs.declared.event.WireEvent.TheVariants.{Hello, Message, Skipped}
use Rattle.bt_meta.specs.Torrent.{Metainfo}
use Rattle.bt_connection.specs.declared.translation.Side.{Side}
use Rattle.bt_connection.specs.declared.translation.Side.TheVariants.{Peer, Engine}
use Rattle.bt_connection.specs.Flow.{new_flow}
use Rattle.bt_connection.specs.ShortBlocks.{short_blocks_of}
use Rattle.bt_connection.specs.Padding.{Memory}
use Rattle.bt_connection.specs.Law.{CanBeSent}
use Rattle.bt_connection.specs.Translation.{Stands, Gives}
use Rattle.bt_connection.specs.TranslationLaw.{GivesOn, ends, goes_on, all_came, AreEvents, GivesEvents, GivesStreams}
use Rattle.bt_connection.proofs.Frames.{frame_long, one_frame}
use Rattle.bt_connection.proofs.Parts.{given_on, no_frame}
use Rattle.bt_connection.proofs.Sendable.{sendable_in, sendable_out}

-- ---- an event after a handshake is a frame

spelled_frame : (b : Option Body) → length_field b ≤ MAX_LENGTH_FIELD → IsFrame (frame_spelling b)
spelled_frame None few = record { body = []; limit = omega arith; spelled = refl }
spelled_frame (Some b) few = record {
  body = b.kind ∷ b.payload;
  limit = omega (arith, few);
  spelled = let size : 1 + length b.payload ≡ length (b.kind ∷ b.payload) = omega arith in
      ap (λ n. to_be_bytes w32 n ++ b.kind ∷ b.payload) size;
}

pub event_frame : (e : WireEvent) (bytes : List ℕ) → IsEvent true e bytes → IsFrame bytes
event_frame (Hello h) bytes event = absurd event
event_frame (Message m) bytes event = subst IsFrame (sym event.spelled) (spelled_frame (body_of m) event.fits.limit)
event_frame (Skipped kind) bytes event = subst IsFrame (sym event.spelled) (spelled_frame (body kind event.payload) event.limit)

no_event : HasNoEvent true []
no_event e bytes rest event none =
    omega (arith, frame_long bytes (event_frame e bytes event), ap length none ∙ length-append bytes rest)

-- ---- its bytes have one reading

stream : (e : WireEvent) (bytes : List ℕ) → IsEvent true e bytes → IsStream true (e ∷ []) [] bytes
stream e bytes event = (bytes, [], event, sym (append-nil bytes), (refl, no_event))

abbrev message_in : List WireEvent → Option Sent
message_in (Message m ∷ events) = Some m
message_in _ = None

pub one_message : StreamsHaveOneReading → (m n : Sent) (bytes : List ℕ) → IsSent m bytes → IsSent n bytes → m ≡ n
one_message law m n bytes is too =
    let same = (law true (Message m ∷ []) (Message n ∷ []) [] [] bytes (stream (Message m) bytes is) (stream (Message n) bytes too)).events_are in
    let found : Some m ≡ Some n = ap message_in same in
    cc

no_message : StreamsHaveOneReading → (kind : ℕ) (m : Sent) (bytes : List ℕ) → IsEvent true (Skipped kind) bytes → ¬ IsSent m bytes
no_message law kind m bytes skipped is =
    let same = (law true (Skipped kind ∷ []) (Message m ∷ []) [] [] bytes (stream (Skipped kind) bytes skipped) (stream (Message m) bytes is)).events_are in
    let found : None ≡ Some m = ap message_in same in
    cc

-- ---- event by event

module _ (law : StreamsHaveOneReading) (torrent : Metainfo) (side : Side) where
  abbrev blocks : List Ask
  blocks = short_blocks_of torrent

  stands_sendable : (s : Side) (old new : Memory) (m given : Sent) → CanBeSent m → Stands blocks s old m given new → CanBeSent given
  stands_sendable Peer old new m given can stands = sendable_in torrent old new m given can stands
  stands_sendable Engine old new m given can stands = sendable_out torrent old new m given can stands

  given_event : (old new : Memory) (e : WireEvent) (frame run : List ℕ) → IsEvent true e frame
      → Gives blocks side old frame run new → (f : WireEvent) × IsEvent true f run
  given_event old new (Hello h) frame run event gives = absurd event
  given_event old new (Message m) frame run event gives =
      let found = gives.message m event in
      let can = stands_sendable side old new m found.0 (record { is_message = event.is_message; fits = event.fits }) found.1 in
      (Message found.0, record { is_message = can.is_message; fits = can.fits; spelled = found.2 })
  given_event old new (Skipped kind) frame run event gives =
      let same = gives.bytes (λ m is. no_message law kind m frame event is) in
      (Skipped kind, subst (λ (xs : List ℕ). IsEvent true (Skipped kind) xs) (sym same) event)

  events : (held stream given : List ℕ) (came : List WireEvent) (bytes rest : List ℕ) → GivesOn blocks side held stream given
      → stream ≡ bytes ++ rest → AreEvents came bytes → GivesEvents blocks side held came rest given
  events held stream given [] bytes rest on split are = record {
    gone = [];
    front = [];
    back = given;
    are = refl;
    as_many = refl;
    behind = subst (λ (xs : List ℕ). GivesOn blocks side held xs given) (split ∙ ap (λ (xs : List ℕ). xs ++ rest) are) on;
    all = refl;
  }
  events held stream given (e ∷ came) bytes rest (ends stream' given' none is) split are =
      absurd (none are.0 (are.1 ++ rest) (event_frame e are.0 are.2)
      (split ∙ ap (λ (xs : List ℕ). xs ++ rest) are.3 ∙ append_assoc are.0 are.1 rest))
  events held stream given (e ∷ came) bytes rest (goes_on stream' next frame run given' old new is front gives so) split are =
      let whole : frame ++ next ≡ are.0 ++ (are.1 ++ rest)
      = sym front ∙ split ∙ ap (λ (xs : List ℕ). xs ++ rest) are.3 ∙ append_assoc are.0 are.1 rest in
      let one = one_frame frame are.0 next (are.1 ++ rest) is (event_frame e are.0 are.2) whole in
      let found = given_event old new e frame run (subst (λ (xs : List ℕ). IsEvent true e xs) (sym one.frame) are.2) gives in
      let others = events held next given' came are.1 rest so one.rest are.4 in
      record {
        gone = found.0 ∷ others.gone;
        front = run ++ others.front;
        back = others.back;
        are = (run, others.front, found.1, refl, others.are);
        as_many = ap suc others.as_many;
        behind = others.behind;
        all = ap (λ (xs : List ℕ). run ++ xs) others.all ∙ sym (append_assoc run others.front others.back);
      }

pub gives_streams : StreamsHaveOneReading → GivesStreams
gives_streams law torrent side parts left came bytes rest come split are =
    let on = given_on torrent side parts new_flow left no_frame (inr refl) come in
    (on.0, on.1, events law torrent side left.unread (drop HANDSHAKE_LEN (all_came parts)) on.0 came bytes rest on.2 split are)
