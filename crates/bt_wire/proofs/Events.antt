-- Events at the front of a list of bytes: one at most.
use Rattle.std.proofs.Common.{◌≡◌, ℕ, ◌≤◌, ◌<◌, ◌^◌, Bool, true, false, Option, Some, None, List, ◌++◌, length, sym, ◌∙◌, ap, refl, arith}
use Rattle.std.proofs.lemmas.List.{append_assoc}
use Rattle.bt_wire.specs.declared.handshake.Handshake.{Handshake}
use Rattle.bt_wire.specs.declared.event.WireEvent.{WireEvent}
use Rattle.bt_wire.specs.declared.event.WireEvent.TheVariants.{Hello, Message, Skipped}
use Rattle.bt_wire.specs.Handshake.{protocol, handshake_with, IsHandshake}
use Rattle.bt_wire.specs.declared.message.TheConstants.{MAX_LENGTH_FIELD}
use Rattle.bt_wire.specs.Message.{Body, body, body_of, length_field, frame_spelling}
use Rattle.bt_wire.specs.Event.{IsEvent}
use Rattle.bt_wire.proofs.SameFrames.{parts, same_frame, SameFrame}
use Rattle.bt_wire.proofs.Bodies.{same_message}

-- two events at the front of one list
pub record SameEvent (e f : WireEvent) (r s : List ℕ) : Type 0 where
  pub event_is : e ≡ f
  pub rest_is : r ≡ s

-- a handshake's parts, and what comes after it
behind_hello : List ℕ → List ℕ → List ℕ → List ℕ → List ℕ
behind_hello reserved infohash peer_id rest = reserved ++ (infohash ++ (peer_id ++ rest))

split_hello : (reserved : List ℕ) (h : Handshake) (rest : List ℕ)
    → handshake_with reserved h ++ rest ≡ protocol ++ behind_hello reserved h.infohash h.peer_id rest
unfolding behind_hello
split_hello reserved h rest = simp append_assoc

handshake_of : List ℕ → List ℕ → Handshake
handshake_of infohash peer_id = record { infohash = infohash; peer_id = peer_id }

same_hello : (g h : Handshake) (x y r s : List ℕ) → IsHandshake g → IsHandshake h → length x ≡ 8 → length y ≡ 8
    → handshake_with x g ++ r ≡ handshake_with y h ++ s → SameEvent (Hello g) (Hello h) r s
unfolding behind_hello handshake_of
same_hello g h x y r s g-is h-is x-eight y-eight e =
    let whole = sym (split_hello x g r) ∙ e ∙ split_hello y h s in
    let behind = parts protocol protocol _ _ refl whole in
    let reserved = parts x y _ _ (x-eight ∙ sym y-eight) behind.second in
    let infohash = parts g.infohash h.infohash _ _ (g-is.infohash ∙ sym h-is.infohash) reserved.second in
    let peer_id = parts g.peer_id h.peer_id _ _ (g-is.peer_id ∙ sym h-is.peer_id) infohash.second in
    record {
      event_is = ap (λ xs. Hello (handshake_of xs g.peer_id)) infohash.first ∙ ap (λ xs. Hello (handshake_of h.infohash xs)) peer_id.first;
      rest_is = peer_id.second;
    }

-- what an event of a stream that has its handshake has in common: a frame
pub record IsFrame (bytes : List ℕ) : Type 0 where
  pub body : Option Body
  pub limit : length_field body ≤ MAX_LENGTH_FIELD
  pub spelled : bytes ≡ frame_spelling body

pub event_frame : (e : WireEvent) (bytes : List ℕ) → IsEvent true e bytes → IsFrame bytes
event_frame (Hello h) bytes event = absurd event
event_frame (Message m) bytes event = record { body = body_of m; limit = event.fits.limit; spelled = event.spelled }
event_frame (Skipped kind) bytes event =
    record { body = body kind event.payload; limit = event.limit; spelled = event.spelled }

pub fits_number : (b : Option Body) → length_field b ≤ MAX_LENGTH_FIELD → length_field b < 2 ^ 32
fits_number b limit = omega arith

frames_at : (b c : Option Body) (p q r s : List ℕ) → length_field b ≤ MAX_LENGTH_FIELD → length_field c ≤ MAX_LENGTH_FIELD
    → p ≡ frame_spelling b → q ≡ frame_spelling c → p ++ r ≡ q ++ s → SameFrame b c r s
frames_at b c p q r s b-fits c-fits p-is q-is e =
    same_frame b c r s (fits_number b b-fits) (fits_number c c-fits)
    (ap (λ xs. xs ++ r) (sym p-is) ∙ e ∙ ap (λ xs. xs ++ s) q-is)

kind_in : Option Body → ℕ
kind_in None = 0
kind_in (Some b) = b.kind

pub same_kind : (kind other : ℕ) (p q : List ℕ) → body kind p ≡ body other q → kind ≡ other
unfolding kind_in
same_kind kind other p q e = ap kind_in e

pub same_event : (greeted : Bool) (e f : WireEvent) (p q r s : List ℕ) → IsEvent greeted e p → IsEvent greeted f q
    → p ++ r ≡ q ++ s → SameEvent e f r s
same_event false (Hello g) (Hello h) p q r s e-is f-is both =
    same_hello g h e-is.reserved f-is.reserved r s e-is.is_handshake f-is.is_handshake e-is.eight f-is.eight
    (ap (λ xs. xs ++ r) (sym e-is.spelled) ∙ both ∙ ap (λ xs. xs ++ s) f-is.spelled)
same_event true (Message m) (Message n) p q r s e-is f-is both =
    let same = frames_at (body_of m) (body_of n) p q r s e-is.fits.limit f-is.fits.limit e-is.spelled f-is.spelled both in
    record { event_is = ap Message (same_message m n e-is.is_message f-is.is_message same.body_is); rest_is = same.rest_is }
same_event true (Message m) (Skipped kind) p q r s e-is f-is both =
    let same = frames_at (body_of m) (body kind f-is.payload) p q r s e-is.fits.limit f-is.limit e-is.spelled f-is.spelled both in
    absurd (f-is.unknown (m, f-is.payload, same.body_is))
same_event true (Skipped kind) (Message m) p q r s e-is f-is both =
    let same = frames_at (body kind e-is.payload) (body_of m) p q r s e-is.limit f-is.fits.limit e-is.spelled f-is.spelled both in
    absurd (e-is.unknown (m, e-is.payload, sym same.body_is))
same_event true (Skipped kind) (Skipped other) p q r s e-is f-is both =
    let same = frames_at (body kind e-is.payload) (body other f-is.payload) p q r s e-is.limit f-is.limit e-is.spelled f-is.spelled both in
    record { event_is = ap Skipped (same_kind kind other e-is.payload f-is.payload same.body_is); rest_is = same.rest_is }
same_event false (Hello h) _ p q r s e-is f-is both = absurd f-is
same_event true (Message m) _ p q r s e-is f-is both = absurd f-is
same_event true (Skipped k) _ p q r s e-is f-is both = absurd f-is
same_event _ _ f p q r s e-is f-is both = absurd e-is
