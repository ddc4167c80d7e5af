-- The front of the unread bytes: a frame, or a misfit.
use Rattle.std.proofs.Common.{◌≡◌, ℕ, suc, ◌+◌, ◌-◌, ◌≤◌, ◌<◌, Option, Some, None, List, ◌∷◌, ◌++◌, length, take, drop, slice_index, sym, ◌∙◌, ap, subst, arith}
use Rattle.std.specs.Int.{w32, to_be_bytes}
use Rattle.std.proofs.lemmas.List.{length-drop, length-take-le, take-append-drop, drop_more, take_rest}
use Rattle.bt_wire.specs.declared.message.TheConstants.{MAX_LENGTH_FIELD}
use Rattle.bt_wire.specs.declared.message.Message.{Message as Sent}
use Rattle.bt_wire.specs.Message.{Body, body, length_field, frame_spelling, CarriesBytes}
use Rattle.bt_wire.specs.Event.{IsSent, ShowsBadLength}
use Rattle.bt_wire.specs.FrontSteps.{FitsKind, IsMisfit, FitsBody, IsLawfulFrame, BeginsLawfulFrame, HasFrame}
use Rattle.bt_wire.specs.ReaderSteps.{HasSize, IsMessageOf}
use Rattle.bt_wire.proofs.Sizes.{fitting_size}

-- the bytes begin with a length field
front_is : (unread : List ℕ) (field : ℕ) → to_be_bytes w32 field ≡ take 4 unread → unread ≡ to_be_bytes w32 field ++ drop 4 unread
front_is unread field number = sym (take-append-drop 4 unread) ∙ ap (λ xs. xs ++ drop 4 unread) (sym number)

-- and a kind
kind_is : (unread : List ℕ) (field : ℕ) → to_be_bytes w32 field ≡ take 4 unread → 4 < length unread
    → unread ≡ to_be_bytes w32 field ++ slice_index unread 4 ∷ drop 5 unread
kind_is unread field number more = front_is unread field number ∙ ap (λ xs. to_be_bytes w32 field ++ xs) (drop_more unread 4 0 more)

pub shows_bad_length : (unread : List ℕ) (size : ℕ) → to_be_bytes w32 (1 + size) ≡ take 4 unread → 4 < length unread
    → 1 + size ≤ MAX_LENGTH_FIELD → IsMisfit (slice_index unread 4) size → ShowsBadLength unread
shows_bad_length unread size number more limit misfit = record {
  kind = slice_index unread 4;
  size = size;
  rest = drop 5 unread;
  limit = limit;
  known = misfit.0;
  misfit = misfit.1;
  front = kind_is unread (1 + size) number more;
}

-- the first bytes of a frame with a body
body_front : (unread : List ℕ) (size : ℕ) → to_be_bytes w32 (1 + size) ≡ take 4 unread → 5 + size ≤ length unread
    → take (5 + size) unread ≡ to_be_bytes w32 (1 + size) ++ slice_index unread 4 ∷ take size (drop 5 unread)
body_front unread size number inside =
    let count : 5 + size ≡ suc (suc (suc (suc (suc size)))) = omega arith in
    ap (λ n. take n unread) count ∙ ap (λ xs. take (suc (suc (suc (suc (suc size))))) xs) (kind_is unread (1 + size) number (omega arith))

pub begins_body : (unread : List ℕ) (size : ℕ) → to_be_bytes w32 (1 + size) ≡ take 4 unread → 1 + size ≤ MAX_LENGTH_FIELD
    → 5 + size ≤ length unread → FitsKind (slice_index unread 4) size → BeginsLawfulFrame unread (5 + size)
begins_body unread size number limit inside fits =
    let payload : List ℕ = take size (drop 5 unread) in
    let long : length payload ≡ size = length-take-le size (drop 5 unread) (omega (arith, length-drop 5 unread)) in
    let field : to_be_bytes w32 (1 + size) ≡ to_be_bytes w32 (1 + length payload) = ap (λ n. to_be_bytes w32 (1 + n)) (sym long) in
    record {
      inside = inside;
      frame = record {
        body = body (slice_index unread 4) payload;
        limit = omega (arith, long, limit);
        fits = subst (λ (n : ℕ). FitsKind (slice_index unread 4) n) (sym long) fits;
        spelled = body_front unread size number inside ∙ ap (λ xs. xs ++ slice_index unread 4 ∷ payload) field;
      };
    }

-- the payload of a whole frame has its kind's size
frame_size : (b : Option Body) → FitsBody b → 4 < length (frame_spelling b)
    → HasSize (slice_index (frame_spelling b) 4) (length (drop 5 (frame_spelling b)))
frame_size None fits long = absurd (omega arith)
frame_size (Some b) fits long = fitting_size b.kind (length b.payload) fits

pub lawful_size : (frame : List ℕ) → IsLawfulFrame frame → 4 < length frame
    → HasSize (slice_index frame 4) (length (take (length frame - 5) (drop 5 frame)))
lawful_size frame lawful long =
    let whole : take (length frame - 5) (drop 5 frame) ≡ drop 5 frame = take_rest frame 5 in
    subst (λ (xs : List ℕ). HasSize (slice_index frame 4) (length xs)) (sym whole)
    (subst (λ (xs : List ℕ). HasSize (slice_index xs 4) (length (drop 5 xs))) (sym lawful.spelled)
    (frame_size lawful.body lawful.fits (subst (λ (xs : List ℕ). 4 < length xs) lawful.spelled long)))

-- a whole frame whose kind and payload are a message's is that message's
sent_frame : (b : Option Body) → length_field b ≤ MAX_LENGTH_FIELD → 4 < length (frame_spelling b)
    → (m : Sent) → IsMessageOf (slice_index (frame_spelling b) 4) (drop 5 (frame_spelling b)) m → IsSent m (frame_spelling b)
sent_frame None limit long m is = absurd (omega arith)
sent_frame (Some b) limit long m is = record {
  is_message = is.is_message;
  fits = record { limit = subst (λ (it : Option Body). length_field it ≤ MAX_LENGTH_FIELD) (sym is.body_is) limit; whole = is.whole };
  spelled = ap frame_spelling (sym is.body_is);
}

pub has_frame : (frame : List ℕ) → IsLawfulFrame frame → 4 < length frame
    → (m : Sent) × IsMessageOf (slice_index frame 4) (take (length frame - 5) (drop 5 frame)) m × CarriesBytes m
    → HasFrame frame
has_frame frame lawful long found =
    let at_end = subst (λ (xs : List ℕ). IsMessageOf (slice_index frame 4) xs found.0) (take_rest frame 5) found.1 in
    let spelled = subst (λ (xs : List ℕ). IsMessageOf (slice_index xs 4) (drop 5 xs) found.0) lawful.spelled at_end in (
      found.0,
      subst (λ (xs : List ℕ). IsSent found.0 xs) (sym lawful.spelled)
          (sent_frame lawful.body lawful.limit (subst (λ (xs : List ℕ). 4 < length xs) lawful.spelled long) found.0 spelled),
      found.2,
    )
