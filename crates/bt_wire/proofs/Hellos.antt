-- A handshake at the front of the unread bytes.
use Rattle.std.proofs.Common.{◌≡◌, ℕ, ◌+◌, ◌≤◌, ◌<◌, inl, inr, false, List, ◌++◌, length, take, drop, slice_index, sym, ◌∙◌, ap, arith}
use Rattle.std.proofs.lemmas.Bool.{cases_eq}
use Rattle.std.proofs.lemmas.List.{length-take-le, length-drop, take-append-drop, take-take, drop-take, ext_get_or, get_or-take}
use Rattle.bt_wire.specs.declared.handshake.Handshake.{Handshake}
use Rattle.bt_wire.specs.declared.event.WireEvent.TheVariants.{Hello}
use Rattle.bt_wire.specs.Handshake.{protocol}
use Rattle.bt_wire.specs.Event.{ShowsBadProtocol}
use Rattle.bt_wire.specs.FrontSteps.{BeginsEvent}

-- the first bytes in two parts
take_parts : (n m : ℕ) (xs : List ℕ) → take (n + m) xs ≡ take n xs ++ take m (drop n xs)
take_parts n m xs =
    let low : n ≤ n + m = omega arith in
    sym (take-append-drop n (take (n + m) xs)) ∙ ap (λ ys. ys ++ drop n (take (n + m) xs)) (take-take n (n + m) xs low)
    ∙ ap (λ ys. take n xs ++ ys) (drop-take n m xs)

-- without a fault the first twenty bytes are the protocol's
protocol_front : (unread : List ℕ) → 20 ≤ length unread → ¬ ShowsBadProtocol unread → take 20 unread ≡ protocol
protocol_front unread long none =
    let size : length (take 20 unread) ≡ 20 = length-take-le 20 unread long in
    let at : (i : ℕ) → i < 20 → slice_index unread i ≡ slice_index protocol i
    = λ i h. elim (cases_eq (slice_index unread i) (slice_index protocol i)) [
      | inl same ↦ same
      | inr other ↦ absurd (none (record { place = i; in_protocol = h; there = omega arith; differs = other }))
    ] in
    ext_get_or 0 (take 20 unread) protocol size
    (λ i h. let low : i < 20 = omega arith in get_or-take 20 unread i 0 low ∙ at i low)

-- and then the four parts of a handshake
pub begins_hello : (unread : List ℕ) (h : Handshake) → 68 ≤ length unread → ¬ ShowsBadProtocol unread
    → h.infohash ≡ take 20 (drop 28 unread) → h.peer_id ≡ take 20 (drop 48 unread) → BeginsEvent false unread (Hello h) 68
begins_hello unread h long none infohash peer_id =
    let reserved : List ℕ = take 8 (drop 20 unread) in
    let first = take_parts 20 8 unread in
    let second = take_parts 28 20 unread in
    let third = take_parts 48 20 unread in
    let front = protocol_front unread (omega arith) none in
    record {
      inside = long;
      event = record {
        reserved = reserved;
        is_handshake = record {
          infohash = ap length infohash ∙ length-take-le 20 (drop 28 unread) (omega (arith, length-drop 28 unread));
          peer_id = ap length peer_id ∙ length-take-le 20 (drop 48 unread) (omega (arith, length-drop 48 unread));
        };
        eight = length-take-le 8 (drop 20 unread) (omega (arith, length-drop 20 unread));
        spelled = third ∙ ap (λ xs. xs ++ take 20 (drop 48 unread)) (second ∙ ap (λ xs. xs ++ take 20 (drop 28 unread)) (first ∙ ap (λ xs. xs ++ reserved) front))
            ∙ ap (λ xs. protocol ++ reserved ++ xs ++ take 20 (drop 48 unread)) (sym infohash)
            ∙ ap (λ xs. protocol ++ reserved ++ h.infohash ++ xs) (sym peer_id);
      };
    }
