-- What is left of bytes that wait, once some of them are given.
use Rattle.std.proofs.Common.{◌≡◌, ◌≤◌, ◌<◌, ℕ, ◌+◌, ◌-◌, List, ◌++◌, take, drop, length, sym, ◌∙◌, ap, subst, arith, length-append, drop-drop, drop_at, take_at, eq-zero-or-pos, ⊎_elim}
use Rattle.std.specs.Prelude.{Contains}
use Rattle.std.proofs.lemmas.List.Elements.{All-contains}
use Rattle.bt_wire.specs.declared.frames.TheConstants.{BLOCK_MESSAGE_LEN}
use Rattle.bt_connection.specs.Messages.{IsHeld, IsBlockLong, IsLongAt}
use Rattle.bt_connection.specs.MessageSteps.{HasLong}
use Rattle.bt_connection.proofs.Longs.{long_after}
use Rattle.bt_connection.specs.ReadAhead.{ahead_room_length, IsOrderly}

-- what stands after those that may be given stays where it is
same_behind : (all front new : List ℕ) (ready count : ℕ) → all ≡ front ++ new → length front ≡ count → count ≤ ready
    → drop ready all ≡ drop (ready - count) new
same_behind all front new ready count parts size within =
    let left : ℕ = ready - count in
    let whole : ready ≡ count + left = omega arith in
    ap (λ (l : List ℕ). drop ready l) parts
    ∙ ap (λ (n : ℕ). drop n (front ++ new)) whole
    ∙ sym (drop-drop left count (front ++ new))
    ∙ ap (λ (l : List ℕ). drop left l) (drop_at front new count size)

pub orderly_after : (all front new : List ℕ) (ready count : ℕ) → IsOrderly all ready → all ≡ front ++ new → length front ≡ count
    → count ≤ ready → length all ≤ ahead_room_length → IsOrderly new (ready - count)
orderly_after all front new ready count order parts size within fits =
    let long : length all ≡ count + length new
    = ap (λ (l : List ℕ). length l) parts ∙ length-append front new ∙ ap (λ (n : ℕ). n + length new) size in
    record {
      within = omega (arith, order.within, long);
      held = subst IsHeld (same_behind all front new ready count parts size within) order.held;
      some = λ none. ⊎_elim
          (λ (zero : count ≡ 0). let first : length all < ahead_room_length = order.some (omega (arith, none, zero)) in omega (arith, first, long))
          (λ (more : 0 < count). omega (arith, more, long, fits))
          (eq-zero-or-pos count);
    }

-- nothing of a message is left of those that may be given, but what stands after those that are
pub long_after_given : (all front new : List ℕ) (ready count : ℕ) (lefts : List ℕ) → HasLong all ready lefts → all ≡ front ++ new
    → length front ≡ count → HasLong new (ready - count) lefts
long_after_given all front new ready count lefts has parts size =
    let behind : drop count all ≡ new = ap (λ (l : List ℕ). drop count l) parts ∙ drop_at front new count size in
    let long : length all ≡ length front + length new = ap (λ (l : List ℕ). length l) parts ∙ length-append front new in
    subst (λ (l : List ℕ). HasLong l (ready - count) lefts) behind
    (long_after all count ready lefts (omega (arith, long, size)) has)

-- once the first message is given, which is as long as a piece with a whole block
pub record LeavesLong (message new : List ℕ) (ready : ℕ) (lefts : List ℕ) : Type 0 where
  pub whole : IsBlockLong message
  pub order : IsOrderly new (ready - BLOCK_MESSAGE_LEN)
  pub others : HasLong new (ready - BLOCK_MESSAGE_LEN) lefts

pub long_gone : (all message new : List ℕ) (ready : ℕ) (lefts : List ℕ) → IsOrderly all ready → HasLong all ready lefts
    → Contains lefts (length all) → all ≡ message ++ new → length message ≡ BLOCK_MESSAGE_LEN → length all ≤ ahead_room_length
    → LeavesLong message new ready lefts
long_gone all message new ready lefts order has first parts size fits =
    let is : IsLongAt all ready (length all)
    = All-contains (λ left. left ≤ length all → IsLongAt all ready left) lefts (length all) has.each first (omega arith) in
    let none : length all - length all ≡ 0 = omega arith in
    let message_is : take BLOCK_MESSAGE_LEN (drop (length all - length all) all) ≡ message
    = ap (λ (n : ℕ). take BLOCK_MESSAGE_LEN (drop n all)) none ∙ ap (λ (l : List ℕ). take BLOCK_MESSAGE_LEN l) parts
    ∙ take_at message new BLOCK_MESSAGE_LEN size in
    record {
      whole = subst IsBlockLong message_is is.message;
      order = orderly_after all message new ready BLOCK_MESSAGE_LEN order parts size (omega (arith, none, is.within)) fits;
      others = long_after_given all message new ready BLOCK_MESSAGE_LEN lefts has parts size;
    }
