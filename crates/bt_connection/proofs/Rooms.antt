-- The bytes in a room, of which the first are given on.
use Rattle.std.proofs.Common.{◌≡◌, ◌≤◌, ◌+◌, ◌-◌, ◌++◌, ℕ, List, [], take, drop, length, ◌∙◌, ap, subst, arith, length-take, length-append}
use Rattle.std.proofs.lemmas.List.{take_all}
use Rattle.std.proofs.Math.Seq.{take-append-add, drop-append-add}
use Rattle.bt_wire.specs.Frames.{IsFrame, BeginsFrame}
use Rattle.bt_connection.specs.TranslationSteps.{EndsWithFrame}

pub none_ready : (ready : ℕ) (room : List ℕ) → ready ≤ length room → take ready room ≡ [] → ready ≡ 0
none_ready ready room inside none = omega (arith, inside, ap length none, length-take ready room)

-- the first of them are given
pub ready_behind : (ready count : ℕ) (old front new : List ℕ) → old ≡ front ++ new → length front ≡ count → count ≤ ready
    → take ready old ≡ front ++ take (ready - count) new
ready_behind ready count old front new is size few =
    let sum : ready ≡ length front + (ready - count) = omega (arith, size, few) in
    ap (λ (xs : List ℕ). take ready xs) is ∙ ap (λ n. take n (front ++ new)) sum ∙ take-append-add front new (ready - count)

pub unread_behind : (ready count : ℕ) (old front new : List ℕ) → old ≡ front ++ new → length front ≡ count → count ≤ ready
    → drop ready old ≡ drop (ready - count) new
unread_behind ready count old front new is size few =
    let sum : ready ≡ length front + (ready - count) = omega (arith, size, few) in
    ap (λ (xs : List ℕ). drop ready xs) is ∙ ap (λ n. drop n (front ++ new)) sum ∙ drop-append-add front new (ready - count)

pub fewer : (ready count : ℕ) (old front new : List ℕ) → old ≡ front ++ new → length front ≡ count → ready ≤ length old
    → ready - count ≤ length new
fewer ready count old front new is size inside = omega (arith, ap length is, length-append front new, size, inside)

-- where they end with a frame that they begin with they are one
pub whole_frame : (bytes : List ℕ) (n : ℕ) → EndsWithFrame bytes → BeginsFrame bytes n → IsFrame bytes
whole_frame bytes n ends begins =
    let all : take n bytes ≡ bytes = take_all n bytes (omega (arith, ends n begins)) in
    subst IsFrame all begins.frame
