-- Ranges of some bytes, what a byte or a run of digits there tells, and a fault that is passed on.
use Rattle.bt_bencode.proofs.Base.{◌≡◌, ◌≢◌, ℕ, zero, suc, ◌+◌, ◌<◌, ◌≤◌, List, [], ◌∷◌, ◌++◌, length, drop, get_or, refl, sym, ap, ◌∙◌, arith, add-zero, append_assoc, slice_range, Option, None, Some, IsTrue, false, Result, Ok, Err, IfErr, SomeIff, IsErrAnd, IsAsciiDigit, digit_value, AllDigits, get_or-drop, drop_more, between_more, false≢true, Fault, AtFault, Spans, FaultFrom, BencodeError}
use Rattle.std.proofs.lemmas.Str.{digit_value_digit}
use Rattle.std.proofs.lemmas.Int.Digits.{digits_push}
use Rattle.bt_bencode.specs.declared.error.BencodeError.TheVariants.{OutOfMemory}

-- one digit more
pub digits_one_more : (xs : List ℕ) (at end : ℕ) → at ≤ end → end < length xs → IsAsciiDigit (get_or xs end 0) → AllDigits 10 (slice_range xs at end)
    → AllDigits 10 (slice_range xs at (end + 1))
digits_one_more xs at end le lt digit digits =
    let small : digit_value (get_or xs end 0) < 10 = omega (arith, digit_value_digit _ digit, digit.1) in
    rw (between_more xs at end 0 le lt) (digits_push 10 _ _ digits small)

pub drop_first : (i : ℕ) (xs : List ℕ) → get_or (drop i xs) 0 0 ≡ get_or xs i 0
drop_first i xs = get_or-drop i _ 0 0 ∙ ap (λ k. get_or xs k 0) (add-zero i)

-- a byte, and what comes after it
pub drop_byte : (xs : List ℕ) (i : ℕ) {c : ℕ} → i < length xs → get_or xs i 0 ≡ c → drop i xs ≡ c ∷ drop (i + 1) xs
drop_byte xs i lt is = drop_more _ i 0 lt ∙ ap (λ b. b ∷ drop (i + 1) xs) is

pub spans_byte : {bytes : List ℕ} {at c : ℕ} → at < length bytes → get_or bytes at 0 ≡ c → Spans bytes at (at + 1) (c ∷ [])
spans_byte {bytes} {at} lt is = record { forward = omega arith; inside = omega arith; spelled = sym (drop_byte bytes at lt is) }

pub spans_join : {bytes at middle end x y : _} → Spans bytes at middle x → Spans bytes middle end y → Spans bytes at end (x ++ y)
spans_join {bytes} {at} {middle} {end} {x} {y} a b =
    let first : at < middle = a.forward in
    let second : middle < end = b.forward in
    record { forward = omega arith; inside = b.inside; spelled = rw (append_assoc x y (drop end bytes), b.spelled) a.spelled }

-- what is answered by `None` does not hold
pub unless_some : {X : Type 0} → (r : Option X) (P : Type 0) (v : X) → SomeIff r P v → ((x : X) → r ≡ Some x → ⊥) → ¬ P
unless_some None P v iff not_some = iff
unless_some (Some x) P v iff not_some = absurd (not_some x refl)

-- a byte that is not 0 stands inside
pub in_range : (xs : List ℕ) (i : ℕ) {c : ℕ} → c ≢ 0 → get_or xs i 0 ≡ c → i < length xs
in_range [] i some e = absurd (some (sym e))
in_range (x ∷ xs) zero some e = omega arith
in_range (x ∷ xs) (suc i) some e = let lt : i < length xs = in_range xs i some e in omega arith

-- what a test for a byte denies
pub not_standing : (xs : List ℕ) (i c : ℕ) → c ≢ 0 → ((i < length xs) × (get_or xs i 0 ≡ c) → IsTrue false) → get_or xs i 0 ≢ c
not_standing xs i c some denied e = false≢true (denied (in_range _ i some e, e))

at_fault : (P Q : Fault → ℕ → Type 0) → ((f : Fault) (offset : ℕ) → P f offset → Q f offset) → (e : BencodeError) → AtFault P e → AtFault Q e
at_fault P Q pass OutOfMemory h = tt
at_fault P Q pass _ h = pass _ _ h

-- what a `?` returns
pub fault_passed : {T : Type 0} (P Q : Fault → ℕ → Type 0) → ((f : Fault) (offset : ℕ) → P f offset → Q f offset)
    → (r : Result T BencodeError) (e : BencodeError) → IsErrAnd r (λ y. y ≡ e) → AtFault P e → IfErr r (AtFault Q)
fault_passed P Q pass (Ok x) e is h = absurd is
fault_passed P Q pass (Err y) e is h = rw is (at_fault P Q pass e h)

-- the same, where what stops a reading from one place stops that from another
pub stop_passed : {T : Type 0} (P Q : List ℕ → Fault → List ℕ → Type 0) (bytes : List ℕ) (from at : ℕ)
    → ((f : Fault) (rest : List ℕ) → P (drop from bytes) f rest → Q (drop at bytes) f rest)
    → (r : Result T BencodeError) (e : BencodeError) → IsErrAnd r (λ y. y ≡ e) → AtFault (FaultFrom P bytes from) e → IfErr r (AtFault (FaultFrom Q bytes at))
stop_passed P Q bytes from at pass = fault_passed (FaultFrom P bytes from) (FaultFrom Q bytes at) (λ f offset h. (h.0, pass f _ h.1))
