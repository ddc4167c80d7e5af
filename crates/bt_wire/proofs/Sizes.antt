-- The sizes of payloads, by the number of the kind.
use Rattle.std.proofs.Common.{◌≡◌, ℕ, zero, suc, ◌+◌, ◌-◌, ◌≤◌, ◌<◌, ◌%◌, Bool, true, false, IsTrue, inl, inr, Option, Some, None, List, [], length, replicate, lit<, arith, refl, sym, ap, ◌∙◌, subst}
use Rattle.std.proofs.lemmas.List.{length-append, length-replicate}
use Rattle.std.specs.Bool.{OnTrue, OnFalse}
use Rattle.std.proofs.lemmas.Bool.{cases_lt}
use Rattle.bt_hashreq.specs.declared.key.HashKey.{HashKey}
use Rattle.bt_hashreq.specs.Key.{key_spelling, IsKey}
use Rattle.bt_wire.specs.declared.message.Ask.{Ask}
use Rattle.bt_wire.specs.declared.message.Message.{Message}
use Rattle.bt_wire.specs.declared.message.Message.TheVariants.{KeepAlive, Choke, Unchoke, Interested, NotInterested, Have, Bitfield, Request, Piece, Cancel, HashRequest, Hashes, HashReject}
use Rattle.bt_wire.specs.Message.{Body, body, body_of, IsAsk, IsMessage, HasWholeDigests, IsKnownKind, HasPayloadLength}
use Rattle.bt_wire.specs.ReaderSteps.{HasSize, IsListed}
use Rattle.bt_wire.specs.FrontSteps.{FitsKind, IsMisfit}
use Rattle.bt_wire.proofs.Events.{same_kind}

payload_in : Option Body → List ℕ
payload_in None = []
payload_in (Some b) = b.payload

same_payload : (kind other : ℕ) (p q : List ℕ) → body kind p ≡ body other q → p ≡ q
unfolding payload_in
same_payload kind other p q e = ap payload_in e

key_size : (k : HashKey) → IsKey k → length (key_spelling k) ≡ 48
key_size k lawful = simp length-append (omega (arith, lawful.root))

flag_size : (k kind : ℕ) (payload : List ℕ) → k ≤ 3 → body k [] ≡ body kind payload → HasSize kind (length payload)
flag_size k kind payload low e =
    let number : k ≡ kind = same_kind k kind [] payload e in
    let size : 0 ≡ length payload = ap length (same_payload k kind [] payload e) in
    grind arith

-- the size of a message's payload
size_of : (m : Message) (kind : ℕ) (payload : List ℕ) → IsMessage m → HasWholeDigests m → body_of m ≡ body kind payload
    → HasSize kind (length payload)
size_of KeepAlive kind payload m-is whole e = cc
size_of Choke kind payload m-is whole e = flag_size 0 kind payload (omega arith) e
size_of Unchoke kind payload m-is whole e = flag_size 1 kind payload (omega arith) e
size_of Interested kind payload m-is whole e = flag_size 2 kind payload (omega arith) e
size_of NotInterested kind payload m-is whole e = flag_size 3 kind payload (omega arith) e
size_of (Have piece) kind payload m-is whole e =
    let number : 4 ≡ kind = same_kind 4 kind _ payload e in
    let size : 4 ≡ length payload = ap length (same_payload 4 kind _ payload e) in
    grind arith
size_of (Bitfield bits) kind payload m-is whole e = let number : 5 ≡ kind = same_kind 5 kind _ payload e in grind arith
size_of (Request ask) kind payload m-is whole e =
    let number : 6 ≡ kind = same_kind 6 kind _ payload e in
    let size : 12 ≡ length payload = ap length (same_payload 6 kind _ payload e) in
    grind arith
size_of (Piece piece begin bytes) kind payload m-is whole e =
    let number : 7 ≡ kind = same_kind 7 kind _ payload e in
    let size : 8 + length bytes ≡ length payload = omega (arith, ap length (same_payload 7 kind _ payload e)) in
    grind arith
size_of (Cancel ask) kind payload m-is whole e =
    let number : 8 ≡ kind = same_kind 8 kind _ payload e in
    let size : 12 ≡ length payload = ap length (same_payload 8 kind _ payload e) in
    grind arith
size_of (HashRequest key) kind payload m-is whole e =
    let number : 21 ≡ kind = same_kind 21 kind _ payload e in
    let size : 48 ≡ length payload = sym (key_size key m-is) ∙ ap length (same_payload 21 kind _ payload e) in
    grind arith
size_of (Hashes key digests) kind payload m-is whole e =
    let number : 22 ≡ kind = same_kind 22 kind _ payload e in
    let size : 48 + length digests ≡ length payload
    = omega (arith, key_size key m-is, length-append (key_spelling key) digests, ap length (same_payload 22 kind _ payload e)) in
    let behind : length payload - 48 ≡ length digests = omega arith in
    let digests : (length payload - 48) % 32 ≡ 0 = ap (λ n. n % 32) behind ∙ whole in
    grind arith
size_of (HashReject key) kind payload m-is whole e =
    let number : 23 ≡ kind = same_kind 23 kind _ payload e in
    let size : 48 ≡ length payload = sym (key_size key m-is) ∙ ap length (same_payload 23 kind _ payload e) in
    grind arith

pub has_size : (kind n : ℕ) → HasPayloadLength kind n → HasSize kind n
has_size kind n has =
    subst (λ (n : ℕ). HasSize kind n) has.size (size_of has.message kind has.payload has.is_message has.whole has.body_is)

-- a message of each kind
zero_ask : Ask
zero_ask = record { piece = 0; begin = 0; length = 0 }

zero_key : HashKey
zero_key = record { root = replicate 32 0; base = 0; index = 0; length = 0; layers = 0 }

is_zero_ask : IsAsk zero_ask
unfolding zero_ask
is_zero_ask = record { piece = lit< tt; begin = lit< tt; length = lit< tt }

is_zero_key : IsKey zero_key
unfolding zero_key
is_zero_key = record { root = refl; base = lit< tt; index = lit< tt; length = lit< tt; layers = lit< tt }

sized : (m : Message) (kind n : ℕ) (payload : List ℕ) → IsMessage m → HasWholeDigests m → body_of m ≡ body kind payload → length payload ≡ n
    → HasPayloadLength kind n
sized m kind n payload m-is whole e size =
    record { message = m; payload = payload; is_message = m-is; whole = whole; body_is = e; size = size }

small_sized : (kind n : ℕ) → kind ≤ 8 → HasSize kind n → HasPayloadLength kind n
small_sized zero n low size = sized Choke 0 n [] tt tt refl (sym (size.empty (omega arith)))
small_sized (suc zero) n low size = sized Unchoke 1 n [] tt tt refl (sym (size.empty (omega arith)))
small_sized (suc (suc zero)) n low size = sized Interested 2 n [] tt tt refl (sym (size.empty (omega arith)))
small_sized (suc (suc (suc zero))) n low size = sized NotInterested 3 n [] tt tt refl (sym (size.empty (omega arith)))
small_sized (suc (suc (suc (suc zero)))) n low size = sized (Have 0) 4 n _ (lit< tt) tt refl (sym (size.have refl))
small_sized (suc (suc (suc (suc (suc zero))))) n low size =
    sized (Bitfield (replicate n 0)) 5 n _ tt tt refl (length-replicate n 0)
small_sized (suc (suc (suc (suc (suc (suc zero)))))) n low size = sized (Request zero_ask) 6 n _ is_zero_ask tt refl (sym (size.request refl))
small_sized (suc (suc (suc (suc (suc (suc (suc zero))))))) n low size =
    let bytes : List ℕ = replicate (n - 8) 0 in
    let long : 8 ≤ n = size.piece refl in
    sized (Piece 0 0 bytes) 7 n _ (lit< tt, lit< tt) tt refl (omega (arith, length-replicate {A = ℕ} (n - 8) 0))
small_sized (suc (suc (suc (suc (suc (suc (suc (suc zero)))))))) n low size =
    sized (Cancel zero_ask) 8 n _ is_zero_ask tt refl (sym (size.cancel refl))
small_sized (suc (suc (suc (suc (suc (suc (suc (suc (suc kind))))))))) n low size = absurd (omega arith)

-- 21 and the kinds after it
large_sized : (above n : ℕ) → above ≤ 2 → HasSize (above + 21) n → HasPayloadLength (above + 21) n
large_sized zero n low size =
    sized (HashRequest zero_key) 21 n _ is_zero_key tt refl (key_size zero_key is_zero_key ∙ sym (size.hash_request refl))
large_sized (suc zero) n low size =
    let digests : List ℕ = replicate (n - 48) 0 in
    let long : 48 ≤ n = size.hashes refl in
    let whole : length digests % 32 ≡ 0 = ap (λ k. k % 32) (length-replicate (n - 48) 0) ∙ size.digests refl in
    sized (Hashes zero_key digests) 22 n _ is_zero_key whole refl
    (omega (arith, length-append (key_spelling zero_key) digests, key_size zero_key is_zero_key, length-replicate {A = ℕ} (n - 48) 0))
large_sized (suc (suc zero)) n low size =
    sized (HashReject zero_key) 23 n _ is_zero_key tt refl (key_size zero_key is_zero_key ∙ sym (size.hash_reject refl))
large_sized (suc (suc (suc above))) n low size = absurd (omega arith)

pub has_payload_length : (kind n : ℕ) → IsListed kind → HasSize kind n → HasPayloadLength kind n
has_payload_length kind n (inl low) size = small_sized kind n low size
has_payload_length kind n (inr high) size =
    let above : kind - 21 + 21 ≡ kind = omega (arith, high.0) in
    subst (λ (k : ℕ). HasPayloadLength k n) above
    (large_sized (kind - 21) n (omega (arith, high.1)) (subst (λ (k : ℕ). HasSize k n) (sym above) size))

-- each kind has a size
flags : (kind : ℕ) → kind < 4 → HasSize kind 0
flags kind h = grind arith

haves : (kind : ℕ) → 4 ≤ kind → kind < 5 → HasSize kind 4
haves kind low high = grind arith

others : (kind : ℕ) → kind ≤ 8 → 5 ≤ kind → HasSize kind 12
others kind high low = grind arith

keys : (kind : ℕ) → 21 ≤ kind → HasSize kind 48
keys kind low = grind arith

some_size : (kind : ℕ) → IsListed kind → (n : ℕ) × HasSize kind n
some_size kind (inl low) = elim (cases_lt kind 4) [
  | inl flag ↦ (0, flags kind flag)
  | inr more ↦ elim (cases_lt kind 5) [
    | inl have ↦ (4, haves kind more have)
    | inr last ↦ (12, others kind low last)
  ]
]
some_size kind (inr high) = (48, keys kind high.0)

pub is_known : (kind : ℕ) → IsListed kind → IsKnownKind kind
is_known kind is =
    let size = some_size kind is in
    let has = has_payload_length kind size.0 is size.1 in
    (has.message, has.payload, has.body_is)

-- what a test of the size says
pub fits_listed : (kind n : ℕ) (fits : Bool) → IsListed kind → (IsTrue fits → HasSize kind n) → OnTrue fits (FitsKind kind n)
fits_listed kind n true is size = λ known. has_payload_length kind n is (size refl)
fits_listed kind n false is size = tt

pub misfit_listed : (kind n : ℕ) (fits : Bool) → IsListed kind → (HasSize kind n → IsTrue fits) → OnFalse fits (IsMisfit kind n)
misfit_listed kind n true is test = tt
misfit_listed kind n false is test = (is_known kind is, λ has. let yes = test (has_size kind n has) in absurd cc)

no_size_below : (kind n : ℕ) → 9 ≤ kind → kind < 21 → HasSize kind n
no_size_below kind n low high = grind arith

no_size_above : (kind n : ℕ) → 24 ≤ kind → HasSize kind n
no_size_above kind n low = grind arith

-- a kind that is not known has every size
pub fitting_size : (kind n : ℕ) → FitsKind kind n → HasSize kind n
fitting_size kind n fits = elim (cases_lt kind 9) [
  | inl low ↦ let is : IsListed kind = inl (omega arith) in has_size kind n (fits (is_known kind is))
  | inr past ↦ elim (cases_lt kind 21) [
    | inl gap ↦ no_size_below kind n past gap
    | inr high ↦ elim (cases_lt kind 24) [
      | inl top ↦ let is : IsListed kind = inr (high, omega arith) in has_size kind n (fits (is_known kind is))
      | inr above ↦ no_size_above kind n above
    ]
  ]
]
