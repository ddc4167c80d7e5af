-- A body tells its message.
use Rattle.std.proofs.Common.{◌≡◌, ℕ, ◌==◌, if◌then◌else◌, Option, Some, None, List, [], ◌++◌, length, take, drop, sym, ◌∙◌, ap, refl}
use Rattle.std.specs.Int.{w32, to_be_bytes}
use Rattle.std.proofs.lemmas.List.{take_at, drop_at, append_assoc, append-nil, take-append-drop, drop-drop}
use Rattle.bt_hashreq.specs.declared.key.HashKey.{HashKey}
use Rattle.bt_hashreq.specs.Key.{key_spelling, IsKey}
use Rattle.bt_wire.specs.declared.message.Ask.{Ask}
use Rattle.bt_wire.specs.declared.message.Message.{Message}
use Rattle.bt_wire.specs.declared.message.Message.TheVariants.{KeepAlive, Choke, Unchoke, Interested, NotInterested, Have, Bitfield, Request, Piece, Cancel, HashRequest, Hashes, HashReject}
use Rattle.bt_wire.specs.Message.{Body, body_of, ask_spelling, IsAsk, IsMessage}
use Rattle.bt_wire.proofs.SameFrames.{first_number, number_at_front}

ask_of : ℕ → ℕ → ℕ → Ask
ask_of piece begin length = record { piece = piece; begin = begin; length = length }

ask_in : List ℕ → Ask
ask_in bytes = record { piece = first_number bytes; begin = first_number (drop 4 bytes); length = first_number (drop 8 bytes) }

ask_is : (a : Ask) → IsAsk a → ask_in (ask_spelling a) ≡ a
unfolding ask_in ask_of
ask_is a lawful =
    let piece : first_number (ask_spelling a) ≡ a.piece
    = number_at_front a.piece (to_be_bytes w32 a.begin ++ to_be_bytes w32 a.length) lawful.piece in
    let begin : first_number (drop 4 (ask_spelling a)) ≡ a.begin = number_at_front a.begin (to_be_bytes w32 a.length) lawful.begin in
    let length : first_number (drop 8 (ask_spelling a)) ≡ a.length = number_at_front a.length [] lawful.length in
    ap (λ n. ask_of n (first_number (drop 4 (ask_spelling a))) (first_number (drop 8 (ask_spelling a)))) piece
    ∙ ap (λ n. ask_of a.piece n (first_number (drop 8 (ask_spelling a)))) begin ∙ ap (λ n. ask_of a.piece a.begin n) length

key_of : List ℕ → ℕ → ℕ → ℕ → ℕ → HashKey
key_of root base index length layers = record { root = root; base = base; index = index; length = length; layers = layers }

key_in : List ℕ → HashKey
key_in bytes = let numbers = drop 32 bytes in record {
  root = take 32 bytes;
  base = first_number numbers;
  index = first_number (drop 4 numbers);
  length = first_number (drop 8 numbers);
  layers = first_number (drop 12 numbers);
}

numbers_of : HashKey → List ℕ → List ℕ
numbers_of k rest = to_be_bytes w32 k.base ++ (to_be_bytes w32 k.index ++ (to_be_bytes w32 k.length ++ (to_be_bytes w32 k.layers ++ rest)))

split_key : (k : HashKey) (rest : List ℕ) → key_spelling k ++ rest ≡ k.root ++ numbers_of k rest
unfolding numbers_of
split_key k rest = simp append_assoc

key_is : (k : HashKey) (rest : List ℕ) → IsKey k → key_in (key_spelling k ++ rest) ≡ k
unfolding key_in key_of numbers_of
key_is k rest lawful =
    let bytes = key_spelling k ++ rest in
    let root : take 32 bytes ≡ k.root = ap (λ xs. take 32 xs) (split_key k rest) ∙ take_at k.root (numbers_of k rest) 32 lawful.root in
    let numbers : drop 32 bytes ≡ numbers_of k rest = ap (λ xs. drop 32 xs) (split_key k rest) ∙ drop_at k.root (numbers_of k rest) 32 lawful.root in
    let base : first_number (drop 32 bytes) ≡ k.base = ap first_number numbers ∙ number_at_front k.base _ lawful.base in
    let index : first_number (drop 4 (drop 32 bytes)) ≡ k.index = ap (λ xs. first_number (drop 4 xs)) numbers ∙ number_at_front k.index _ lawful.index in
    let length : first_number (drop 8 (drop 32 bytes)) ≡ k.length = ap (λ xs. first_number (drop 8 xs)) numbers ∙ number_at_front k.length _ lawful.length in
    let layers : first_number (drop 12 (drop 32 bytes)) ≡ k.layers = ap (λ xs. first_number (drop 12 xs)) numbers ∙ number_at_front k.layers rest lawful.layers in
    let numbers_at : List ℕ = drop 32 bytes in
    let n : ℕ → ℕ = λ i. first_number (drop i numbers_at) in
    ap (λ r. key_of r (first_number numbers_at) (n 4) (n 8) (n 12)) root ∙ ap (λ i. key_of k.root i (n 4) (n 8) (n 12)) base
    ∙ ap (λ i. key_of k.root k.base i (n 8) (n 12)) index ∙ ap (λ i. key_of k.root k.base k.index i (n 12)) length
    ∙ ap (λ i. key_of k.root k.base k.index k.length i) layers

digests_in : List ℕ → List ℕ
digests_in bytes = drop 16 (drop 32 bytes)

digests_are : (k : HashKey) (rest : List ℕ) → IsKey k → digests_in (key_spelling k ++ rest) ≡ rest
unfolding digests_in numbers_of
digests_are k rest lawful = ap (λ xs. drop 16 (drop 32 xs)) (split_key k rest) ∙ ap (λ xs. drop 16 xs) (drop_at k.root (numbers_of k rest) 32 lawful.root)

message_in : Option Body → Message
message_in None = KeepAlive
message_in (Some b) =
    if b.kind == 0 then Choke else if b.kind == 1 then Unchoke else if b.kind == 2 then Interested else if b.kind == 3 then NotInterested
    else if b.kind == 4 then Have (first_number b.payload) else if b.kind == 5 then Bitfield b.payload
    else if b.kind == 6 then Request (ask_in b.payload)
    else if b.kind == 7 then Piece (first_number b.payload) (first_number (drop 4 b.payload)) (drop 8 b.payload)
    else if b.kind == 8 then Cancel (ask_in b.payload) else if b.kind == 21 then HashRequest (key_in b.payload)
    else if b.kind == 22 then Hashes (key_in b.payload) (digests_in b.payload) else HashReject (key_in b.payload)

short_key : (k : HashKey) → IsKey k → key_in (key_spelling k) ≡ k
short_key k lawful = sym (ap key_in (append-nil (key_spelling k))) ∙ key_is k [] lawful

message_is : (m : Message) → IsMessage m → message_in (body_of m) ≡ m
unfolding message_in
message_is KeepAlive _ = refl
message_is Choke _ = refl
message_is Unchoke _ = refl
message_is Interested _ = refl
message_is NotInterested _ = refl
message_is (Have piece) lawful = ap Have (number_at_front piece [] lawful)
message_is (Bitfield bits) _ = refl
message_is (Request ask) lawful = ap Request (ask_is ask lawful)
message_is (Piece piece begin bytes) lawful =
    ap (λ n. Piece n (first_number (to_be_bytes w32 begin ++ bytes)) bytes) (number_at_front piece (to_be_bytes w32 begin ++ bytes) lawful.0)
    ∙ ap (λ n. Piece piece n bytes) (number_at_front begin bytes lawful.1)
message_is (Cancel ask) lawful = ap Cancel (ask_is ask lawful)
message_is (HashRequest key) lawful = ap HashRequest (short_key key lawful)
message_is (Hashes key digests) lawful =
    ap (λ k. Hashes k (digests_in (key_spelling key ++ digests))) (key_is key digests lawful) ∙ ap (λ xs. Hashes key xs) (digests_are key digests lawful)
message_is (HashReject key) lawful = ap HashReject (short_key key lawful)

pub same_message : (m n : Message) → IsMessage m → IsMessage n → body_of m ≡ body_of n → m ≡ n
same_message m n m-is n-is e = sym (message_is m m-is) ∙ ap message_in e ∙ message_is n n-is

-- the payload of a piece: two numbers and the bytes after them
pub piece_payload : (payload : List ℕ) (piece begin : ℕ) → to_be_bytes w32 piece ≡ take 4 (drop 0 payload)
    → to_be_bytes w32 begin ≡ take 4 (drop 4 payload)
    → to_be_bytes w32 piece ++ (to_be_bytes w32 begin ++ drop 8 payload) ≡ payload
piece_payload payload piece begin first second =
    ap (λ xs. xs ++ (to_be_bytes w32 begin ++ drop 8 payload)) first
    ∙ ap (λ xs. take 4 payload ++ xs)
    (ap (λ xs. xs ++ drop 8 payload) second ∙ ap (λ xs. take 4 (drop 4 payload) ++ xs) (sym (drop-drop 4 4 payload)) ∙ take-append-drop 4 (drop 4 payload))
    ∙ take-append-drop 4 payload
