-- What is given on can be sent.
use Rattle.std.proofs.Common.{◌≡◌, ◌<◌, ◌≤◌, ◌+◌, ◌-◌, ◌^◌, ℕ, List, length, replicate, sym, ◌∙◌, ap, arith, subst, length-append}
use Rattle.std.proofs.lemmas.List.{length-replicate}
use Rattle.bt_wire.specs.Message.{Fits, IsAsk}
use Rattle.bt_wire.specs.declared.message.Ask.{Ask}
use Rattle.bt_wire.specs.declared.message.Message.{Message}
use Rattle.bt_wire.specs.declared.message.Message.TheVariants.{Request, Piece}
use Rattle.bt_meta.specs.Torrent.{Metainfo}
use Rattle.bt_connection.specs.ShortBlocks.{padded, short_blocks_of}
use Rattle.bt_connection.specs.Padding.{Memory, filled, ComesIn, GoesOut, request, exact, piece, other}
use Rattle.bt_connection.specs.Law.{CanBeSent, GivenOnCanBeSent}
use Rattle.bt_connection.proofs.LastBlocks.{short_blocks_are}

-- a request is sendable where its numbers have four bytes
request_fits : (ask : Ask) → IsAsk ask → CanBeSent (Request ask)
request_fits ask is = record { is_message = is; fits = record { limit = omega arith; whole = tt } }

-- a piece is sendable where it has not too many bytes
piece_fits : (p b : ℕ) (bytes : List ℕ) → p < 2 ^ 32 → b < 2 ^ 32 → 9 + length bytes ≤ 2 ^ 20 → CanBeSent (Piece p b bytes)
piece_fits p b bytes p-is b-is few = record { is_message = (p-is, b-is); fits = record { limit = omega (arith, few); whole = tt } }

piece_few : (p b : ℕ) (bytes : List ℕ) → Fits (Piece p b bytes) → 9 + length bytes ≤ 2 ^ 20
piece_few p b bytes fits = omega (arith, fits.limit)

filled_length : (bytes : List ℕ) → length (filled bytes) ≡ length bytes + (16384 - length bytes)
filled_length bytes = length-append bytes (replicate (16384 - length bytes) 0) ∙ ap (λ n. length bytes + n) (length-replicate (16384 - length bytes) 0)

-- with zeros after it still is
pub filled_fits : (p b : ℕ) (bytes : List ℕ) → CanBeSent (Piece p b bytes) → CanBeSent (Piece p b (filled bytes))
filled_fits p b bytes can =
    let numbers = can.is_message in
    piece_fits p b (filled bytes) numbers.0 numbers.1 (omega (arith, piece_few p b bytes can.fits, filled_length bytes))

pub sendable_in : (torrent : Metainfo) (old new : Memory) (m given : Message) → CanBeSent m → ComesIn (short_blocks_of torrent) old m given new
    → CanBeSent given
sendable_in torrent old new m given can (request ask asks given-is new-is) =
    let was : CanBeSent (Request (padded ask)) = subst (λ (x : Message). CanBeSent x) asks.1 can in
    let numbers = was.is_message in
    let short = ((short_blocks_are torrent ask).0 asks.0).short in
    subst (λ (x : Message). CanBeSent x) (sym given-is)
    (request_fits ask (record { piece = numbers.piece; begin = numbers.begin; length = omega (arith, short) }))
sendable_in torrent old new m given can (exact ask asks given-is new-is) = subst (λ (x : Message). CanBeSent x) (sym given-is) can
sendable_in torrent old new m given can (other _ given-is new-is) = subst (λ (x : Message). CanBeSent x) (sym given-is) can

pub sendable_out : (torrent : Metainfo) (old new : Memory) (m given : Message) → CanBeSent m → GoesOut (short_blocks_of torrent) old m given new
    → CanBeSent given
sendable_out torrent old new m given can (piece ask bytes answers taken given-is) =
    subst (λ (x : Message). CanBeSent x) (sym given-is)
    (filled_fits ask.piece ask.begin bytes (subst (λ (x : Message). CanBeSent x) answers.message can))
sendable_out torrent old new m given can (other _ given-is new-is) = subst (λ (x : Message). CanBeSent x) (sym given-is) can

pub sendable : GivenOnCanBeSent
sendable = record { incoming = sendable_in; outgoing = sendable_out }
