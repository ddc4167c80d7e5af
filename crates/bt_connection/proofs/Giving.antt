-- What is given on in place of a frame.
use Rattle.std.proofs.Common.{◌≡◌, ◌≤◌, ◌+◌, ◌-◌, ℕ, List, ◌++◌, take, drop, length, refl, sym, ◌∙◌, ap, subst, arith, Contains, remove, replicate, length-append}
use Rattle.std.proofs.lemmas.List.{length-replicate}
use Rattle.std.specs.Int.{w32, to_be_bytes}
use Rattle.bt_tree.specs.Limits.{full_block_length}
use Rattle.bt_wire.specs.Message.{message_spelling}
use Rattle.bt_wire.specs.Event.{IsSent}
use Rattle.bt_wire.specs.Law.{StreamsHaveOneReading}
use Rattle.bt_wire.specs.declared.message.Ask.{Ask}
use Rattle.bt_wire.specs.declared.message.Message.TheVariants.{Request, Piece}
use Rattle.bt_connection.specs.ShortBlocks.{padded}
use Rattle.bt_connection.specs.Padding.{Memory, with_asked, without, filled, request, exact, piece, other}
use Rattle.bt_connection.specs.PaddingSteps.{IsFirstAt}
use Rattle.bt_connection.specs.Padded.{frame_room_length}
use Rattle.bt_connection.specs.Translation.{Gives}
use Rattle.bt_connection.specs.declared.translation.Side.TheVariants.{Peer, Engine}
use Rattle.bt_connection.proofs.MessageParts.{ask_in, is_there, is_taken}
use Rattle.bt_connection.proofs.Streams.{one_message}

-- with another length in its place a request is the one of that length
pub shortened : (short : Ask) (frame : List ℕ) → frame ≡ message_spelling (Request (padded short))
    → take 13 frame ++ to_be_bytes w32 short.length ++ drop (13 + 4) frame ≡ message_spelling (Request short)
shortened short frame is = ap (λ (xs : List ℕ). take 13 xs ++ to_be_bytes w32 short.length ++ drop 17 xs) is

-- with zeros after it, and the length field of a whole block, a piece is the one of the filled block
pub filled_up : (p b : ℕ) (block frame : List ℕ) → frame ≡ message_spelling (Piece p b block) → length frame ≤ frame_room_length
    → (let all : List ℕ = frame ++ replicate (frame_room_length - length frame) 0 in take 0 all ++ to_be_bytes w32 16393 ++ drop (0 + 4) all)
    ≡ message_spelling (Piece p b (filled block))
filled_up p b block frame is few =
    let size : length frame ≡ 13 + length block = omega (arith, ap length is) in
    let zeros : frame_room_length - length frame ≡ full_block_length - length block = omega (arith, size) in
    let whole : length (filled block) ≡ full_block_length
    = length-append block (replicate (full_block_length - length block) 0) ∙ ap (λ n. length block + n) (length-replicate (full_block_length - length block) 0) ∙ omega (arith, size, few) in
    let field : 16393 ≡ 1 + length (to_be_bytes w32 p ++ to_be_bytes w32 b ++ filled block) = omega (arith, whole) in
    ap (λ (xs : List ℕ). to_be_bytes w32 16393 ++ drop 4 xs) (ap (λ (xs : List ℕ). xs ++ replicate (frame_room_length - length frame) 0) is ∙ ap (λ n. message_spelling (Piece p b block) ++ replicate n 0) zeros)
    ∙ ap (λ n. to_be_bytes w32 n ++ drop 4 (message_spelling (Piece p b block) ++ replicate (full_block_length - length block) 0)) field

module _ (law : StreamsHaveOneReading) (blocks : List Ask) (memory : Memory) (frame : List ℕ) where
  -- a request that is for no short block, with its padding or without
  pub request_passes : (ask : Ask) → IsSent (Request ask) frame → ((short : Ask) → Contains blocks short → ask ≡ padded short → ⊥)
      → ¬ Contains blocks ask → Gives blocks Peer memory frame frame memory
  request_passes ask sent unfit none-such = record {
    message = λ m is.
        let named : (a : Ask) → m ≡ Request a → ask ≡ a = λ a of. ap ask_in (one_message law (Request ask) m frame sent is ∙ of) in (
          m,
          other (
            λ short asks. unfit short asks.0 (named (padded short) asks.1),
            λ short asks. none-such (subst (λ (a : Ask). Contains blocks a) (sym (named short asks.1)) asks.0),
          ) refl refl,
          is.spelled,
        );
    bytes = λ none. refl;
    memory = λ none. refl;
  }

  -- one that is for what the file has there
  pub request_exact : (ask : Ask) → IsSent (Request ask) frame → Contains blocks ask → Gives blocks Peer memory frame frame (without memory ask)
  request_exact ask sent there = record {
    message = λ m is. (m, exact ask (there, one_message law m (Request ask) frame is sent) refl refl, is.spelled);
    bytes = λ none. refl;
    memory = λ none. absurd (none (Request ask) sent);
  }

  -- one with padding
  pub request_shortened : (ask short : Ask) → IsSent (Request ask) frame → Contains blocks short → ask ≡ padded short
      → Gives blocks Peer memory frame (message_spelling (Request short)) (with_asked (without memory short) short)
  request_shortened ask short sent there same = record {
    message = λ m is. (
      Request short,
      request short (there, one_message law m (Request ask) frame is sent ∙ ap Request same) refl refl,
      refl,
    );
    bytes = λ none. absurd (none (Request ask) sent);
    memory = λ none. absurd (none (Request ask) sent);
  }

  -- one that does
  pub piece_filled : (ask : Ask) (block : List ℕ) (index : ℕ) → IsSent (Piece ask.piece ask.begin block) frame → length block ≡ ask.length
      → IsFirstAt memory ask index → Contains blocks ask
      → Gives blocks Engine memory frame (message_spelling (Piece ask.piece ask.begin (filled block))) (remove memory index)
  piece_filled ask block index sent whole first there = record {
    message = λ m is. (
      Piece ask.piece ask.begin (filled block),
      piece ask block
          (record { remembered = is_there memory ask index first; short = there; whole = whole; message = one_message law m (Piece ask.piece ask.begin block) frame is sent })
          (is_taken memory ask index first) refl,
      refl,
    );
    bytes = λ none. absurd (none (Piece ask.piece ask.begin block) sent);
    memory = λ none. absurd (none (Piece ask.piece ask.begin block) sent);
  }
