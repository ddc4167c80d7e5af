use Rattle.std.proofs.Common.{◌≡◌, ◌%◌, ℕ, List, ◌++◌, take, drop, sym, ◌∙◌, ap}
use Rattle.std.proofs.lemmas.List.{length-drop, take-append-drop}
use Rattle.bt_hashreq.specs.Key.{key_spelling}
use Rattle.bt_wire.specs.declared.message.Message.TheVariants.{Bitfield, Piece, Hashes}
use Rattle.bt_wire.specs.Message.{body}
use Rattle.bt_wire.proofs.Bodies.{piece_payload}
use Rattle.bt_wire.proofs.Takings.{err_of}
use Rattle.bt_wire.proofs.reader.read_message.Goals as goal

pub returns-in_err-copied-in-5-clause-refused : goal.returns-in_err-copied-in-5-clause-refused
returns-in_err-copied-in-5-clause-refused c =
    err_of c.from_residual.result
    (Bitfield c.args.payload.now, record { is_message = tt; whole = tt; body_is = ap (λ k. body k c.args.payload.now) (sym c.in-5.is) }, tt)

pub returns-in_err-copied-in-7-clause-refused : goal.returns-in_err-copied-in-7-clause-refused
returns-in_err-copied-in-7-clause-refused c =
    err_of c.from_residual-in_err-copied-in-7.result (
      Piece c.number_at-in-7.result c.number_at-in-7-2.result (drop 8 c.args.payload.now),
      record {
        is_message = (c.number_at-in-7.type_inv, c.number_at-in-7-2.type_inv);
        whole = tt;
        body_is = ap (λ xs. body 7 xs)
            (piece_payload c.args.payload.now _ _ c.number_at-in-7.ensures c.number_at-in-7-2.ensures)
            ∙ ap (λ k. body k c.args.payload.now) (sym c.in-7.is);
      },
      tt,
    )

pub returns-in_err-copied-in-22-clause-refused : goal.returns-in_err-copied-in-22-clause-refused
returns-in_err-copied-in-22-clause-refused c =
    let payload : List ℕ = c.args.payload.now in
    let spelled : key_spelling c.whole_key-in-22.result ≡ take 48 payload = c.whole_key-in-22.ensures.spelled ∙ c.split_at.ensures.front in
    err_of c.from_residual-in_err-copied-in-22.result (
      Hashes c.whole_key-in-22.result (drop 48 payload),
      record {
        is_message = c.whole_key-in-22.ensures.numbers;
        whole = ap (λ n. n % 32) (length-drop 48 payload) ∙ c.requires.digests c.in-22.is;
        body_is = ap (λ xs. body 22 (xs ++ drop 48 payload)) spelled ∙ ap (λ xs. body 22 xs) (take-append-drop 48 payload)
            ∙ ap (λ k. body k payload) (sym c.in-22.is);
      },
      tt,
    )
