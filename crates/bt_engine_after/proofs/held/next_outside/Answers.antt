use Rattle.bt_engine_state.specs.PieceSets.{without}
use Rattle.bt_engine_after.proofs.PieceOrder.{none_behind, none_held}
use Rattle.bt_engine_after.proofs.held.next_outside.Goals as goal

pub returns-in_err-first : goal.returns-in_err-first
returns-in_err-first c = rw c.from_residual.ensures (tt, none_behind c.args.torrent.now c.keeps_laws.ensures.piece c.keeps_laws.ensures.laid_out (without c.args.has.now c.args.other.now) c.args.from c.in_err-first.ensures.none)

pub returns-in_err-piece : goal.returns-in_err-piece
returns-in_err-piece c =
    rw c.from_residual-in_err-piece.ensures (
      tt,
      none_held c.args.torrent.now c.keeps_laws.ensures.piece c.keeps_laws.ensures.laid_out (without c.args.has.now c.args.other.now) c.args.from
          c.in_ok-first.first c.in_ok-first.ensures.some c.in_err-piece.ensures.none,
    )

pub returns : goal.returns
returns c = c.first_in.ensures (without c.args.has.now c.args.other.now) c.in_ok-first.first c.in_ok-first.ensures.some c.in_ok-piece.ensures.some
