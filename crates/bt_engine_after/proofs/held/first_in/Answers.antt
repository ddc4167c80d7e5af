use Rattle.std.proofs.Common.{◌≤◌, inl, inr}
use Rattle.std.proofs.lemmas.Bool.{cases_lt}
use Rattle.bt_meta.specs.Torrent.{total_pieces}
use Rattle.bt_engine_after.proofs.PieceOrder.{none_in, at_latest, in_place}
use Rattle.bt_engine_after.proofs.held.first_in.Goals as goal

pub returns-in_err-run : goal.returns-in_err-run
returns-in_err-run c = λ pieces first is next.
    let past : total_pieces c.args.torrent.now ≤ c.args.piece = elim (cases_lt c.args.piece (total_pieces c.args.torrent.now)) [
      | inl lt ↦ absurd (let some = c.in_err-run.ensures.variant.1 lt in cc)
      | inr le ↦ le
    ] in
    rw c.from_residual.ensures (
      tt,
      none_in c.args.torrent.now c.keeps_laws.ensures.piece c.keeps_laws.ensures.laid_out pieces c.args.from first is c.args.piece next past,
    )

pub returns-then-run-from : goal.returns-then-run-from
returns-then-run-from c = λ pieces first is next. (
  at_latest c.args.torrent.now c.keeps_laws.ensures.piece c.keeps_laws.ensures.laid_out pieces c.args.from first is c.args.piece next
      c.in_ok-run.run' c.in_ok-run.ensures.value c.max-block.result c.if-run-from.true c.max-block.ensures,
  tt,
)

pub returns-else-run-from : goal.returns-else-run-from
returns-else-run-from c = λ pieces first is next. (
  in_place c.args.torrent.now c.keeps_laws.ensures.piece c.keeps_laws.ensures.laid_out pieces c.args.from first is c.args.piece next
      c.in_ok-run.run' c.in_ok-run.ensures.value c.if-run-from.false,
  tt,
)
