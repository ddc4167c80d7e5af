use Rattle.std.proofs.Common.{sym, subst, arith}
use Rattle.bt_connection.specs.FrameSteps.{IsMissing}
use Rattle.bt_connection.proofs.Frames.{missing_few}
use Rattle.bt_connection.proofs.frame.missing_of.Goals as goal

pub returns : goal.returns
returns c =
    subst (λ n. IsMissing c.args.bytes.now n) (sym c.saturating_sub.ensures)
    (missing_few c.args.bytes.now c.number_at-field.result c.requires (omega (arith, c.if-bytes-lt-LENGTH_LEN.false)) c.number_at-field.type_inv c.number_at-field.ensures)
