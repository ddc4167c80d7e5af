use Rattle.std.proofs.Common.{ℕ, Option, IfNone, subst}
use Rattle.std.proofs.lemmas.Result.{IfOk-weaker, on_err_weaker, err_from_is_err_and}
use Rattle.bt_connection.specs.ReadAhead.{reader_remaining}
use Rattle.bt_connection.specs.Padded.{LosesNothing}
use Rattle.bt_connection.proofs.LongReads.{read_after, again_after, again_at_once}
use Rattle.bt_connection.proofs.padded.PaddedReadAheadRead.read.Goals as goal

pub returns-in_err-count-clause-again : goal.returns-in_err-count-clause-again
returns-in_err-count-clause-again g c =
    let p = err_from_is_err_and c.from_residual.result c.from_residual.ensures.1 in
    rw p.1 (again_at_once (reader_remaining g.R.Read.remaining) c.args.self.now c.read_long.new.self c.in_err-count.ensures.kept)

pub returns-in-None-clause-given : goal.returns-in-None-clause-given
returns-in-None-clause-given g c =
    let from = reader_remaining g.R.Read.remaining in
    let mid = c.read_long.new.self in
    let loses = subst (λ (o : Option ℕ). IfNone o (LosesNothing from c.args.self.now mid)) c.in-None.is c.in_ok-count.ensures.none in
    IfOk-weaker c.read_each.result _ _
    (λ count read. read_after from c.args.self.now mid loses count c.read_each.new.buffer c.read_each.new.self read) c.read_each.ensures.given

pub returns-in-None-clause-again : goal.returns-in-None-clause-again
returns-in-None-clause-again g c =
    let from = reader_remaining g.R.Read.remaining in
    let mid = c.read_long.new.self in
    let loses = subst (λ (o : Option ℕ). IfNone o (LosesNothing from c.args.self.now mid)) c.in-None.is c.in_ok-count.ensures.none in
    on_err_weaker c.read_each.result
    (λ again. again_after from c.args.self.now mid loses c.read_each.new.self again) c.read_each.ensures.again
