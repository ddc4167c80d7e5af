use Rattle.bt_resume.proofs.Spellings.{no_run}
use Rattle.bt_resume.proofs.reader.read_run.Goals as goal

pub returns-then-not-is_run-clause-none : goal.returns-then-not-is_run-clause-none
returns-then-not-is_run-clause-none c =
    no_run c.args.bytes.now c.number_at-first.result c.number_at-count.result c.requires c.number_at-first.type_inv c.number_at-count.type_inv
    c.number_at-first.ensures c.number_at-count.ensures (λ run. let yes = c.is_run.ensures.1 run in let no = c.if-not-is_run.true in cc)
