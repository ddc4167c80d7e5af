use Rattle.bt_jobs.proofs.jobs.in_order.Goals as goal

pub returns-clause-told : goal.returns-clause-told
returns-clause-told c = λ text is. record {
  told = c.in-Some.runs.items;
  lines = c.in-Some.ensures text is;
  same = c.sort.ensures.permutation;
}
