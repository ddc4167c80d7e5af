use Rattle.std.proofs.Common.{◌/◌, [], arith}
use Rattle.std.proofs.lemmas.List.{get_or_read}
use Rattle.bt_sparse.proofs.PageTables.{table_run}
use Rattle.bt_sparse.proofs.page_table.PageTable.held_run.Goals as goal

pub returns-in-Some-clause-held : goal.returns-in-Some-clause-held
returns-in-Some-clause-held c =
    let at = c.in-Some.ensures.lookup in
    let read = rw c.deref.ensures.value at (get_or_read c.deref.result.now (c.args.index / 512) c.in-Some.page.now at.3.0 at.1 []) in
    rw (← c.self.view_is) (table_run c.self.inside.pages.items c.args.index c.min.result (omega (arith, c.min.ensures))
    (λ j lt. rw (← read) (c.held_run.ensures.held j (omega (arith, lt, c.min.ensures)))))
