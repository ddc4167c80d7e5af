use Rattle.std.proofs.Common.{◌/◌, [], arith}
use Rattle.std.proofs.lemmas.List.{get_or_read}
use Rattle.bt_sparse.proofs.PageTables.{layer_run}
use Rattle.bt_sparse.proofs.layer_pages.LayerPages.held_run.Goals as goal

pub returns-in-Some-clause-held : goal.returns-in-Some-clause-held
returns-in-Some-clause-held c =
    let at = c.in-Some.ensures.lookup in
    let read = rw c.deref.ensures.value at (get_or_read c.deref.result.now (c.args.index / 262144) c.in-Some.table.now at.3.0 at.1 []) in
    rw (← c.self.view_is) (layer_run c.self.inside.tables.items c.args.index c.held_run.result (omega (arith, c.held_run.ensures.inside))
    (λ j lt. rw (← read) (c.held_run.ensures.held j lt)))
