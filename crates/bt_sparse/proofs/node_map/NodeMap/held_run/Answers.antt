use Rattle.std.proofs.Common.{[], ap, sym, ◌∙◌, arith}
use Rattle.std.proofs.lemmas.List.{get_or_read, get_or_past}
use Rattle.bt_sparse.specs.LayerPages.{Tables, entry_at}
use Rattle.bt_sparse.proofs.NodeMaps.{node_at}
use Rattle.bt_sparse.proofs.PageTables.{node_run}
use Rattle.bt_sparse.proofs.node_map.NodeMap.held_run.Goals as goal

pub returns-in_default-clause-none : goal.returns-in_default-clause-none
returns-in_default-clause-none c = λ h.
    rw (← c.self.view_is) (node_at c.self.inside.layers.items c.args.layer c.args.index (omega arith) (omega arith)
    ∙ ap (λ (t : Tables). entry_at t c.args.index) (get_or_past c.self.inside.layers.items c.args.layer [] (rw c.deref.ensures.value at c.in_default.ensures.lookup.3)))

pub returns-clause-held : goal.returns-clause-held
returns-clause-held c =
    let at = c.in-Some.ensures.lookup in
    let read = rw c.deref.ensures.value at (get_or_read c.deref.result.now c.args.layer c.in-Some.pages.now at.3.0 at.1 []) in
    rw (← c.self.view_is) (node_run c.self.inside.layers.items c.args.layer c.args.index c.held_run.result (omega arith) (omega arith) c.held_run.ensures.inside
    (λ j lt. rw (← read) (c.held_run.ensures.held j lt)))

pub returns-clause-none : goal.returns-clause-none
returns-clause-none c = λ h.
    let at = c.in-Some.ensures.lookup in
    let read = rw c.deref.ensures.value at (get_or_read c.deref.result.now c.args.layer c.in-Some.pages.now at.3.0 at.1 []) in
    rw (← c.self.view_is) (node_at c.self.inside.layers.items c.args.layer c.args.index (omega arith) (omega arith)
    ∙ ap (λ (t : Tables). entry_at t c.args.index) (sym read) ∙ c.held_run.ensures.none h)
