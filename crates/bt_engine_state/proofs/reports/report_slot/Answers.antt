use Rattle.std.proofs.Common.{sym, ap, ◌∙◌}
use Rattle.bt_tree.specs.Blocks.{block_count}
use Rattle.bt_engine_state.proofs.Completeness.{is_all, report_is}
use Rattle.bt_engine_state.proofs.reports.report_slot.Goals as goal

pub returns-in-Some : goal.returns-in-Some
returns-in-Some g c =
    rw c.in-Some.is (report_is c.blocks-in-Some.result c.marked.result c.waiting.result c.is_complete.result
    (record { tree = c.args.slot.now.tree; states = c.in-Some.store.states })
    (c.blocks-in-Some.ensures.value ∙ ap block_count c.geometry.ensures.value ∙ sym (c.requires c.in-Some.store c.in-Some.is))
    c.marked.ensures c.waiting.ensures (is_all c.in-Some.store.states c.is_complete.result c.is_complete.ensures))
