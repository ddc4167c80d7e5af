use Rattle.std.proofs.Common.{ℕ, List, flat_map, sym, ap, ◌∙◌}
use Rattle.std.specs.Prelude.{filter}
use Rattle.bt_store.specs.Review.{is_marked_at}
use Rattle.bt_store.specs.declared.block_states.BlockState.{BlockState}
use Rattle.bt_machine.specs.Hints.{add_hints}
use Rattle.bt_engine_after.specs.MarksSteps.{marks_in, run_blocks}
use Rattle.bt_engine_after.proofs.OtherMarks.{states_by, none_marked}
use Rattle.bt_engine_after.proofs.waiting.push_settled_of.Goals as goal

pub returns-in-Some-clause-hints : goal.returns-in-Some-clause-hints
returns-in-Some-clause-hints g c =
    c.push_marked_in.ensures.hints
    ∙ sym (ap (λ (states : List BlockState). add_hints c.args.pending.now.hints (marks_in c.args.file (filter (is_marked_at states) (flat_map run_blocks c.args.runs.now))))
    (states_by c.args.slot.now c.in-Some.is))

pub returns-in_default-clause-hints : goal.returns-in_default-clause-hints
returns-in_default-clause-hints g c =
    let blocks = flat_map run_blocks c.args.runs.now in
    sym (ap (λ (states : List BlockState). add_hints c.args.pending.now.hints (marks_in c.args.file (filter (is_marked_at states) (flat_map run_blocks c.args.runs.now))))
    (states_by c.args.slot.now c.in_default.is)
    ∙ ap (λ (kept : List ℕ). add_hints c.args.pending.now.hints (marks_in c.args.file kept)) (none_marked blocks))
