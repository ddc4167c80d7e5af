use Rattle.std.proofs.Common.{List, flat_map, sym, ap, ◌∙◌, subst}
use Rattle.bt_tree.specs.Blocks.{block_count}
use Rattle.bt_machine.specs.Hints.{add_hints}
use Rattle.bt_engine_after.specs.declared.marks.FileRun.{FileRun}
use Rattle.bt_engine_after.specs.GroupSteps.{not_taken}
use Rattle.bt_engine_after.specs.MarksSteps.{marks_in, run_blocks, AreRuns}
use Rattle.bt_engine_after.proofs.Takings.{if_err_by}
use Rattle.bt_engine_after.proofs.GroupMarks.{keys_answered, takes_found, takes_unfound}
use Rattle.bt_engine_after.proofs.group.adopt_claimed.Goals as goal

pub returns-in_err-adopted-clause-stop : goal.returns-in_err-adopted-clause-stop
returns-in_err-adopted-clause-stop g c =
    if_err_by c.from_residual-in_err-adopted.result (not_taken c.in_err-adopted.ensures.stop.0 c.in_err-adopted.ensures.stop.1)

pub push_proofs-requires-clause-answered : goal.push_proofs-requires-clause-answered
push_proofs-requires-clause-answered g c =
    keys_answered c.in_ok-adopted.ensures.ok.1.adopts (c.requires.states ∙ sym (ap block_count c.requires.geometry)) c.group_below-below.ensures.group c.requires.answered c.if-adopted-gt0.true

pub push_runs-requires-clause-runs : goal.push_runs-requires-clause-runs
push_runs-requires-clause-runs g c = subst (λ (runs : List FileRun). AreRuns runs) (sym c.deref.ensures.value) c.in_ok-runs.ensures.runs

pub returns-then-adopted-gt0-clause-ok : goal.returns-then-adopted-gt0-clause-ok
returns-then-adopted-gt0-clause-ok g c =
    let (proofs, zip, hints) = c.push_proofs.ensures.proofs in
    takes_found c.args.file c.args.pending.now.hints c.in_ok-adopted.ensures.ok.1 c.push_runs.new.pending.hints (c.requires.states ∙ sym (ap block_count c.requires.geometry))
    c.group_below-below.ensures.group c.in_ok-runs.runs.items c.push_proofs.new.pending.hints c.if-adopted-gt0.true
    (proofs, zip, hints ∙ ap (λ hs. add_hints hs proofs) c.reserve.ensures.hints) c.in_ok-runs.ensures.blocks
    (c.push_runs.ensures.hints ∙ ap (λ (runs : List FileRun). add_hints c.push_proofs.new.pending.hints (marks_in c.args.file (flat_map run_blocks runs))) c.deref.ensures.value)

pub returns-else-adopted-gt0-clause-ok : goal.returns-else-adopted-gt0-clause-ok
returns-else-adopted-gt0-clause-ok g c =
    takes_unfound c.args.file c.args.pending.now.hints c.in_ok-adopted.ensures.ok.1 c.reserve.new.self.hints (c.requires.states ∙ sym (ap block_count c.requires.geometry))
    c.group_below-below.ensures.group c.if-adopted-gt0.false c.reserve.ensures.hints
