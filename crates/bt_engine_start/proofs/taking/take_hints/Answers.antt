use Rattle.std.proofs.Common.{List, sym, ap, ◌∙◌, subst}
use Rattle.std.specs.Prelude.{IfOk}
use Rattle.bt_resume.specs.declared.hint.Hint.{Hint}
use Rattle.bt_engine_state.specs.Parts.{hints_of}
use Rattle.bt_engine_start.specs.Runs.{AreRunsOf}
use Rattle.bt_engine_start.specs.Taking.{TakeHints}
use Rattle.bt_engine_start.proofs.Joins.{no_runs}
use Rattle.bt_engine_start.proofs.ProvenTrees.{none_taken}
use Rattle.bt_engine_start.proofs.Takings.{if_ok}
use Rattle.bt_engine_start.proofs.taking.take_hints.Goals as goal

pub returns-in_default-clause-taken : goal.returns-in_default-clause-taken
returns-in_default-clause-taken g c =
    let trees = c.args.trees.now in
    subst (λ (hints : List Hint). TakeHints g.H.NodeHash.digest hints trees trees) (sym (ap hints_of c.in_default.is)) (none_taken g.H.NodeHash.digest trees)

pub returns-in_default-clause-runs : goal.returns-in_default-clause-runs
returns-in_default-clause-runs g c =
    subst (λ (hints : List Hint). AreRunsOf hints c.new.result.items) (sym (ap hints_of c.in_default.is)) (no_runs c.new.ensures.items)

pub returns-clause-taken : goal.returns-clause-taken
returns-clause-taken g c =
    if_ok c.recorded_runs.result
    (subst (λ (hints : List Hint). TakeHints g.H.NodeHash.digest hints c.args.trees.now c.take_proofs.new.trees)
    (c.hints-hints.ensures ∙ sym (ap hints_of c.in-Some.is)) c.in_ok-take_proofs.ensures.taken)

pub returns-clause-runs : goal.returns-clause-runs
returns-clause-runs g c =
    subst (λ (hints : List Hint). IfOk c.recorded_runs.result (λ runs. AreRunsOf hints runs.items)) (c.hints-hints.ensures ∙ sym (ap hints_of c.in-Some.is))
    c.recorded_runs.ensures
