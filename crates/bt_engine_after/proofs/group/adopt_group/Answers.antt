use Rattle.std.proofs.Common.{[], Option, sym, ap, ◌∙◌, subst}
use Rattle.std.specs.Prelude.{is_some}
use Rattle.bt_engine_state.specs.Parts.{pending_of}
use Rattle.bt_engine_state.specs.declared.open_log.OpenLog.{OpenLog}
use Rattle.bt_engine_after.specs.GroupSteps.{file_view, TakesGroup, not_taken}
use Rattle.bt_engine_after.proofs.Slots.{if_ok_then, if_err_then}
use Rattle.bt_engine_after.proofs.GroupMarks.{takes_bare}
use Rattle.bt_engine_after.proofs.Takings.{if_err_by}
use Rattle.bt_engine_after.proofs.group.adopt_group.Goals as goal

pub returns-in-None-clause-ok : goal.returns-in-None-clause-ok
returns-in-None-clause-ok g c =
    let d = g.D.Disk in
    if_ok_then c.adopt.result c.adopt.ensures.ok (λ adopted taken.
    subst (λ (log : Option (OpenLog g.row.D.Denot)). TakesGroup d.conduct g.H.NodeHash.digest c.args.file (is_some log) c.args.from
    (file_view c.args.tree.now c.args.store.now (pending_of log)) adopted (file_view c.adopt.new.tree c.adopt.new.self (pending_of log)))
    (sym c.in-None.is) (takes_bare c.args.file [] taken.1 c.proof_keys_are_answered.ensures))

pub returns-in-None-clause-stop : goal.returns-in-None-clause-stop
returns-in-None-clause-stop g c = if_err_then c.adopt.result c.adopt.ensures.stop (λ stopped. not_taken stopped.0 stopped.1)

pub returns-in-None-clause-unknown : goal.returns-in-None-clause-unknown
returns-in-None-clause-unknown g c = if_err_then c.adopt.result c.adopt.ensures.unknown (λ none bare. none)

pub returns-in-Some-clause-unknown : goal.returns-in-Some-clause-unknown
returns-in-Some-clause-unknown g c =
    if_err_by c.adopt_recorded.result
    (λ bare. let other = sym (ap (λ (log : Option (OpenLog g.row.D.Denot)). is_some log) c.in-Some.is) ∙ bare in absurd cc)
