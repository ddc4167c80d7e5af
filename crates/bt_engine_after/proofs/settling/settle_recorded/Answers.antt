use Rattle.std.proofs.Common.{List, map, sym, ap, ◌∙◌, subst, arith}
use Rattle.std.specs.Prelude.{filter}
use Rattle.std.proofs.lemmas.List.Elements.{All-same}
use Rattle.bt_machine.specs.Hints.{mark_of, add_hints}
use Rattle.bt_engine_state.specs.Parts.{state_of, pending_of}
use Rattle.bt_engine_state.specs.Roots.{LeadThrough}
use Rattle.bt_engine_after.specs.MarksSteps.{AreRuns}
use Rattle.bt_engine_after.specs.WaitingSteps.{room_in, is_marked_among, listed_blocks, most_hints_of_all}
use Rattle.bt_engine_after.specs.declared.waiting.FileRuns.{FileRuns}
use Rattle.bt_engine_state.specs.declared.parts.Parts.{Parts}
use Rattle.bt_engine_state.proofs.WaitingBlocks.{none_waits}
use Rattle.bt_engine_after.proofs.OtherFiles.{rest_none, rest_then}
use Rattle.bt_engine_after.proofs.Logs.{rest_of_log, in_line_of_log}
use Rattle.bt_engine_after.proofs.NoneWaiting.{settles_idle}
use Rattle.bt_engine_after.proofs.OtherMarks.{settles_all}
use Rattle.bt_engine_after.proofs.settling.settle_recorded.Goals as goal

pub returns-then-waiting-eq0-clause-settles : goal.returns-then-waiting-eq0-clause-settles
returns-then-waiting-eq0-clause-settles g c =
    settles_idle c.args.parts.now c.args.file c.requires.here (none_waits c.requires.in_line.follows.counted c.if-waiting-eq0.true)

pub returns-then-waiting-eq0-clause-rest : goal.returns-then-waiting-eq0-clause-rest
returns-then-waiting-eq0-clause-rest g c = rest_none c.args.parts.now

pub list_waiting-requires : goal.list_waiting-requires
list_waiting-requires g c = c.requires.lead

pub settle_others-requires-clause-alone : goal.settle_others-requires-clause-alone
settle_others-requires-clause-alone g c =
    ap (λ (p : Parts g.row.D.Denot g.row.H.Denot). p.peers.items) c.list_waiting.ensures.keeps.others ∙ c.requires.alone

pub settle_others-requires-clause-in_line : goal.settle_others-requires-clause-in_line
settle_others-requires-clause-in_line g c = in_line_of_log c.list_waiting.ensures.keeps c.requires.in_line

pub settle_others-requires-clause-lead : goal.settle_others-requires-clause-lead
settle_others-requires-clause-lead g c =
    subst (λ (p : Parts g.row.D.Denot g.row.H.Denot). LeadThrough p.slots.items p.roots c.args.tree) (sym c.list_waiting.ensures.keeps.others) c.requires.lead

pub settle_others-requires-clause-here : goal.settle_others-requires-clause-here
settle_others-requires-clause-here g c =
    omega (arith, c.requires.here, ap (λ (p : Parts g.row.D.Denot g.row.H.Denot). p.trees.len) c.list_waiting.ensures.keeps.others)

pub leave_marks-requires-clause-runs : goal.leave_marks-requires-clause-runs
leave_marks-requires-clause-runs g c =
    All-same (λ (one : FileRuns). AreRuns one.runs.items) c.deref.result.now c.in_ok-listed.listed.items c.deref.ensures.value c.in_ok-listed.ensures.runs

pub leave_marks-requires-clause-room : goal.leave_marks-requires-clause-room
leave_marks-requires-clause-room g c =
    omega (arith, ap (λ o. room_in o) c.settle_others.ensures.log, ap (λ (xs : List FileRuns). most_hints_of_all xs) c.deref.ensures.value, c.in_ok-listed.ensures.room)

pub returns-clause-settles : goal.returns-clause-settles
returns-clause-settles g c =
    settles_all c.list_waiting.ensures.keeps c.list_waiting.ensures.pending c.settle_others.ensures.log c.settle_others.ensures.rest c.leave_marks.ensures.keeps
    c.args.file c.settle_others.ensures.settles c.in_ok-listed.ensures.blocks
    (c.leave_marks.ensures.pending
    ∙ ap (λ (listed : List FileRuns). add_hints (pending_of c.settle_others.new.parts.log) (map (λ b. mark_of b) (filter (is_marked_among (state_of c.settle_others.new.parts).files) (listed_blocks listed)))) c.deref.ensures.value)

pub returns-clause-rest : goal.returns-clause-rest
returns-clause-rest g c =
    rest_then (rest_of_log c.list_waiting.ensures.keeps) (rest_then c.settle_others.ensures.rest (rest_of_log c.leave_marks.ensures.keeps))

pub returns-clause-in_line : goal.returns-clause-in_line
returns-clause-in_line g c = in_line_of_log c.leave_marks.ensures.keeps c.settle_others.ensures.in_line

pub returns-in_err-listed-clause-rest : goal.returns-in_err-listed-clause-rest
returns-in_err-listed-clause-rest g c = rest_of_log c.list_waiting.ensures.keeps

pub returns-in_err-listed-clause-in_line : goal.returns-in_err-listed-clause-in_line
returns-in_err-listed-clause-in_line g c = in_line_of_log c.list_waiting.ensures.keeps c.requires.in_line
