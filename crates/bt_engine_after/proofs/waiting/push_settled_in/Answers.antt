use Rattle.std.proofs.Common.{List, map, flat_map, sym, ap, ◌∙◌, subst, arith}
use Rattle.std.specs.Prelude.{filter}
use Rattle.std.proofs.lemmas.List.{length-map}
use Rattle.std.proofs.lemmas.Option.{slice_get_past}
use Rattle.bt_store.specs.Review.{is_marked_at}
use Rattle.bt_machine.specs.Hints.{add_hints}
use Rattle.bt_engine_state.specs.Parts.{file_of}
use Rattle.bt_engine_state.proofs.Lists.{get_mapped, get_read}
use Rattle.bt_engine_after.specs.declared.marks.FileRun.{FileRun}
use Rattle.bt_engine_after.specs.MarksSteps.{marks_in, run_blocks, AreRuns, most_hints}
use Rattle.bt_engine_after.proofs.OtherMarks.{settled_here, settled_nowhere}
use Rattle.bt_engine_after.proofs.waiting.push_settled_in.Goals as goal

pub push_settled_of-requires-clause-runs : goal.push_settled_of-requires-clause-runs
push_settled_of-requires-clause-runs g c = subst (λ (runs : List FileRun). AreRuns runs) (sym c.deref.ensures.value) c.requires.runs

pub push_settled_of-requires-clause-room : goal.push_settled_of-requires-clause-room
push_settled_of-requires-clause-room g c = omega (arith, c.requires.room, ap (λ (runs : List FileRun). most_hints runs) c.deref.ensures.value)

pub returns-in-Some-clause-hints : goal.returns-in-Some-clause-hints
returns-in-Some-clause-hints g c =
    let old = c.args.pending.now.hints in
    let file = c.args.listed.now.file in
    let slot = c.in-Some.slot.now in
    let found = c.in-Some.ensures.lookup.3 in
    let here = get_mapped file_of c.args.slots.now file (get_read c.args.slots.now file slot found.0 (found.1 slot)) in
    c.push_settled_of.ensures.hints
    ∙ ap (λ (runs : List FileRun). add_hints old (marks_in file (filter (is_marked_at (file_of slot).states) (flat_map run_blocks runs)))) c.deref.ensures.value
    ∙ ap (add_hints old) (settled_here (map file_of c.args.slots.now) file (flat_map run_blocks c.args.listed.now.runs.items) here)

pub returns-in-Some-clause-room : goal.returns-in-Some-clause-room
returns-in-Some-clause-room g c = omega (arith, c.push_settled_of.ensures.room, ap (λ (runs : List FileRun). most_hints runs) c.deref.ensures.value)

pub returns-in_default-clause-hints : goal.returns-in_default-clause-hints
returns-in_default-clause-hints g c =
    let file = c.args.listed.now.file in
    let files = map file_of c.args.slots.now in
    let past = rw c.in_default.is at c.get.ensures.lookup in
    ap (add_hints c.args.pending.now.hints)
    (settled_nowhere files file (flat_map run_blocks c.args.listed.now.runs.items)
    (slice_get_past (map file_of c.args.slots.now) c.args.listed.now.file (omega (arith, past.3, length-map c.args.slots.now file_of))))
