use Rattle.std.proofs.Common.{[], ◌<◌, ◌≤◌, length, refl, sym, ap, ◌∙◌, arith}
use Rattle.bt_engine_state.specs.Parts.{state_of}
use Rattle.std.proofs.lemmas.List.{append-nil}
use Rattle.bt_engine.specs.NewsSteps.{marked_file, unless_last, notes_if_complete}
use Rattle.bt_engine.proofs.Announcements.{skipped, taken, finished, begins_then, begins_long, begins_at}
use Rattle.bt_engine.proofs.news.note_complete_files.Goals as goal

pub loop-index-init : goal.loop-index-init
loop-index-init g c = (refl, record { more = []; is = sym (append-nil c.args.notes.now.items) }, omega arith, omega arith)

pub index-requires : goal.index-requires
index-requires g c =
    let long = begins_long c.loop-index.invariant.1 in
    let lt = c.loop-index-test.true in
    omega (arith, long, lt, c.len-index-end.ensures, c.args.notes.now.ok.0, c.loop-index.notes.ok.0)

pub loop-index-preserved-in_default : goal.loop-index-preserved-in_default
loop-index-preserved-in_default g c =
    let so_far = c.loop-index.invariant in
    let lt : c.loop-index.index < length c.args.notes.now.items = (let t = c.loop-index-test.true in omega (arith, t, c.len-index-end.ensures, c.args.notes.now.ok.0)) in
    let read = c.index.ensures ∙ begins_at c.loop-index.index c.index.result.now so_far.1 lt in (
      skipped (notes_if_complete (state_of c.args.parts.now)) marked_file c.loop-index.last c.args.notes.now.items c.loop-index.index c.index.result.now
          c.loop-index.notes.items _ lt
          (ap (λ n. unless_last (marked_file n) c.loop-index.last) (sym read) ∙ ap (λ o. unless_last o c.loop-index.last) (sym c.marked_file.ensures)
          ∙ sym c.unless_last.ensures ∙ c.in_default.is) so_far.0,
      so_far.1,
      omega (arith, so_far.2),
      so_far.3,
    )

pub note_if_complete-requires-clause-room : goal.note_if_complete-requires-clause-room
note_if_complete-requires-clause-room g c =
    let so_far = c.loop-index.invariant in
    let lt = c.loop-index-test.true in
    omega (arith, so_far.2, so_far.3, lt, c.len-index-end.ensures, c.requires.room)

pub loop-index-preserved : goal.loop-index-preserved
loop-index-preserved g c =
    let so_far = c.loop-index.invariant in
    let lt : c.loop-index.index < length c.args.notes.now.items = (let t = c.loop-index-test.true in omega (arith, t, c.len-index-end.ensures, c.args.notes.now.ok.0)) in
    let read = c.index.ensures ∙ begins_at c.loop-index.index c.index.result.now so_far.1 lt in (
      taken (notes_if_complete (state_of c.args.parts.now)) marked_file c.loop-index.last c.args.notes.now.items c.loop-index.index c.index.result.now
          c.loop-index.notes.items _ lt c.note_if_complete.new.notes.items c.in-Some.file
          (ap (λ n. unless_last (marked_file n) c.loop-index.last) (sym read) ∙ ap (λ o. unless_last o c.loop-index.last) (sym c.marked_file.ensures)
          ∙ sym c.unless_last.ensures ∙ c.in-Some.is) c.note_if_complete.ensures.noted so_far.0,
      begins_then (notes_if_complete (state_of c.args.parts.now) c.in-Some.file) so_far.1 c.note_if_complete.ensures.noted,
      omega (arith, so_far.2, c.note_if_complete.ensures.few),
      omega (arith, so_far.3, c.note_if_complete.ensures.capacity),
    )

pub returns : goal.returns
returns g c = record {
  noted =
      let past : length c.args.notes.now.items ≤ c.loop-index.index = (let t = c.loop-index-test.false in omega (arith, t, c.len-index-end.ensures, c.args.notes.now.ok.0)) in
      finished (notes_if_complete (state_of c.args.parts.now)) marked_file c.loop-index.last c.args.notes.now.items c.loop-index.index
      c.loop-index.notes.items _ past c.loop-index.invariant.0;
}
