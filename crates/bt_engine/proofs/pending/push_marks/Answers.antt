use Rattle.std.specs.Prelude.{Contains}
use Rattle.std.proofs.Common.{[], ◌+◌, inl, inr, List, drop, length, get_or, refl, sym, ap, ◌∙◌, subst, arith}
use Rattle.std.proofs.lemmas.List.{drop_all}
use Rattle.bt_machine.proofs.Base.{length-append}
use Rattle.bt_machine.proofs.Lists.{contains_none, contains_cases}
use Rattle.bt_machine.proofs.Pairs.{contains_at}
use Rattle.bt_machine.specs.Hints.{add_hints}
use Rattle.bt_machine.specs.State.{Hint}
use Rattle.bt_machine.specs.declared.answer.Note.{Note}
use Rattle.bt_machine.specs.declared.answer.Note.TheVariants.{Marked}
use Rattle.bt_engine.specs.PendingSteps.{marks_of, marks_in}
use Rattle.bt_engine.proofs.ToldMarks.{add_hints_append, marks_at}
use Rattle.bt_engine.proofs.pending.push_marks.Goals as goal

abbrev blank : Note
blank = Marked (record { file = 0; block = 0 })

pub loop-note-init : goal.loop-note-init
loop-note-init c = (refl, c.requires.room)

pub push_mark-requires-clause-room : goal.push_mark-requires-clause-room
push_mark-requires-clause-room c =
    let notes = c.args.notes.now in
    let i = c.loop-note.note-index in
    let at = marks_at notes i blank c.loop-note-test.true in
    omega (arith, c.loop-note.invariant.1, ap (λ (hints : List Hint). length hints) at, length-append (marks_of (get_or notes i blank)) (marks_in (drop (i + 1) notes)))

pub push_mark-requires-clause-inside : goal.push_mark-requires-clause-inside
push_mark-requires-clause-inside c = λ b among. elim (contains_cases [] among) [
  | inl same ↦ c.requires.inside b (subst (λ (n : Note). Contains c.args.notes.now n) same (contains_at c.args.notes.now c.loop-note.note-index blank c.loop-note-test.true))
  | inr none ↦ absurd (contains_none none)
]

pub loop-note-preserved : goal.loop-note-preserved
loop-note-preserved c =
    let notes = c.args.notes.now in
    let i = c.loop-note.note-index in
    let hints = c.loop-note.pending.hints in
    let at = marks_at notes i blank c.loop-note-test.true in
    let one = marks_of (get_or notes i blank) in
    let rest = marks_in (drop (i + 1) notes) in (
      ap (λ (hs : List Hint). add_hints hs rest) c.push_mark.ensures.hints ∙ sym (add_hints_append hints one rest) ∙ ap (add_hints hints) (sym at) ∙ c.loop-note.invariant.0,
      omega (arith, c.loop-note.invariant.1, c.push_mark.ensures.room, ap (λ (hs : List Hint). length hs) at, length-append one rest),
    )

pub returns : goal.returns
returns c =
    sym (ap (λ (ns : List Note). add_hints c.loop-note.pending.hints (marks_in ns)) (drop_all c.loop-note.note-index c.args.notes.now c.loop-note-test.false))
    ∙ c.loop-note.invariant.0
