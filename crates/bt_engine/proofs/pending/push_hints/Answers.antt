use Rattle.std.proofs.Common.{List, sym, ap, ◌∙◌, arith}
use Rattle.std.specs.Option.{option_to_list}
use Rattle.bt_machine.proofs.Base.{length-append}
use Rattle.bt_machine.specs.Hints.{add_hints}
use Rattle.bt_machine.specs.State.{Hint}
use Rattle.bt_engine.specs.PendingSteps.{marks_in}
use Rattle.bt_engine.proofs.ToldMarks.{add_hints_append}
use Rattle.bt_engine.proofs.pending.push_hints.Goals as goal

pub push_proof-requires-clause-room : goal.push_proof-requires-clause-room
push_proof-requires-clause-room c =
    omega (arith, c.requires.room, length-append (option_to_list c.args.proof) (marks_in c.args.notes.now))

pub push_marks-requires-clause-room : goal.push_marks-requires-clause-room
push_marks-requires-clause-room c =
    omega (arith, c.requires.room, c.push_proof.ensures.room, length-append (option_to_list c.args.proof) (marks_in c.args.notes.now))

pub returns : goal.returns
returns c =
    c.push_marks.ensures ∙ ap (λ (hs : List Hint). add_hints hs (marks_in c.args.notes.now)) c.push_proof.ensures.hints
    ∙ sym (add_hints_append c.args.pending.now.hints (option_to_list c.args.proof) (marks_in c.args.notes.now))
