use Rattle.std.proofs.Common.{◌≡◌, ◌+◌, ◌<◌, List, ◌∷◌, length, get_or, drop, refl, ap, sym, ◌∙◌, subst, ℕ, add-one, drop-cons}
use Rattle.std.proofs.lemmas.List.{drop_all}
use Rattle.bt_machine.specs.declared.answer.Note.{Note}
use Rattle.bt_machine.specs.declared.answer.Note.TheVariants.{Marked}
use Rattle.bt_engine_messages.specs.HashesSteps.{IsBehind}
use Rattle.bt_engine_messages.proofs.Following.{noted_next, behind_next, behind_done}
use Rattle.bt_engine_messages.proofs.hashes.follow_notes.Goals as goal

-- the note that the loop stands at comes next
drop_at : (notes : List Note) (i : ℕ) (d : Note) → i < length notes → drop i notes ≡ get_or notes i d ∷ drop (i + 1) notes
drop_at notes i d lt = drop-cons notes i d lt ∙ ap (λ n. get_or notes i d ∷ drop n notes) (sym (add-one i))

pub loop-note-init : goal.loop-note-init
loop-note-init c = record { behind = λ s same begun. begun; asked = λ key. refl; peers = refl }

pub follow_note-requires : goal.follow_note-requires
follow_note-requires c =
    let s = c.requires.0 in
    let behind = subst (λ (ns : List Note). IsBehind c.loop-note.book.wanted c.loop-note.counts ns s)
    (drop_at c.args.notes.now c.loop-note.note-index (Marked (record { file = 0; block = 0 })) c.loop-note-test.true) (c.loop-note.invariant.behind s c.requires.1 c.requires.2) in
    noted_next behind c.args.torrent.now (sym c.requires.1)

pub loop-note-preserved : goal.loop-note-preserved
loop-note-preserved c = record {
  behind = λ s same begun.
      let behind = subst (λ (ns : List Note). IsBehind c.loop-note.book.wanted c.loop-note.counts ns s)
      (drop_at c.args.notes.now c.loop-note.note-index (Marked (record { file = 0; block = 0 })) c.loop-note-test.true) (c.loop-note.invariant.behind s same begun) in
      behind_next behind c.follow_note.new.book.wanted c.follow_note.new.counts
      (c.follow_note.ensures.followed behind.first behind.noted.0 (behind.same_torrent ∙ same) behind.followed behind.noted.1);
  asked = λ key. c.follow_note.ensures.asked key ∙ c.loop-note.invariant.asked key;
  peers = c.follow_note.ensures.peers ∙ c.loop-note.invariant.peers;
}

pub returns-clause-followed : goal.returns-clause-followed
returns-clause-followed c = λ s same begun.
    behind_done (subst (λ (ns : List Note). IsBehind c.loop-note.book.wanted c.loop-note.counts ns s)
    (drop_all c.loop-note.note-index c.args.notes.now c.loop-note-test.false) (c.loop-note.invariant.behind s same begun))
