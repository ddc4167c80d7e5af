use Rattle.std.specs.Prelude.{Contains}
use Rattle.std.proofs.Common.{◌≡◌, ◌+◌, ◌*◌, ◌≤◌, length, get_or, refl, sym, ap, ◌∙◌, subst, arith}
use Rattle.std.proofs.Math.Nat.{add-mul, mul-le-mul_right}
use Rattle.bt_machine.specs.declared.answer.Note.{Note}
use Rattle.bt_machine.specs.declared.answer.Note.TheVariants.{Marked}
use Rattle.bt_engine_state.specs.Parts.{state_of}
use Rattle.bt_machine.proofs.Pairs.{contains_at}
use Rattle.bt_engine.specs.NewsSteps.{marked_piece, unless_last, haves_of}
use Rattle.bt_engine.proofs.NewWholes.{has_block, piece_inside}
use Rattle.bt_engine.proofs.Announcements.{unless_some, skipped, taken, finished}
use Rattle.bt_engine.proofs.news.announce_pieces.Goals as goal

abbrev blank : Note
blank = Marked (record { file = 0; block = 0 })

pub loop-note-init : goal.loop-note-init
loop-note-init g c = (refl, omega arith, omega arith)

pub marked_piece-requires : goal.marked_piece-requires
marked_piece-requires g c = λ b is.
    has_block c.requires.told.1 c.requires.sound.shaped b (subst (λ (n : Note). Contains c.args.notes.now n) is (contains_at c.args.notes.now c.loop-note.note-index blank c.loop-note-test.true))

pub loop-note-preserved-in_default : goal.loop-note-preserved-in_default
loop-note-preserved-in_default g c =
    let n = length c.args.parts.now.peers.items in
    let so_far = c.loop-note.invariant in
    let more : (c.loop-note.note-index + 1) * n ≡ c.loop-note.note-index * n + 1 * n = add-mul c.loop-note.note-index 1 n in (
      skipped (haves_of (state_of c.args.parts.now)) (marked_piece c.args.parts.now.torrent) c.loop-note.last c.args.notes.now c.loop-note.note-index blank c.loop-note.send.items _ c.loop-note-test.true
          (ap (λ o. unless_last o c.loop-note.last) (sym c.marked_piece.ensures) ∙ sym c.unless_last.ensures ∙ c.in_default.is) so_far.0,
      omega (arith, more, so_far.1),
      so_far.2,
    )

pub announce_piece-requires-clause-inside : goal.announce_piece-requires-clause-inside
announce_piece-requires-clause-inside g c =
    piece_inside c.requires.told.1 c.requires.sound.shaped c.keeps_laws.ensures.lawful
    (get_or c.args.notes.now c.loop-note.note-index blank) c.in-Some.piece
    (contains_at c.args.notes.now c.loop-note.note-index blank c.loop-note-test.true)
    (sym c.marked_piece.ensures ∙ unless_some c.marked_piece.result c.loop-note.last (sym c.unless_last.ensures ∙ c.in-Some.is))

pub announce_piece-requires-clause-room : goal.announce_piece-requires-clause-room
announce_piece-requires-clause-room g c =
    let n = length c.args.parts.now.peers.items in
    let so_far = c.loop-note.invariant in
    let more : (c.loop-note.note-index + 1) * n ≡ c.loop-note.note-index * n + 1 * n = add-mul c.loop-note.note-index 1 n in
    let lt = c.loop-note-test.true in
    let le : (c.loop-note.note-index + 1) * n ≤ length c.args.notes.now * n = mul-le-mul_right n (omega (arith, lt)) in
    let room = c.requires.room in
    omega (arith, more, le, room, so_far.1, so_far.2)

pub loop-note-preserved : goal.loop-note-preserved
loop-note-preserved g c =
    let n = length c.args.parts.now.peers.items in
    let so_far = c.loop-note.invariant in
    let more : (c.loop-note.note-index + 1) * n ≡ c.loop-note.note-index * n + 1 * n = add-mul c.loop-note.note-index 1 n in (
      taken (haves_of (state_of c.args.parts.now)) (marked_piece c.args.parts.now.torrent) c.loop-note.last c.args.notes.now c.loop-note.note-index blank c.loop-note.send.items _ c.loop-note-test.true
          c.announce_piece.new.send.items c.in-Some.piece
          (ap (λ o. unless_last o c.loop-note.last) (sym c.marked_piece.ensures) ∙ sym c.unless_last.ensures ∙ c.in-Some.is) c.announce_piece.ensures.sent so_far.0,
      omega (arith, more, so_far.1, c.announce_piece.ensures.few),
      omega (arith, so_far.2, c.announce_piece.ensures.capacity),
    )

pub returns-clause-sent : goal.returns-clause-sent
returns-clause-sent g c =
    finished (haves_of (state_of c.args.parts.now)) (marked_piece c.args.parts.now.torrent) c.loop-note.last c.args.notes.now c.loop-note.note-index
    c.loop-note.send.items _ c.loop-note-test.false c.loop-note.invariant.0

pub returns-clause-few : goal.returns-clause-few
returns-clause-few g c =
    let n = length c.args.parts.now.peers.items in
    let le : c.loop-note.note-index * n ≤ length c.args.notes.now * n = mul-le-mul_right n c.loop-note.auto.note-index-end in
    omega (arith, c.loop-note.invariant.1, le)

pub returns-clause-capacity : goal.returns-clause-capacity
returns-clause-capacity g c = c.loop-note.invariant.2
