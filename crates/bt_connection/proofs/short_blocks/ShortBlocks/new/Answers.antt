use Rattle.std.proofs.Common.{◌≤◌, ◌++◌, ◌∷◌, [], List, ◌∙◌, sym, ap, arith, subst, length}
use Rattle.std.specs.Prelude.{◌/◌}
use Rattle.std.proofs.lemmas.List.{length-map}
use Rattle.bt_wire.specs.declared.message.Ask.{Ask}
use Rattle.bt_meta.specs.PieceBlocks.{HasBlock, IsBlockRange}
use Rattle.bt_meta.specs.Files.{file_of}
use Rattle.bt_meta.specs.declared.torrent.FileEntry.{FileEntry}
use Rattle.bt_connection.specs.ShortBlocks.{ask_of, AreInTurn}
use Rattle.bt_connection.proofs.LastBlocks.{entry_there, entry_inside, entry_short, one_pushed, none_pushed, all_gathered, blocks_few, gathered_in_turn}
use Rattle.bt_connection.proofs.short_blocks.ShortBlocks.new.Goals as goal
use Rattle.bt_connection.proofs.short_blocks.ShortBlocks.new.Goals.{in-Some+in_ok-push, in_default}

pub overflow_cast-whole-in-loop-file : goal.overflow_cast-whole-in-loop-file
overflow_cast-whole-in-loop-file c =
    let short = entry_short c.args.torrent.now.piece_length c.files-files.result.now c.args.torrent.now.files c.files-files.ensures.said c.loop-file.file c.index-files-file.result
    c.index-files-file.is (omega arith) c.files-files.ensures.lawful in
    omega (arith, short, ap (λ (e : FileEntry). e.length) c.index-files-file.is)

pub loop-file-preserved : goal.loop-file-preserved
loop-file-preserved c =
    let k = c.loop-file.file in
    let e : FileEntry = c.index-files-file.result in
    let there = entry_there c.args.torrent.now.piece_length c.files-files.result.now c.args.torrent.now.files c.files-files.ensures.said k e c.index-files-file.is (omega arith) in
    let inside = entry_inside c.args.torrent.now.piece_length c.files-files.result.now c.args.torrent.now.files c.files-files.ensures.said k e c.index-files-file.is (omega arith) in
    elim c.match-range_of.branch [
      | in-Some+in_ok-push w ↦
          let range = w.in-Some.range in
          let is : IsBlockRange c.args.torrent.now k (e.length / 16384) range
          = subst (λ (x : FileEntry). IsBlockRange c.args.torrent.now k (x.length / 16384) range) (sym c.index-files-file.is) w.in-Some.ensures.value in
          ap (λ v. v.items) w.blocks-is ∙ w.in_ok-push.ensures.items
          ∙ ap (λ (xs : List Ask). xs ++ ask_of range.piece range.begin range.length ∷ []) c.loop-file.invariant
          ∙ sym (one_pushed c.args.torrent.now k (file_of e) inside there range is)
      | in_default w ↦
          let none : ¬ HasBlock c.args.torrent.now k (e.length / 16384)
          = subst (λ (x : FileEntry). ¬ HasBlock c.args.torrent.now k (x.length / 16384)) (sym c.index-files-file.is)
          (λ has. absurd (grind (arith, w.in_default.ensures.variant.1 has))) in
          ap (λ v. v.items) w.blocks-is ∙ c.loop-file.invariant ∙ sym (none_pushed c.args.torrent.now k (file_of e) inside there none)
    ]

pub invariant_of-result : goal.invariant_of-result
invariant_of-result c =
    let all : length c.args.torrent.now.files ≤ c.loop-file.file
    = omega (arith, c.loop-file-test.false, ap length c.files-files.ensures.said, length-map c.files-files.result.now file_of) in
    subst (λ (xs : List Ask). AreInTurn xs) (sym (all_gathered c.args.torrent.now c.loop-file.blocks.items c.loop-file.file c.loop-file.invariant all))
    (gathered_in_turn c.args.torrent.now c.keeps_laws.ensures.piece c.keeps_laws.ensures.laid_out)

pub returns-clause-of_torrent : goal.returns-clause-of_torrent
returns-clause-of_torrent c =
    all_gathered c.args.torrent.now c.loop-file.blocks.items c.loop-file.file c.loop-file.invariant
    (omega (arith, c.loop-file-test.false, ap length c.files-files.ensures.said, length-map c.files-files.result.now file_of))

pub returns-clause-few : goal.returns-clause-few
returns-clause-few c =
    let all : length c.args.torrent.now.files ≤ c.loop-file.file
    = omega (arith, c.loop-file-test.false, ap length c.files-files.ensures.said, length-map c.files-files.result.now file_of) in
    let same = all_gathered c.args.torrent.now c.loop-file.blocks.items c.loop-file.file c.loop-file.invariant all in
    omega (arith, ap length same, blocks_few c.args.torrent.now, c.files-files.ensures.few, ap length c.files-files.ensures.said, length-map c.files-files.result.now file_of)
