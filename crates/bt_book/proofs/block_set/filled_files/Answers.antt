use Rattle.std.proofs.Common.{◌+◌, ◌∙◌, refl, subst, sym, arith}
use Rattle.bt_book.proofs.BlockSets.{AreMarked, none_marked, file_marked, file_passed, all_marked}
use Rattle.bt_book.proofs.block_set.filled_files.Goals as goal
use Rattle.bt_book.proofs.block_set.filled_files.Goals.{then-count-ne0, else-count-ne0}

pub loop-file-init : goal.loop-file-init
loop-file-init c = none_marked _ _ _ c.in_ok-files.ensures refl

pub insert-requires : goal.insert-requires
insert-requires c =
    let size = c.loop-file.invariant.size in
    let inside = c.loop-file-test.true in
    omega arith

pub loop-file-preserved : goal.loop-file-preserved
loop-file-preserved c =
    let blocks = c.args.blocks.now in
    let file = c.loop-file.file in
    elim c.if-count-ne0.branch [
      | then-count-ne0 w ↦ subst (AreMarked blocks (file + 1)) (sym (w.files-is ∙ w.insert.ensures))
          (file_marked _ _ _ c.loop-file.invariant c.loop-file-test.true w.if-count-ne0.true)
      | else-count-ne0 w ↦ subst (AreMarked blocks (file + 1)) (sym w.files-is) (file_passed _ _ _ c.loop-file.invariant w.if-count-ne0.false)
    ]

pub returns : goal.returns
returns c = all_marked _ _ _ c.loop-file.invariant c.loop-file-test.false
