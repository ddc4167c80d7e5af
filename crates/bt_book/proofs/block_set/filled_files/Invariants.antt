use Rattle.bt_book.proofs.BlockSets.{AreMarked}
use Rattle.bt_book.proofs.block_set.filled_files.Given as goal

abbrev pub invariant-loop-file : goal.invariant-loop-file
invariant-loop-file l = AreMarked l.blocks l.file l.files
