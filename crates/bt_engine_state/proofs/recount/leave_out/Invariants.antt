use Rattle.std.proofs.Common.{◌≡◌, length, replicate}
use Rattle.bt_book.specs.Book.{peers_of}
use Rattle.bt_store.specs.declared.block_states.BlockState.TheVariants.{Marked}
use Rattle.bt_engine_state.specs.Parts.{file_of}
use Rattle.bt_engine_state.proofs.Recounts.{IsBetween}
use Rattle.bt_engine_state.proofs.recount.leave_out.Given as goal

abbrev pub invariant-loop-block : goal.invariant-loop-block
invariant-loop-block g l = record {
  between : IsBetween l.torrent l.file (file_of l.slot) (file_of l.slot).states (replicate (length (file_of l.slot).states) Marked)
      l.fn.book.wanted l.fn.counts l.block l.book.wanted l.counts;
  peers : peers_of l.book ≡ peers_of l.fn.book;
}
