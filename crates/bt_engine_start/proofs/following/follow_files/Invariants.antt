use Rattle.std.proofs.Common.{◌≡◌}
use Rattle.bt_book.specs.Book.{peers_of}
use Rattle.bt_machine.specs.State.{EngineState}
use Rattle.bt_engine_state.specs.BlockChange.{AreFollowed}
use Rattle.bt_engine_start.specs.FollowingSteps.{HasFiles, missing_from}
use Rattle.bt_engine_start.proofs.following.follow_files.Given as goal

abbrev pub invariant-loop-file : goal.invariant-loop-file
invariant-loop-file g l = record {
  followed : (s : EngineState) → HasFiles l.torrent l.slots s → AreFollowed (missing_from 0 s) l.fn.book.wanted l.fn.counts
      → AreFollowed (missing_from l.file s) l.book.wanted l.counts;
  peers : peers_of l.book ≡ peers_of l.fn.book;
}
