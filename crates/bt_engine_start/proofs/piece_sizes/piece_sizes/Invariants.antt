use Rattle.std.proofs.Common.{◌≡◌, length}
use Rattle.bt_engine_start.specs.BooksSteps.{AreRunSizes}
use Rattle.bt_engine_start.proofs.piece_sizes.piece_sizes.Given as goal

abbrev pub invariant-loop-piece : goal.invariant-loop-piece
invariant-loop-piece l = record {
  size : length l.sizes.items ≡ l.piece;
  each : AreRunSizes l.torrent l.sizes.items;
}
