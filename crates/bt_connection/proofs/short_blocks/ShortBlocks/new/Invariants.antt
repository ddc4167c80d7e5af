-- The short blocks of the files so far.
use Rattle.std.proofs.Common.{◌≡◌, take}
use Rattle.bt_connection.proofs.LastBlocks.{blocks_in}
use Rattle.bt_connection.proofs.short_blocks.ShortBlocks.new.Given as goal

abbrev pub invariant-loop-file : goal.invariant-loop-file
invariant-loop-file l = l.blocks.items ≡ blocks_in l.torrent.piece_length (take l.file l.torrent.files)
