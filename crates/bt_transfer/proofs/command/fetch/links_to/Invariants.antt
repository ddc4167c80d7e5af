-- The peers so far have their links.
use Rattle.std.proofs.Common.{◌≡◌, take}
use Rattle.bt_transfer.specs.Fetch.{links_by}
use Rattle.bt_transfer.proofs.command.fetch.links_to.Given as goal

abbrev pub invariant-loop-peer : goal.invariant-loop-peer
invariant-loop-peer g l = l.links.items ≡ links_by l.passage.short_blocks.now l.passage.pieces (take l.peer-index l.peers)
