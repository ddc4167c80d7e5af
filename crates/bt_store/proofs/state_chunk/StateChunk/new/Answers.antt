use Rattle.bt_store.proofs.StateChunks.{padded_none}
use Rattle.bt_store.proofs.state_chunk.StateChunk.new.Goals as goal

pub returns : goal.returns
returns c = padded_none _ _ c.in_ok-with_capacity.ensures.items
