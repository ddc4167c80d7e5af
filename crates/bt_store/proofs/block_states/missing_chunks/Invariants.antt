use Rattle.bt_store.proofs.StateChunks.{AreMade}
use Rattle.bt_store.proofs.block_states.missing_chunks.Given as goal

abbrev pub invariant-loop-index : goal.invariant-loop-index
invariant-loop-index l = AreMade l.count l.index l.chunks.items
