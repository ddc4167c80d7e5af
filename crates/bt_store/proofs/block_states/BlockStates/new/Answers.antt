use Rattle.bt_store.proofs.StateChunks.{states_missing, counts_none}
use Rattle.bt_store.proofs.block_states.BlockStates.new.Goals as goal

pub returns : goal.returns
returns c = states_missing _ _ c.in_ok-missing_chunks.ensures.missing

pub invariant_of-result : goal.invariant_of-result
invariant_of-result c = (
  counts_none _ _ (states_missing _ _ c.in_ok-missing_chunks.ensures.missing) c.requires,
  c.in_ok-missing_chunks.ensures.places,
)
