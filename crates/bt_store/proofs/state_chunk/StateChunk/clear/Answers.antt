use Rattle.std.proofs.Common.{ap, length, replicate, sym, ◌∙◌}
use Rattle.bt_store.specs.declared.block_states.BlockState.TheVariants.{Missing}
use Rattle.bt_store.proofs.StateChunks.{padded_length, padded_none}
use Rattle.bt_store.proofs.state_chunk.StateChunk.clear.Goals as goal

pub returns : goal.returns
returns c =
    padded_none _ _ c.clear.ensures.items
    ∙ ap (λ n. replicate n Missing) (sym (padded_length _ _) ∙ ap length c.self.view_is)
