use Rattle.std.proofs.Common.{◌≡◌, ◌++◌, length, map, replicate, take, drop}
use Rattle.bt_store.specs.declared.block_states.BlockState.TheVariants.{Missing}
use Rattle.bt_store.proofs.block_states.clear_chunks.Given as goal

abbrev pub invariant-loop-chunk : goal.invariant-loop-chunk
invariant-loop-chunk l =
    l.chunks ≡ map (λ states. replicate (length states) Missing) (take l.chunk-index l.fn.chunks) ++ drop l.chunk-index l.fn.chunks
