use Rattle.std.proofs.Common.{List, length, replicate, set, sym, ap, ◌∙◌}
use Rattle.std.proofs.lemmas.List.Edits.{map_over_more}
use Rattle.bt_store.specs.declared.block_states.BlockState.{BlockState}
use Rattle.bt_store.specs.declared.block_states.BlockState.TheVariants.{Missing}
use Rattle.bt_store.proofs.block_states.clear_chunks.Goals as goal

pub loop-chunk-preserved : goal.loop-chunk-preserved
loop-chunk-preserved c =
    ap (set c.loop-chunk.chunks c.loop-chunk.chunk-index)
    (c.clear.ensures ∙ ap (λ (states : List BlockState). replicate (length states) Missing) (sym c.chunk-item.is))
    ∙ map_over_more (λ (states : List BlockState). replicate (length states) Missing) c.args.chunks.now c.loop-chunk.chunks c.loop-chunk.chunk-index
    c.chunk-item.result c.loop-chunk-test.true c.loop-chunk.invariant c.chunk-item.is
