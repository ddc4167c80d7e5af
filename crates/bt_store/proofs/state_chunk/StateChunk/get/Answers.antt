use Rattle.std.proofs.Common.{◌≡◌, length, ap, sym, ◌∙◌, get_or, arith}
use Rattle.std.proofs.lemmas.List.{get_or_past, get_or_read}
use Rattle.bt_store.specs.declared.block_states.BlockState.TheVariants.{Missing}
use Rattle.bt_store.proofs.StateChunks.{padded_length, padded_at}
use Rattle.bt_store.proofs.state_chunk.StateChunk.get.Goals as goal

pub returns-then-index-len : goal.returns-then-index-len
returns-then-index-len c =
    let size : length c.args.self.now ≡ c.self.inside.count = ap length (sym c.self.view_is) ∙ padded_length _ _ in
    let inside = c.requires in
    let len = c.self.inside.states.ok.0 in
    get_or_read c.self.inside.states.items c.args.index c.index.result.now (omega arith) c.index.ensures Missing
    ∙ sym (padded_at c.self.inside.count c.self.inside.states.items c.args.index (omega arith))
    ∙ ap (λ s. get_or s c.args.index Missing) c.self.view_is

pub returns-else-index-len : goal.returns-else-index-len
returns-else-index-len c =
    let size : length c.args.self.now ≡ c.self.inside.count = ap length (sym c.self.view_is) ∙ padded_length _ _ in
    let inside = c.requires in
    let len = c.self.inside.states.ok.0 in
    sym (get_or_past c.self.inside.states.items c.args.index Missing (omega arith))
    ∙ sym (padded_at c.self.inside.count c.self.inside.states.items c.args.index (omega arith))
    ∙ ap (λ s. get_or s c.args.index Missing) c.self.view_is
