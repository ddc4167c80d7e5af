use Rattle.std.proofs.Common.{List, length, map, replicate, ap, sym, ◌∙◌, arith}
use Rattle.std.proofs.lemmas.List.{with_items_is}
use Rattle.bt_store.specs.StateChunks.{states_of}
use Rattle.bt_store.specs.declared.block_states.BlockState.{BlockState}
use Rattle.bt_store.specs.declared.block_states.BlockState.TheVariants.{Missing}
use Rattle.bt_store.proofs.StateChunks.{cleared, states_length, states_missing, counts_none, all_cleared, places_cleared}
use Rattle.bt_store.proofs.block_states.BlockStates.clear.Goals as goal

pub invariant_of-self : goal.invariant_of-self
invariant_of-self c =
    let count = c.self.inside.count in
    let chunks = c.self.inside.chunks.items in
    let made = with_items_is c.self.inside.chunks c.clear_chunks.new.chunks (c.clear_chunks.auto.chunks ∙ c.deref_mut.ensures.len)
    ∙ c.clear_chunks.ensures ∙ ap (map (λ (states : List BlockState). replicate (length states) Missing)) c.deref_mut.ensures.value in
    let missing = states_missing count (cleared chunks) (all_cleared chunks) in
    let size = states_length count chunks in
    let few = c.self.invariant.0.few in
    rw made (counts_none count _ missing (omega arith), places_cleared chunks count c.self.invariant.1)

pub returns : goal.returns
returns c =
    let count = c.self.inside.count in
    let chunks = c.self.inside.chunks.items in
    let made = with_items_is c.self.inside.chunks c.clear_chunks.new.chunks (c.clear_chunks.auto.chunks ∙ c.deref_mut.ensures.len)
    ∙ c.clear_chunks.ensures ∙ ap (map (λ (states : List BlockState). replicate (length states) Missing)) c.deref_mut.ensures.value in
    let missing = states_missing count (cleared chunks) (all_cleared chunks) in
    ap (states_of count) made
    ∙ missing
    ∙ ap (λ n. replicate n Missing) (sym (states_length count chunks) ∙ ap length c.self.view_is)
