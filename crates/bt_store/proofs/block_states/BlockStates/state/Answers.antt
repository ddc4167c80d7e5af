use Rattle.std.proofs.Common.{◌≡◌, ◌<◌, length, get_or, ap, sym, ◌∙◌, arith}
use Rattle.bt_store.specs.declared.block_states.BlockState.TheVariants.{Missing}
use Rattle.bt_store.proofs.StateChunks.{has_chunk, has_place, state_read, states_length}
use Rattle.bt_store.proofs.block_states.BlockStates.state.Goals as goal

pub index-requires : goal.index-requires
index-requires c =
    let size : length c.args.self.now ≡ c.self.inside.count = ap length (sym c.self.view_is) ∙ states_length _ _ in
    let inside : c.args.block < c.self.inside.count = omega (arith, c.requires) in
    omega (arith, has_chunk _ _ _ c.self.invariant.1 inside, c.self.inside.chunks.ok.0)

pub get-requires : goal.get-requires
get-requires c =
    let size : length c.args.self.now ≡ c.self.inside.count = ap length (sym c.self.view_is) ∙ states_length _ _ in
    let inside : c.args.block < c.self.inside.count = omega (arith, c.requires) in
    has_place _ _ _ _ c.self.invariant.1 inside c.index.ensures

pub returns : goal.returns
returns c =
    let size : length c.args.self.now ≡ c.self.inside.count = ap length (sym c.self.view_is) ∙ states_length _ _ in
    let inside : c.args.block < c.self.inside.count = omega (arith, c.requires) in
    c.get.ensures
    ∙ state_read _ _ _ _ c.self.invariant.1 inside c.index.ensures
    ∙ ap (λ s. get_or s c.args.block Missing) c.self.view_is
