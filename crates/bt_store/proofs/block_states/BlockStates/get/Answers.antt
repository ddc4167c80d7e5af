use Rattle.std.proofs.Common.{◌≡◌, length, ap, sym, ◌∙◌, Some, arith}
use Rattle.std.proofs.lemmas.Option.{slice_get-get_or, slice_get_past}
use Rattle.bt_store.specs.declared.block_states.BlockState.TheVariants.{Missing}
use Rattle.bt_store.proofs.StateChunks.{states_length}
use Rattle.bt_store.proofs.block_states.BlockStates.get.Goals as goal

pub state-requires : goal.state-requires
state-requires c =
    let size : length c.args.self.now ≡ c.self.inside.count = ap length (sym c.self.view_is) ∙ states_length _ _ in
    omega arith

pub returns-then-block-self : goal.returns-then-block-self
returns-then-block-self c =
    let size : length c.args.self.now ≡ c.self.inside.count = ap length (sym c.self.view_is) ∙ states_length _ _ in
    ap (λ s. Some s) c.state.ensures ∙ sym (slice_get-get_or c.args.self.now c.args.block Missing (omega arith))

pub returns-else-block-self : goal.returns-else-block-self
returns-else-block-self c =
    let size : length c.args.self.now ≡ c.self.inside.count = ap length (sym c.self.view_is) ∙ states_length _ _ in
    sym (slice_get_past c.args.self.now c.args.block (omega arith))
