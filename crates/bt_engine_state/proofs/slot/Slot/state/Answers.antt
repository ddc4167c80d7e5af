use Rattle.std.proofs.Common.{[], Option, ap, sym, ◌∙◌, arith}
use Rattle.std.specs.Prelude.{slice_get}
use Rattle.std.specs.Option.{option_map_or}
use Rattle.std.proofs.lemmas.Option.{slice_get_past}
use Rattle.bt_store.specs.FileStore.{StoreView}
use Rattle.bt_store.specs.declared.block_states.BlockState.{BlockState}
use Rattle.bt_engine_state.proofs.slot.Slot.state.Goals as goal

pub returns-in-None : goal.returns-in-None
returns-in-None g c =
    sym (ap (λ (o : Option (StoreView g.row.D.Denot)). slice_get (option_map_or (λ store. store.states) o []) c.args.block) c.in-None.is
    ∙ slice_get_past {X = BlockState} [] c.args.block (omega arith))
