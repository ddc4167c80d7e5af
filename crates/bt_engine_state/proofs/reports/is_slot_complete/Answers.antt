use Rattle.std.proofs.Common.{[], Option, sym, ap, ◌∙◌}
use Rattle.std.specs.List.{list_all}
use Rattle.std.specs.Option.{option_map_or}
use Rattle.bt_store.specs.BlockStates.{is_marked}
use Rattle.bt_store.specs.FileStore.{StoreView}
use Rattle.bt_engine_state.proofs.Completeness.{is_all}
use Rattle.bt_engine_state.proofs.reports.is_slot_complete.Goals as goal

pub returns-in-Some : goal.returns-in-Some
returns-in-Some g c =
    is_all c.in-Some.store.states c.is_complete.result c.is_complete.ensures
    ∙ ap (λ (o : Option (StoreView g.row.D.Denot)). list_all is_marked (option_map_or (λ store. store.states) o [])) (sym c.in-Some.is)
