use Rattle.std.proofs.Common.{◌≡◌, true, drop}
use Rattle.std.specs.List.{list_all}
use Rattle.bt_store.specs.BlockStates.{is_marked}
use Rattle.bt_engine_state.specs.Parts.{file_of}
use Rattle.bt_engine_state.proofs.reports.is_complete.Given as goal

abbrev pub invariant-loop-index : goal.invariant-loop-index
invariant-loop-index g l = list_all (λ slot. list_all is_marked (file_of slot).states) (drop l.index l.slots) ≡ true
