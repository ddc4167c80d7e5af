use Rattle.std.proofs.Common.{◌≡◌, ◌++◌, map, take, drop}
use Rattle.bt_engine_start.specs.AnewSteps.{cleared}
use Rattle.bt_engine_start.proofs.anew.clear_slots.Given as goal

abbrev pub invariant-loop-slot : goal.invariant-loop-slot
invariant-loop-slot g l = l.slots ≡ map cleared (take l.slot-index l.fn.slots) ++ drop l.slot-index l.fn.slots
