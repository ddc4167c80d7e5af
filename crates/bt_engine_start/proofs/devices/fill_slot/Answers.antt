use Rattle.std.proofs.Common.{refl, ap, ◌∙◌, arith}
use Rattle.bt_store.specs.FileStore.{new_states}
use Rattle.bt_engine_start.proofs.devices.fill_slot.Goals as goal

pub returns-in-Ok-clause-slot : goal.returns-in-Ok-clause-slot
returns-in-Ok-clause-slot g c = record {
  empty = λ none. absurd (omega (arith, (c.in-Some.ensures.lawful.0 refl).some));
  some = λ some. (c.in-Ok.store, refl, c.in-Ok.ensures.file ∙ c.in-Some.ensures.value, c.in-Ok.ensures.states ∙ ap new_states c.in-Some.ensures.value);
}
