use Rattle.std.proofs.Common.{[], ◌≡◌, ◌++◌, ◌∷◌, length, get_or, Option, Some, refl, sym, ap, ◌∙◌, subst, cond, arith, append-nil}
use Rattle.std.specs.Prelude.{slice_set}
use Rattle.std.specs.Option.{option_map, option_to_list}
use Rattle.std.proofs.lemmas.List.{length-set}
use Rattle.bt_store.specs.FileStore.{StoreView}
use Rattle.bt_engine_state.proofs.Lists.{get_at}
use Rattle.bt_engine_state.specs.declared.slot.Slot.{Slot}
use Rattle.bt_engine_start.specs.DeviceSteps.{devices_in}
use Rattle.bt_engine_start.proofs.DeviceOrder.{AreBareBelow, no_devices, bare_above, taken_order, taken_room}
use Rattle.bt_engine_start.proofs.devices.take_back.Goals as goal

pub loop-slot-init : goal.loop-slot-init
loop-slot-init g c = record { count = refl; bare = λ j slot lt at. absurd (omega arith); devices = refl; capacity = omega arith }

pub loop-slot-preserved-in_default : goal.loop-slot-preserved-in_default
loop-slot-preserved-in_default g c =
    let l = c.loop-slot in
    let i = l.slot-index in
    let old = get_or l.slots i c.slot-item.result in
    let here = get_at l.slots i c.slot-item.result (omega (arith, c.loop-slot-test.true)) in
    let new : Slot g.row.D.Denot g.row.H.Denot = record old { store = c.take.new.self } in
    let none = ap (λ (o : Option (StoreView g.row.D.Denot)). option_to_list (option_map (λ store. store.disk) o)) (sym c.take.ensures.value ∙ c.in_default.is) in
    record {
      count = length-set l.slots i new ∙ l.invariant.count;
      bare = bare_above l.slots i new here c.take.ensures.after l.invariant.bare;
      devices = ap (λ ds. ds ++ devices_in (slice_set l.slots i new)) (sym (append-nil l.disks.items) ∙ ap (λ ds. l.disks.items ++ ds) (sym none))
          ∙ taken_order l.slots i new l.invariant.bare here c.take.ensures.after l.disks.items l.invariant.devices;
      capacity = l.invariant.capacity;
    }

pub loop-slot-preserved : goal.loop-slot-preserved
loop-slot-preserved g c =
    let l = c.loop-slot in
    let i = l.slot-index in
    let old = get_or l.slots i c.slot-item.result in
    let here = get_at l.slots i c.slot-item.result (omega (arith, c.loop-slot-test.true)) in
    let new : Slot g.row.D.Denot g.row.H.Denot = record old { store = c.take.new.self } in
    let has : old.store ≡ Some c.in-Some.store = sym c.take.ensures.value ∙ c.in-Some.is in
    let disk = ap (λ (o : Option (StoreView g.row.D.Denot)). option_map (λ store. store.disk) o) has in
    let less = taken_room l.slots i l.invariant.bare here disk l.disks.items l.invariant.devices in
    let room = c.push.ensures.succeeds (omega (arith, less, c.requires.room, l.invariant.capacity, l.disks.ok.0)) in
    let pushed = c.push.ensures.items ∙ ap (λ b. cond b (l.disks.items ++ c.into_disk.result ∷ []) l.disks.items) room in
    let one = ap (λ (o : Option g.row.D.Denot). option_to_list o) disk ∙ ap (λ d. d ∷ []) (sym c.into_disk.ensures) in
    record {
      count = length-set l.slots i new ∙ l.invariant.count;
      bare = bare_above l.slots i new here c.take.ensures.after l.invariant.bare;
      devices = ap (λ ds. ds ++ devices_in (slice_set l.slots i new)) (pushed ∙ ap (λ ds. l.disks.items ++ ds) (sym one))
          ∙ taken_order l.slots i new l.invariant.bare here c.take.ensures.after l.disks.items l.invariant.devices;
      capacity = omega (arith, l.invariant.capacity, c.push.ensures.capacity);
    }

pub returns : goal.returns
returns g c =
    let l = c.loop-slot in
    let done : l.slot-index ≡ length l.slots = omega (arith, c.loop-slot-test.false, l.auto.slot-index-end, l.auto.slots, l.invariant.count) in
    sym (append-nil l.disks.items)
    ∙ ap (λ ds. l.disks.items ++ ds) (sym (no_devices l.slots (subst (λ n. AreBareBelow l.slots n) done l.invariant.bare)))
    ∙ l.invariant.devices
