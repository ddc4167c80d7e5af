use Rattle.std.proofs.Common.{◌≡◌, ℕ, ◌+◌, ◌-◌, ◌<◌, ◌++◌, List, length, map, refl, sym, ap, ◌∙◌, arith, rules, append-nil}
use Rattle.std.proofs.lemmas.List.{length-map, length-set, take_all}
use Rattle.bt_meta.specs.Files.{file_of}
use Rattle.bt_meta.specs.declared.torrent.FileEntry.{FileEntry}
use Rattle.bt_machine.specs.Start.{device_count}
use Rattle.bt_machine.proofs.Lists.{some_below}
use Rattle.bt_machine.proofs.Shape.{map_set}
use Rattle.bt_engine_state.proofs.Lists.{get_read, get_at, fits_below}
use Rattle.bt_engine_start.proofs.DeviceOrder.{all_bare, no_devices, device_left, filled_bare, filled_new, filled_order, filled_count}
use Rattle.bt_engine_start.proofs.devices.fill_slots.Goals as goal

pub loop-index-init : goal.loop-index-init
loop-index-init g c =
    let files = c.args.files.now in
    let slots = c.args.slots.now in
    let bare = all_bare slots c.requires.bare in
    record {
      count = c.requires.count;
      trees = refl;
      bare = bare (length files);
      slots = λ j file slot from listed at. absurd (let below = some_below (map file_of files) j listed in omega (arith, below, length-map files file_of));
      enough = c.requires.enough ∙ ap (λ (fs : List FileEntry). device_count (map file_of fs)) (sym (take_all (length files) files (omega arith)));
      devices = ap (λ ds. c.args.disks.now.items ++ ds) (no_devices slots (bare (length slots))) ∙ append-nil c.args.disks.now.items;
      capacity = omega arith;
    }

pub offset_bounds-slots-index : goal.offset_bounds-slots-index
offset_bounds-slots-index g c =
    let below : c.loop-index.index - 1 < length c.args.slots.now = omega (arith, c.loop-index-test.true, c.loop-index.auto.index, c.requires.count) in
    fits_below (c.loop-index.index - 1) (length c.args.slots.now) _ below (first_of (omega arith, search rules))

pub fill_slot-requires-clause-short : goal.fill_slot-requires-clause-short
fill_slot-requires-clause-short g c =
    let i : ℕ = c.loop-index.index - 1 in
    omega (
      arith,
      c.requires.short i c.index-files-index.result (omega (arith, c.loop-index-test.true, c.loop-index.auto.index)),
      ap (λ (f : FileEntry). f.length) c.index-files-index.is,
    )

pub fill_slot-requires-clause-bare : goal.fill_slot-requires-clause-bare
fill_slot-requires-clause-bare g c =
    let i : ℕ = c.loop-index.index - 1 in
    c.loop-index.invariant.bare i _ (omega (arith, c.loop-index-test.true))
    (get_at c.loop-index.slots i c.index-slots-index.result (omega (arith, c.loop-index-test.true, c.loop-index.auto.index, c.loop-index.invariant.count)))

pub fill_slot-requires-clause-enough : goal.fill_slot-requires-clause-enough
fill_slot-requires-clause-enough g c =
    let i : ℕ = c.loop-index.index - 1 in
    let files = c.args.files.now in
    let listed = get_read files i c.index-files-index.result (omega (arith, c.loop-index-test.true, c.loop-index.auto.index)) c.index-files-index.is in
    λ some. omega (arith, device_left files c.loop-index.index i (omega (arith, c.loop-index-test.true)) listed some, c.loop-index.invariant.enough)

pub returns-in_err-fill_slot-clause-trees : goal.returns-in_err-fill_slot-clause-trees
returns-in_err-fill_slot-clause-trees g c =
    let l = c.loop-index in
    let here = get_at l.slots (l.index - 1) c.index-slots-index.result (omega (arith, c.loop-index-test.true, l.auto.index, l.invariant.count)) in
    map_set (λ slot. slot.tree) l.slots (l.index - 1) c.fill_slot.new.slot here c.fill_slot.ensures.tree ∙ l.invariant.trees

pub returns-in_err-fill_slot-clause-devices : goal.returns-in_err-fill_slot-clause-devices
returns-in_err-fill_slot-clause-devices g c =
    let l = c.loop-index in
    let i : ℕ = l.index - 1 in
    let below : i < length c.args.files.now = omega (arith, c.loop-index-test.true, l.auto.index) in
    let listed = get_at c.args.files.now i c.index-files-index.result below in
    let here = get_at l.slots i c.index-slots-index.result (omega (arith, below, l.invariant.count)) in
    filled_order c.args.files.now l.slots l.index i (omega (arith, c.loop-index-test.true)) c.fill_slot.new.slot listed here l.disks.items c.fill_slot.new.disks.items
    c.fill_slot.ensures.devices l.invariant.bare (l.invariant.bare i _ (omega (arith, c.loop-index-test.true)) here) l.invariant.devices

pub loop-index-preserved : goal.loop-index-preserved
loop-index-preserved g c =
    let l = c.loop-index in
    let i : ℕ = l.index - 1 in
    let files = c.args.files.now in
    let next : l.index ≡ i + 1 = omega (arith, c.loop-index-test.true) in
    let below : i < length files = omega (arith, next, l.auto.index) in
    let listed = get_read files i c.index-files-index.result below c.index-files-index.is in
    let here = get_at l.slots i c.index-slots-index.result (omega (arith, below, l.invariant.count)) in
    let new = c.fill_slot.new.slot in
    let none = l.invariant.bare i _ (omega (arith, next)) here in
    let left = c.fill_slot.new.disks.items in
    let took = c.fill_slot.ensures.devices in
    record {
      count = length-set l.slots i new ∙ l.invariant.count;
      trees = map_set (λ slot. slot.tree) l.slots i new here c.fill_slot.ensures.tree ∙ l.invariant.trees;
      bare = filled_bare files l.slots l.index i next new listed here l.invariant.bare;
      slots = filled_new files l.slots l.index i next new listed here c.in_ok-fill_slot.ensures.slot l.invariant.slots;
      enough = filled_count files l.slots l.index i next new listed here l.disks.items left took c.in_ok-fill_slot.ensures.slot l.invariant.enough;
      devices = filled_order files l.slots l.index i next new listed here l.disks.items left took l.invariant.bare none l.invariant.devices;
      capacity = omega (arith, l.invariant.capacity, c.fill_slot.ensures.capacity);
    }

pub returns-clause-slots : goal.returns-clause-slots
returns-clause-slots g c = λ i file slot listed at. c.loop-index.invariant.slots i file slot (omega (arith, c.loop-index-test.false)) listed at
