use Rattle.std.proofs.lemmas.Option.{slice_get_read}
use Rattle.std.proofs.Common.{rules, length, refl}
use Rattle.bt_disk.proofs.open_handles.OpenHandles.take.Goals as goal

pub returns-clause-own : goal.returns-clause-own
returns-clause-own g c = c.in_ok-place.ensures.some.here _ c.in_ok-handle.ensures.value

pub returns-clause-taken : goal.returns-clause-taken
returns-clause-taken g c =
    let place = c.in_ok-place.ensures.some in
    let read = c.in_ok-handle.ensures.value in
    let entries = c.self.inside.entries.items in
    let there = slice_get_read entries (length entries) c.in_ok-place.place c.in_ok-handle.handle refl place.inside read in
    record { place = c.in_ok-place.place; there = rw (← c.self.view_is) there; rest = search rules }
