use Rattle.std.proofs.Common.{rules, length, slice_range, ℕ, List, ◌∙◌, ap}
use Rattle.std.proofs.lemmas.List.{with_items_is, places}
use Rattle.bt_connection.proofs.Ranges.{held_in}
use Rattle.bt_connection.proofs.room.Room.hold.Goals as goal

pub returns : goal.returns
returns g c =
    let part = c.args.part.now in
    let bytes : List ℕ = c.put_over.new.bytes in
    ap (λ (l : List ℕ). slice_range l 0 (length part)) (with_items_is c.self.inside.bytes bytes (search (rules, places)))
    ∙ ap (λ (l : List ℕ). slice_range l 0 (length part)) c.put_over.ensures
    ∙ held_in c.as_mut_slice.result.now part
