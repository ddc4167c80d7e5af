use Rattle.std.proofs.Common.{rules, ◌≡◌, ◌≤◌, ◌+◌, ◌-◌, length, take, drop, slice_range, ℕ, List, ◌∙◌, ap, arith}
use Rattle.std.proofs.lemmas.List.{with_items_is, places}
use Rattle.bt_connection.proofs.Ranges.{joined, length_behind, length_range}
use Rattle.bt_connection.proofs.room.Room.read_from.Goals as goal

pub returns-clause-came : goal.returns-clause-came
returns-clause-came g c =
    let r = c.self.inside in
    let held = r.end - r.start in
    let count = c.in_ok-count.count in
    let came = c.in_ok-count.ensures in
    let moved = c.move_to_front.new.bytes in
    let bytes : List ℕ = c.read_behind.new.bytes in
    let front : take held bytes ≡ c.args.self.now
    = came.front
    ∙ ap (λ (l : List ℕ). take held l) c.as_mut_slice.ensures.value
    ∙ c.move_to_front.ensures.moved
    ∙ c.self.view_is in
    let size : length bytes ≡ length r.bytes.items
    = came.size ∙ ap (λ (l : List ℕ). length l) c.as_mut_slice.ensures.value ∙ c.move_to_front.ensures.size in
    let long : length (slice_range r.bytes.items r.start r.end) ≡ held
    = length_range r.bytes.items r.start r.end (omega (arith, c.self.invariant)) in
    let within : held + count ≤ length bytes
    = omega (arith, size, long, came.few, c.requires, ap (λ (l : List ℕ). length l) c.self.view_is, c.self.invariant) in
    record {
      came = take count (drop held bytes);
      size = length_behind bytes held count within;
      lost = came.came;
      behind = ap (λ (l : List ℕ). slice_range l 0 (held + count)) (with_items_is moved bytes (search (rules, places)))
          ∙ joined bytes c.args.self.now held count front;
    }
