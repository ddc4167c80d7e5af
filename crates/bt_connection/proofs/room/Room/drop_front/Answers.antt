use Rattle.std.proofs.Common.{◌≡◌, ◌≤◌, ◌+◌, ◌-◌, length, drop, slice_range, ℕ, List, sym, ◌∙◌, ap, arith}
use Rattle.bt_connection.proofs.Ranges.{advanced, length_range}
use Rattle.bt_connection.proofs.room.Room.drop_front.Goals as goal

pub returns : goal.returns
returns g c =
    let r = c.self.inside in
    let count = c.args.count in
    let long : length (slice_range r.bytes.items r.start r.end) ≡ r.end - r.start
    = length_range r.bytes.items r.start r.end (omega (arith, c.self.invariant)) in
    let fits : r.start + count ≤ r.end
    = omega (arith, long, c.requires, ap (λ (l : List ℕ). length l) c.self.view_is, c.self.invariant) in
    sym (advanced r.bytes.items r.start count r.end fits) ∙ ap (λ (l : List ℕ). drop count l) c.self.view_is
