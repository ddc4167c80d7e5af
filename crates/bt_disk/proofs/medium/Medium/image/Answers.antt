use Rattle.std.proofs.Common.{◌≡◌, ℕ, List, ◌++◌, length, take, drop, subst, rules}
use Rattle.std.proofs.lemmas.List.{take_at}
use Rattle.bt_disk.specs.MemoryDisk.{history_of, IsLeftBy}
use Rattle.bt_disk.proofs.Losses.{left_now}
use Rattle.bt_disk.proofs.medium.Medium.image.Goals as goal

pub returns : goal.returns
returns c =
    let m = c.self.inside in
    let copy = c.in_ok-bytes.bytes in
    let image : List ℕ = take copy.len (c.lose.new.bytes ++ drop (length c.lose.new.bytes) copy.items) in
    let copied : copy.items ≡ m.bytes.items = search rules in
    let back : image ≡ c.lose.new.bytes = take_at _ _ _ (search rules) in
    let left : (greatest : ℕ) → IsLeftBy c.args.loss (record { bytes = m.bytes.items; ranges = m.ranges.items; least_length = m.least; greatest_length = greatest }) image =
    λ greatest. rw (back, ← copied, ← c.deref_mut.ensures.value, ← c.deref-2.ensures.value) (c.lose.ensures greatest) in
    subst (λ kept. IsLeftBy c.args.loss (history_of kept).now image) c.self.view_is (left_now _ _ image _ _ c.args.loss c.self.invariant left)
