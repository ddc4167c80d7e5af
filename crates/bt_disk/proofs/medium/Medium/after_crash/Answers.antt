use Rattle.std.proofs.Common.{◌≡◌, ℕ, ◌++◌, length, take, drop, ◌∙◌, ap, subst, rules}
use Rattle.std.proofs.lemmas.List.{take_at}
use Rattle.bt_disk.specs.MemoryDisk.{history_of, IsLeftBy}
use Rattle.bt_disk.proofs.Losses.{left_now}
use Rattle.bt_disk.proofs.medium.Medium.after_crash.Goals as goal

pub returns-clause-left : goal.returns-clause-left
returns-clause-left c =
    let image = c.new.result.first in
    let m = c.self.inside in
    let back : take m.bytes.len (c.lose.new.bytes ++ drop (length c.lose.new.bytes) m.bytes.items) ≡ c.lose.new.bytes = take_at _ _ _ (search rules) in
    let same : image ≡ c.lose.new.bytes = ap (λ kept. kept.first) c.new.ensures ∙ back in
    let left : (greatest : ℕ) → IsLeftBy c.args.loss (record { bytes = m.bytes.items; ranges = m.ranges.items; least_length = m.least; greatest_length = greatest }) image =
    λ greatest. rw (same, ← c.deref_mut.ensures.value, ← c.deref.ensures.value) (c.lose.ensures greatest) in
    subst (λ kept. IsLeftBy c.args.loss (history_of kept).now image) c.self.view_is (left_now _ _ image _ _ c.args.loss c.self.invariant left)
