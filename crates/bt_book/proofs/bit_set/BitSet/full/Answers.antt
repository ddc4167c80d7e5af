use Rattle.std.proofs.Common.{◌≡◌, ap, ◌∙◌, ℕ, ltb, ◌+◌, ◌/◌, ◌%◌, min}
use Rattle.bt_book.specs.BitSetSteps.{has_bit}
use Rattle.bt_book.proofs.Words.{all_bits}
use Rattle.bt_book.proofs.BitSets.{exact_ones, sound_ones}
use Rattle.bt_book.proofs.bit_set.BitSet.full.Goals as goal

pub returns : goal.returns
returns c = all_bits _ _ c.in_ok-words.ensures.bits

pub invariant_of-result : goal.invariant_of-result
invariant_of-result c =
    let more : (i : ℕ) → has_bit c.in_ok-groups.groups.items i ≡ ltb i (c.args.count / 4096 + min 1 (c.args.count % 4096)) = λ i.
    c.in_ok-groups.ensures.bits i ∙ ap (ltb i) c.div_ceil.ensures in
    let size = c.in_ok-groups.ensures.size in
    let groups = c.div_ceil.ensures in (
      sound_ones _ _ _ c.in_ok-words.ensures.bits more c.requires c.in_ok-words.ensures.size (rw groups at size),
      exact_ones _ _ _ c.in_ok-words.ensures.bits more,
    )
