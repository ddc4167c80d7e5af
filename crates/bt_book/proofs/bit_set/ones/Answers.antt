use Rattle.std.proofs.Common.{◌≡◌, ℕ, ◌-◌, ◌*◌, ◌/◌, ◌%◌, ◌^◌, List, length, set, replicate, ap, ◌∙◌, arith}
use Rattle.std.proofs.lemmas.List.{length-set, length-replicate}
use Rattle.std.proofs.lemmas.Nat.{one_shl}
use Rattle.bt_book.specs.BitSetSteps.{has_bit}
use Rattle.bt_book.proofs.Words.{all_ones, cut_ones}
use Rattle.bt_book.proofs.bit_set.ones.Goals as goal
use Rattle.bt_book.proofs.bit_set.ones.Goals.{then-count-ne0, else-count-ne0}

pub returns : goal.returns
returns c =
    let count : ℕ = c.args.count in
    let n : ℕ = c.div_ceil.result in
    let ones : List ℕ = replicate n 18446744073709551615 in
    let made : c.in_ok-words.words.items ≡ ones = c.in_ok-words.ensures.items_if_clones_equal (λ y e. e) in
    elim c.if-count-ne0.branch [
      | then-count-ne0 w ↦
          let last : ℕ = 1 * 2 ^ (count % 64) % 18446744073709551616 - 1 in
          let cut : c.if-count-ne0.words.items ≡ set ones (count / 64) last = ap (λ v. v.items) w.words-is ∙ ap (λ l. set l (count / 64) last) made in
          let size = ap length cut ∙ length-set ones (count / 64) last ∙ length-replicate n 18446744073709551615 ∙ c.div_ceil.ensures in
          record {
            size = size;
            bits = λ i. ap (λ l. has_bit l i) cut ∙ cut_ones count n last c.div_ceil.ensures w.if-count-ne0.true (ap (λ m. m - 1) (one_shl (count % 64) 64 (omega arith))) i;
          }
      | else-count-ne0 w ↦
          let whole : c.if-count-ne0.words.items ≡ ones = ap (λ v. v.items) w.words-is ∙ made in
          record {
            size = ap length whole ∙ length-replicate n 18446744073709551615 ∙ c.div_ceil.ensures;
            bits = λ i. ap (λ l. has_bit l i) whole ∙ all_ones count n c.div_ceil.ensures w.if-count-ne0.false i;
          }
    ]
