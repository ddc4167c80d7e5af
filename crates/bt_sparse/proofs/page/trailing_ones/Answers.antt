use Rattle.std.proofs.Common.{sym, ap, ◌∙◌, w64, arith}
use Rattle.std.specs.Int.{bit_at}
use Rattle.std.proofs.lemmas.Nat.Bits.{bit_at_ones, bit_at-trailing_ones}
use Rattle.bt_sparse.proofs.page.trailing_ones.Goals as goal

pub returns-then-word-eq18446744073709551615-clause-set : goal.returns-then-word-eq18446744073709551615-clause-set
returns-then-word-eq18446744073709551615-clause-set c = λ j lt. rw c.if-word-eq18446744073709551615.true (bit_at_ones 64 j lt)

pub returns-clause-set : goal.returns-clause-set
returns-clause-set c = λ j lt. (bit_at-trailing_ones w64 c.args.word (omega arith)).2 j (omega (arith, c.trailing_ones.ensures))

pub returns-clause-none : goal.returns-clause-none
returns-clause-none c = λ h. ap (bit_at c.args.word) (sym h ∙ c.trailing_ones.ensures) ∙ (bit_at-trailing_ones w64 c.args.word (omega arith)).1
