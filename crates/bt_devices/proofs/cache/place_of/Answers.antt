use Rattle.std.proofs.Common.{sym, ap, ◌∙◌, below_more, arith}
use Rattle.std.specs.Prelude.{length}
use Rattle.bt_devices.proofs.Runs.{block_is, length_block}
use Rattle.bt_devices.proofs.cache.place_of.Goals as goal

pub returns-then-block-ne-BLOCK_LEN : goal.returns-then-block-ne-BLOCK_LEN
returns-then-block-ne-BLOCK_LEN c j below same =
    let size = length_block c.args.run.now j c.requires below in
    let other = ap length same in
    absurd (omega (arith, c.if-block-ne-BLOCK_LEN.true))

pub returns-then-are_same : goal.returns-then-are_same
returns-then-are_same c = (c.loop-j-test.true, sym (block_is c.loop-j.j c.args.run.now) ∙ c.are_same.ensures.0 c.if-are_same.true)

pub loop-j-preserved : goal.loop-j-preserved
loop-j-preserved c =
    below_more _ _ c.loop-j.invariant (λ same.
    let equal = c.are_same.ensures.1 (block_is c.loop-j.j c.args.run.now ∙ same) in
    let unequal = c.if-are_same.false in
    cc)
