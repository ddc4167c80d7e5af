use Rattle.std.proofs.Common.{subst}
use Rattle.bt_meta.specs.PieceBlocks.{IsBlockRange}
use Rattle.bt_engine_messages.proofs.Placing.{is_same, is_other, no_place, no_block, one_block, is_range}
use Rattle.bt_engine_messages.proofs.spans.block_in.Goals as goal

pub returns-in_err-span-clause-none : goal.returns-in_err-span-clause-none
returns-in_err-span-clause-none c =
    rw c.from_residual.ensures (no_place c.block_ranges_are_places.ensures.place _ c.keeps_laws.ensures.piece c.args.ask c.in_err-span.ensures.none)

pub returns-in_err-span-clause-one : goal.returns-in_err-span-clause-one
returns-in_err-span-clause-one c = one_block c.block_ranges_are_places.ensures.place _ c.keeps_laws.ensures.piece c.args.ask c.keeps_laws.ensures.laid_out

pub returns-in_err-range-clause-none : goal.returns-in_err-range-clause-none
returns-in_err-range-clause-none c =
    rw c.from_residual-in_err-range.ensures (no_block c.block_ranges_are_places.ensures.place _ c.keeps_laws.ensures.piece c.args.ask c.keeps_laws.ensures.laid_out
    c.in_ok-span.span c.in_ok-span.ensures.some c.first_block.result c.first_block.ensures
    (λ h. absurd (let e = c.in_err-range.ensures.variant.1 h in cc)))

pub returns-in_err-range-clause-one : goal.returns-in_err-range-clause-one
returns-in_err-range-clause-one c = one_block c.block_ranges_are_places.ensures.place _ c.keeps_laws.ensures.piece c.args.ask c.keeps_laws.ensures.laid_out

pub returns-then-ne-clause-none : goal.returns-then-ne-clause-none
returns-then-ne-clause-none c = λ b w.
    is_other c.in_ok-range.range c.args.ask c.if-ne.ensures
    (is_range c.block_ranges_are_places.ensures.place _ c.keeps_laws.ensures.piece c.args.ask c.keeps_laws.ensures.laid_out
    c.in_ok-span.span c.in_ok-span.ensures.some c.first_block.result c.first_block.ensures c.in_ok-range.range c.in_ok-range.ensures.value b w)

pub returns-then-ne-clause-one : goal.returns-then-ne-clause-one
returns-then-ne-clause-one c = one_block c.block_ranges_are_places.ensures.place _ c.keeps_laws.ensures.piece c.args.ask c.keeps_laws.ensures.laid_out

pub returns-clause-one : goal.returns-clause-one
returns-clause-one c = one_block c.block_ranges_are_places.ensures.place _ c.keeps_laws.ensures.piece c.args.ask c.keeps_laws.ensures.laid_out

pub returns-clause-some : goal.returns-clause-some
returns-clause-some c =
    subst (IsBlockRange c.args.torrent.now c.in_ok-span.span.file c.first_block.result) (is_same c.in_ok-range.range c.args.ask c.if-ne.ensures) c.in_ok-range.ensures.value
