use Rattle.std.proofs.Common.{ℕ, ◌-◌, ◌*◌, ◌/◌, ◌%◌, length, ◌∙◌, arith}
use Rattle.std.proofs.lemmas.List.{take_rest}
use Rattle.bt_lanes.proofs.Tails.{IsTail_of}
use Rattle.bt_lanes.proofs.padding.tail.Goals as goal

pub returns : goal.returns
returns c =
    let m = c.args.message.now in
    let end : ℕ = 64 * c.tail_block_count-end.result in
    IsTail_of m c.copy_from_slice.new.self c.copy_from_slice-2.new.self c.tail_block_count-end.result (length m % 64 - 0) (end - (end - 8))
    (c.copy_from_slice.ensures.after ∙ take_rest m (length m / 64 * 64)) c.tail_block_count-end.ensures (omega arith) (omega arith)
    (c.copy_from_slice-2.ensures.after ∙ c.to_be_bytes.ensures)
