use Rattle.std.proofs.Common.{◌%◌, length, take, drop, ap, ◌∙◌}
use Rattle.std.proofs.lemmas.List.{take_at}
use Rattle.bt_engine_messages.proofs.SpanReads.{spans_first, spans_last, stops_span, sends_span}
use Rattle.bt_engine_messages.proofs.serving.read_span.Goals as goal

pub read_blocks-requires-clause-first : goal.read_blocks-requires-clause-first
read_blocks-requires-clause-first g c = rw c.first_block-first.ensures (c.requires.marked.marked _ (spans_first c.requires.short))

pub read_blocks-requires-clause-last : goal.read_blocks-requires-clause-last
read_blocks-requires-clause-last g c = rw c.last_block-last.ensures (c.requires.marked.marked _ (spans_last c.requires.short))

pub returns-in-Ok-clause-right : goal.returns-in-Ok-clause-right
returns-in-Ok-clause-right g c =
    let out = c.read_blocks.new.out in
    let whole = take_at out (drop (length out) c.args.room.blocks.items) c.args.room.blocks.len (c.read_blocks.auto.out ∙ c.as_mut_slice.ensures.len) in
    sends_span c.requires.short c.first_block-first.ensures c.last_block-last.ensures c.in-Ok.ensures.right
    (c.cut.ensures ∙ ap (λ l. take c.args.span.length (drop (c.args.span.start % 16384) (take c.in-Ok.count l))) (c.as_slice.ensures.value ∙ whole))

pub returns-clause-wrong : goal.returns-clause-wrong
returns-clause-wrong g c = stops_span c.requires.short c.first_block-first.ensures c.last_block-last.ensures c.in-Err.ensures.wrong
