use Rattle.std.proofs.Common.{◌≡◌, ◌+◌, ℕ, List, [], drop, ◌∙◌, subst, arith, length-drop}
use Rattle.std.proofs.lemmas.List.{take_rest, length-take}
use Rattle.std.proofs.lemmas.List.Elements.{All-nil, All-same}
use Rattle.bt_wire.specs.Frames.{BeginsFrame}
use Rattle.bt_wire.specs.declared.frames.TheConstants.{BLOCK_MESSAGE_LEN}
use Rattle.bt_connection.specs.Messages.{IsLongAt, no_message}
use Rattle.bt_connection.specs.declared.blocks.TheConstants.{COUNT}
use Rattle.bt_connection.proofs.Leading.{messages_more}
use Rattle.bt_connection.proofs.Longs.{long_more, long_later}
use Rattle.bt_connection.proofs.messages.whole_messages.Goals as goal
use Rattle.bt_connection.proofs.messages.whole_messages.Goals.{then-carries_block, else-carries_block}

pub messages-init : goal.messages-init
messages-init g c =
    let none = IsLongAt c.args.bytes.now 0 in
    record { within = omega arith; messages = no_message; long = All-same none c.new-blocks.result [] c.new-blocks.ensures (All-nil none) }

pub messages-preserved : goal.messages-preserved
messages-preserved g c =
    let bytes = c.args.bytes.now in
    let at = c.messages.at in
    let len = c.in-Some.len in
    let so = c.messages.invariant in
    let begins : BeginsFrame (drop at bytes) len
    = subst (λ (b : List ℕ). BeginsFrame b len) (take_rest bytes at) c.in-Some.ensures.whole in
    record {
      within = omega (arith, so.within, begins.inside, length-drop at bytes);
      messages = messages_more bytes at len so.messages begins;
      long = elim c.if-carries_block.branch [
        | then-carries_block w ↦
            let carries = c.carries_block.ensures.0 w.if-carries_block.true in
            let size : len ≡ BLOCK_MESSAGE_LEN = omega (arith, carries.size, begins.inside, length-take {A = ℕ}, length-drop {A = ℕ}) in
            All-same (IsLongAt bytes (at + len)) c.if-carries_block.blocks _ (w.blocks-is ∙ w.push.ensures)
            (long_more bytes at len COUNT c.messages.blocks so.long begins so.within size)
        | else-carries_block w ↦
            All-same (IsLongAt bytes (at + len)) c.if-carries_block.blocks c.messages.blocks w.blocks-is
            (long_later bytes at (at + len) c.messages.blocks (omega arith) so.long)
      ];
    }
