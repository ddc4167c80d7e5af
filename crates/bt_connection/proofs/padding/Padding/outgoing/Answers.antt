use Rattle.std.proofs.Common.{◌≡◌, ◌+◌, ◌-◌, ◌++◌, sym, ◌∙◌, ap, subst, List, ℕ, drop, length, remove, replicate}
use Rattle.bt_wire.specs.declared.message.Ask.{Ask}
use Rattle.bt_connection.specs.Padding.{Memory}
use Rattle.bt_wire.specs.Frames.{IsPieceOf}
use Rattle.bt_connection.specs.Translation.{Gives}
use Rattle.bt_connection.specs.declared.translation.Side.TheVariants.{Engine}
use Rattle.bt_connection.proofs.Giving.{piece_filled, filled_up}
use Rattle.bt_connection.proofs.padding.Padding.outgoing.Goals as goal

pub returns-in-Some-answered : goal.returns-in-Some-answered
returns-in-Some-answered c =
    let ask : Ask = c.in-Some.ask in
    let frame : List ℕ = c.args.frame.now in
    let i : ℕ = c.in-Some-answered.index in
    let is : IsPieceOf frame ask = subst (λ (xs : List ℕ). IsPieceOf xs ask) c.as_slice.ensures.value c.in-Some.ensures.some in
    let given = piece_filled c.streams_have_one_reading.ensures c.args.blocks.now c.args.self.now frame ask is.block i
    is.sent is.whole c.in-Some-answered.ensures.first c.in-Some-answered.ensures.short in
    let memory : c.remove.new.self.items ≡ remove c.args.self.now i
    = c.remove.ensures.items ∙ ap (λ (xs : Memory). remove xs i) c.self.view_is in
    let all : List ℕ = frame ++ replicate (16397 - length frame) 0 in
    let whole = filled_up ask.piece ask.begin is.block frame is.sent.spelled c.as_slice.ensures.few in
    subst (λ (m : Memory). Gives c.args.blocks.now Engine c.args.self.now frame c.put.new.self m) (sym memory)
    (subst (λ (xs : List ℕ). Gives c.args.blocks.now Engine c.args.self.now frame xs (remove c.args.self.now i))
    (sym whole ∙ ap (λ (b : List ℕ). b ++ drop (0 + length b) all) (sym c.to_be_bytes.ensures)
    ∙ ap (λ (xs : List ℕ). c.to_be_bytes.result ++ drop (0 + length c.to_be_bytes.result) xs) (sym c.fill.ensures) ∙ sym c.put.ensures) given)
