use Rattle.std.proofs.Common.{ap, sym, refl, ◌∙◌}
use Rattle.std.specs.Int.{div_ceil}
use Rattle.bt_machine.specs.WireEvents.{wrong}
use Rattle.bt_engine_messages.proofs.Standing.{kept}
use Rattle.bt_engine_messages.proofs.message.take_bitfield.Goals as goal

pub returns-then-bytes-div_ceil-clause-takes : goal.returns-then-bytes-div_ceil-clause-takes
returns-then-bytes-div_ceil-clause-takes c = λ s i p here is counted.
    wrong (λ same. c.if-bytes-div_ceil.true (same ∙ ap (λ n. div_ceil n 8) counted ∙ sym c.div_ceil.ensures)) refl (kept s i p c.args.peer.now here is)
