use Rattle.std.proofs.Common.{◌<◌, ◌/◌, arith}
use Rattle.std.proofs.lemmas.Nat.{or_of_8}
use Rattle.std.proofs.lemmas.List.Elements.{All-set, All-get_or}
use Rattle.bt_engine_state.proofs.Bits.{bit_set}
use Rattle.bt_engine_state.proofs.piece_set.set_bit.Goals as goal

pub returns-clause-set : goal.returns-clause-set
returns-clause-set c = bit_set c.args.bytes.now c.args.place c.requires

pub returns-clause-fits : goal.returns-clause-fits
returns-clause-fits c = λ all.
    let bytes = c.args.bytes.now in
    All-set (λ byte. byte < 256) bytes (c.args.place / 8) _
    (or_of_8 _ _ (All-get_or (λ byte. byte < 256) bytes (c.args.place / 8) 0 (omega (arith, c.requires)) all) (omega arith)) all
