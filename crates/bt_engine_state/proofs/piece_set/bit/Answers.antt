use Rattle.bt_engine_state.proofs.Bits.{place_bit}
use Rattle.bt_engine_state.proofs.piece_set.bit.Goals as goal

pub returns : goal.returns
returns c = place_bit c.args.bytes.now c.args.place c.requires
