use Rattle.std.proofs.Common.{◌^◌, ap, arith, min}
use Rattle.std.proofs.Math.Pow.{pow_mono}
use Rattle.bt_engine_after.proofs.RunMarks.{room_size}
use Rattle.bt_engine_after.proofs.run_proofs.proof_room.Goals as goal

pub returns : goal.returns
returns c =
    omega (
      arith,
      c.in_ok-vec.ensures.len,
      c.in_ok-vec.field-0.ok.0,
      room_size c.heights_are_least.ensures c.args.anchor c.requires.above,
      c.min-height.ensures,
      ap (λ h. 2 ^ h) c.min-height.ensures,
      pow_mono {i = min c.args.anchor 9} {j = 9} (omega arith),
    )
