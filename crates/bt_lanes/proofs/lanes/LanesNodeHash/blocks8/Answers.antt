use Rattle.std.proofs.Common.{◌*◌, drop, arith, length-drop}
use Rattle.std.proofs.lemmas.List.{length-take-le}
use Rattle.bt_lanes.proofs.lanes.LanesNodeHash.blocks8.Goals as goal

pub digest_eight-requires : goal.digest_eight-requires
digest_eight-requires c = λ j lt.
    let run = c.args.run.now in
    rw (c.run_blocks.ensures j lt) (length-take-le 16384 (drop (16384 * j) run) (omega (arith, length-drop (16384 * j) run)))
