use Rattle.bt_meta.proofs.EncodeValue.{before_none, list_ascends, list_finds}
use Rattle.bt_meta.proofs.encode.layer_entries.Goals as goal

pub returns : goal.returns
returns c =
    let all = rw (c.in-None.ensures.steps.0, before_none) at c.loop-root.invariant in
    rw all (record { ascending = list_ascends _ c.into_iter-root-iterator.ensures.into_iter_gives.5; first = list_finds c.args.layers.now.entries })
