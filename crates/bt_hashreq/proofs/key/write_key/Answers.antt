use Rattle.std.proofs.Common.{◌≡◌, ◌+◌, [], length, refl, rules}
use Rattle.std.specs.Int.{w32, to_be_bytes}
use Rattle.bt_hashreq.proofs.KeySpelling.{one_more, all_of}
use Rattle.bt_hashreq.proofs.key.write_key.Goals as goal

pub returns : goal.returns
returns c =
    let key = c.args.key.now in
    let root : 0 + length key.root ≡ 32 = search rules in
    let first = one_more [] c.put.new.bytes [] key.root key.root 0 32 refl root c.put.ensures.front refl in
    let second = one_more _ c.put-2.new.bytes _ _ (to_be_bytes w32 key.base) 32 36 c.to_be_bytes.ensures refl c.put-2.ensures.front first in
    let third = one_more _ c.put-3.new.bytes _ _ (to_be_bytes w32 key.index) 36 40 c.to_be_bytes-2.ensures refl c.put-3.ensures.front second in
    let fourth = one_more _ c.put-4.new.bytes _ _ (to_be_bytes w32 key.length) 40 44 c.to_be_bytes-3.ensures refl c.put-4.ensures.front third in
    all_of _ _ 48 c.put-5.array_long
    (one_more _ c.put-5.new.bytes _ _ (to_be_bytes w32 key.layers) 44 48 c.to_be_bytes-4.ensures refl c.put-5.ensures.front fourth)
