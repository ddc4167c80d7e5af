use Rattle.std.proofs.Common.{◌≡◌, ◌++◌, length, take, drop, ap, ◌∙◌, rules}
use Rattle.std.proofs.lemmas.List.{take_at}
use Rattle.bt_devices.specs.Cache.{blocks_of}
use Rattle.bt_devices.proofs.cache.DigestCache.fill.Goals as goal

pub invariant_of-self : goal.invariant_of-self
invariant_of-self c =
    let run = c.put_blocks.new.run in
    let size : length run ≡ 131072 = search rules in
    let back : take c.self.inside.run.len (run ++ drop (length run) c.self.inside.run.items) ≡ run = take_at _ _ _ (search rules) in
    let same : c.as_slice.result.now ≡ run = search rules in
    rw back (record { room = size; each = λ full. rw (← same) c.blocks8-self-inside.ensures })

pub returns : goal.returns
returns c =
    let run = c.put_blocks.new.run in
    let back : take c.self.inside.run.len (run ++ drop (length run) c.self.inside.run.items) ≡ run = take_at _ _ _ (search rules) in
    ap blocks_of back ∙ c.put_blocks.ensures
