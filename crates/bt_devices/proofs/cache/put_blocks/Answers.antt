use Rattle.std.proofs.Common.{◌≡◌, ℕ, ◌*◌, ◌≤◌, List, [], Bor, length, get_or, map, ap, sym, ◌∙◌, arith, below_more}
use Rattle.std.proofs.lemmas.List.{length-map, get_or-map}
use Rattle.bt_devices.proofs.Runs.{blocks_are, block_kept, block_written}
use Rattle.bt_devices.proofs.cache.put_blocks.Goals as goal

pub loop-j-preserved : goal.loop-j-preserved
loop-j-preserved c =
    let j = c.loop-j.j in
    let blocks = c.args.blocks.now in
    let none : Bor (List ℕ) = record { ref_ptr = (0, 0); now = [] } in
    let eight : length blocks ≡ 8 = c.told-blocks in
    let before : j * 16384 ≤ length c.loop-j.run = omega (arith, c.loop-j.auto.run, c.requires.room, c.loop-j-test.true) in
    let same : c.copy_from_slice.new.self ≡ get_or (map (λ (block : Bor (List ℕ)). block.now) blocks) j [] =
    c.copy_from_slice.ensures.after ∙ sym (get_or-map (λ (block : Bor (List ℕ)). block.now) blocks j none [] (omega arith)) in
    let size : length c.copy_from_slice.new.self ≡ 16384 = ap (λ (block : List ℕ). length block) c.copy_from_slice.ensures.after ∙ c.requires.whole j none (omega arith) in
    below_more _ _
    (λ t below. block_kept (j * 16384) _ c.loop-j.run c.copy_from_slice.new.self t (omega arith) before ∙ c.loop-j.invariant t below)
    (block_written (j * 16384) _ j c.loop-j.run c.copy_from_slice.new.self (omega arith) before size ∙ same)

pub returns : goal.returns
returns c =
    let blocks = c.args.blocks.now in
    let eight : length blocks ≡ 8 = c.told-blocks in
    blocks_are c.loop-j.run (map (λ (block : Bor (List ℕ)). block.now) blocks) (length-map blocks (λ (block : Bor (List ℕ)). block.now) ∙ eight)
    (λ j below. c.loop-j.invariant j (omega (arith, below, c.loop-j-test.false)))
