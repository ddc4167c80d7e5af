use Rattle.std.proofs.Common.{◌≡◌, map, replicate, true, ap, ◌∙◌, arith}
use Rattle.std.proofs.lemmas.List.{take_all}
use Rattle.bt_book.proofs.BlockSets.{filled_full}
use Rattle.bt_book.proofs.block_set.BlockSet.full.Goals as goal

pub invariant_of-result : goal.invariant_of-result
invariant_of-result c =
    let blocks = c.args.blocks.now in
    let made : c.loop-count.files.items ≡ map (λ n. replicate n true) blocks = c.loop-count.invariant ∙ ap (map (λ n. replicate n true))
    (take_all c.loop-count.count-index blocks (omega arith)) in
    rw made (filled_full _ _ c.in_ok-filled_files.ensures c.requires (λ k. let fits = c.type_inv.blocks k in omega arith))
