use Rattle.std.proofs.Common.{◌∙◌, ◌++◌, ◌∷◌, [], ap}
use Rattle.bt_disk.specs.declared.medium.Change.TheVariants.{SetLen}
use Rattle.bt_disk.proofs.Records.{leads_set_len, calls_push}
use Rattle.bt_disk.proofs.medium.Medium.set_len.Goals as goal

pub invariant_of-self-2 : goal.invariant_of-self-2
invariant_of-self-2 c =
    let pushed = calls_push c.self.inside.changes.items _ (SetLen c.args.len)
    (c.push_reserved.ensures ∙ ap (λ xs. xs ++ SetLen c.args.len ∷ []) c.reserve.ensures.items) in
    leads_set_len _ _ _ _ _ _ _ _ _ c.args.len (c.in_ok-keep_first.ensures.ok _) pushed c.in_ok-resize.ensures.ok c.min-self-inside.ensures c.self.invariant
