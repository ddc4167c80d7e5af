use Rattle.std.proofs.Common.{◌≡◌, ◌∙◌, ◌++◌, ◌∷◌, [], ap, rules, length}
use Rattle.bt_disk.specs.Calls.{bytes_written}
use Rattle.bt_disk.specs.declared.medium.Change.TheVariants.{Write}
use Rattle.bt_disk.specs.RecordSteps.{call_of}
use Rattle.std.proofs.Common.{map}
use Rattle.bt_disk.proofs.Records.{leads_write, calls_push}
use Rattle.bt_disk.proofs.medium.Medium.write.Goals as goal

pub invariant_of-self-2 : goal.invariant_of-self-2
invariant_of-self-2 c =
    let same : c.in_ok-copy.copy.items ≡ c.args.more.now = search rules in
    let pushed = calls_push c.self.inside.changes.items _ (Write c.args.at c.in_ok-copy.copy)
    (c.push_reserved.ensures ∙ ap (λ xs. xs ++ Write c.args.at c.in_ok-copy.copy ∷ []) c.reserve.ensures.items)
    ∙ ap (λ more. map call_of c.self.inside.changes.items ++ bytes_written c.args.at more ∷ []) same in
    leads_write _ _ _ _ _ _ _ _ _ c.args.at c.args.more.now c.requires (c.in_ok-keep_first.ensures.ok _) pushed c.in_ok-put.ensures.ok
    (c.push_reserved-2.ensures ∙ ap (λ xs. xs ++ (c.args.at, length c.args.more.now) ∷ []) c.reserve-2.ensures.items) c.self.invariant
