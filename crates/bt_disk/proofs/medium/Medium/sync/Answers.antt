use Rattle.std.proofs.Common.{◌≡◌, ◌∙◌, ◌++◌, ◌∷◌, [], ap, rules, length}
use Rattle.bt_disk.specs.declared.medium.Change.TheVariants.{Sync}
use Rattle.bt_disk.proofs.Records.{leads_sync, calls_push}
use Rattle.bt_disk.proofs.medium.Medium.sync.Goals as goal

pub invariant_of-self-2 : goal.invariant_of-self-2
invariant_of-self-2 c =
    let pushed = calls_push c.self.inside.changes.items _ Sync
    (c.push_reserved.ensures ∙ ap (λ xs. xs ++ Sync ∷ []) c.reserve.ensures.items) in
    let all : c.len.result ≡ length c.self.inside.bytes.items = search rules in
    leads_sync _ _ _ _ _ _ _ _ pushed c.clear.ensures.items all c.self.invariant
