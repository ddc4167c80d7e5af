use Rattle.bt_meta.proofs.Base.{rules, ◌≡◌, always_returns_same}
use Rattle.bt_meta.proofs.FileLayers.{entry_cmp, found_here, not_found}
use Rattle.bt_meta.proofs.layers.find.Goals as goal

pub returns-in-Ok : goal.returns-in-Ok
returns-in-Ok c =
    found_here _ _ c.requires _ _ c.in-Ok.ensures.bound (c.in-Ok.ensures.position (entry_cmp c.args.key.now)
    (always_returns_same _ (λ a r. r ≡ entry_cmp c.args.key.now a.0.now) _ (λ a r q k. search rules)))

pub returns-in-Err : goal.returns-in-Err
returns-in-Err c =
    not_found _ _ c.requires _ (c.in-Err.ensures.position (entry_cmp c.args.key.now)
    (always_returns_same _ (λ a r. r ≡ entry_cmp c.args.key.now a.0.now) _ (λ a r q k. search rules)))
