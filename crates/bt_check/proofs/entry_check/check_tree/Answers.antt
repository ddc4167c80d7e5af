use Rattle.std.proofs.Common.{◌<◌, ◌↔◌, IsTrue, IsSomeAnd, ◌∙◌, ap, subst}
use Rattle.bt_tree.specs.Blocks.{block_count}
use Rattle.bt_check.proofs.EntryChecks.{blocks_found}
use Rattle.bt_check.proofs.DeviceBytes.{honest_finding}
use Rattle.bt_check.proofs.entry_check.check_tree.Goals as goal

pub returns-clause-answered : goal.returns-clause-answered
returns-clause-answered g c = λ known leaves holds.
    let made = c.in_ok-check.ensures known leaves holds in (
      record { len = c.length_of-length.result; reads = made.0 },
      blocks_found _ c.args.tree.now.file_length known leaves _ _ c.length_of-length.result _ _ c.length_of-length.ensures
          (subst (λ m. IsTrue c.is_longer-longer.result ↔ IsSomeAnd c.length_of-length.result (λ l. m < l))
          (c.length.ensures.value ∙ c.geometry-geometry.ensures.value) c.is_longer-longer.ensures) c.is_none-unknown.ensures _ made.0 c.in_ok-check.check made.1
          (c.blocks-2.ensures.value ∙ ap block_count c.geometry-geometry.ensures.value),
      made.2,
    )

pub returns-clause-honest : goal.returns-clause-honest
returns-clause-honest g c = λ honest known leaves holds sound.
    let found = returns-clause-answered g c known leaves holds in
    honest_finding _ c.args.tree.now.file_length known leaves _ _ found.0 _ honest found.1.calls found.1.found sound
