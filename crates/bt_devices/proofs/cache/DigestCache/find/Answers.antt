use Rattle.std.proofs.Common.{◌≡◌, true, refl, ap, sym, ◌∙◌, subst, rules}
use Rattle.std.specs.Prelude.{Contains}
use Rattle.sha2.specs.Sha256.{sha256}
use Rattle.bt_tree.specs.Blocks.{block_at}
use Rattle.bt_devices.specs.Cache.{blocks_of, known_blocks}
use Rattle.bt_devices.proofs.Runs.{contains_block, contained_block}
use Rattle.bt_devices.proofs.cache.DigestCache.find.Goals as goal

pub returns-in-Some-clause-found : goal.returns-in-Some-clause-found
returns-in-Some-clause-found c =
    let run = c.self.inside.run.items in
    let full : c.self.inside.is_full ≡ true = search rules in
    let blocks : blocks_of run ≡ c.args.self.now = sym (ap (λ is_full. known_blocks is_full run) full) ∙ c.self.view_is in
    let here : block_at run c.in-Some.place ≡ c.args.block.now = ap (λ bytes. block_at bytes c.in-Some.place) (sym c.as_slice.ensures.value) ∙ c.in-Some.ensures.1 in
    (λ _. subst (λ known. Contains known c.args.block.now) blocks (contains_block run c.args.block.now c.in-Some.place c.in-Some.ensures.0 here), λ _. refl)

pub returns-in-Some-clause-digest : goal.returns-in-Some-clause-digest
returns-in-Some-clause-digest c =
    let run = c.self.inside.run.items in
    let full : c.self.inside.is_full ≡ true = search rules in
    let here : block_at run c.in-Some.place ≡ c.args.block.now = ap (λ bytes. block_at bytes c.in-Some.place) (sym c.as_slice.ensures.value) ∙ c.in-Some.ensures.1 in
    c.self.invariant.each full c.in-Some.place c.in-Some.ensures.0 ∙ ap sha256 here

pub returns-in-None-clause-found : goal.returns-in-None-clause-found
returns-in-None-clause-found c =
    let run = c.self.inside.run.items in
    let full : c.self.inside.is_full ≡ true = search rules in
    let blocks : blocks_of run ≡ c.args.self.now = sym (ap (λ is_full. known_blocks is_full run) full) ∙ c.self.view_is in (
      λ is_some. absurd (cc),
      λ has.
          let found = contained_block run c.args.block.now (subst (λ known. Contains known c.args.block.now) (sym blocks) has) in
          absurd (c.in-None.ensures found.0 found.1 (ap (λ bytes. block_at bytes found.0) c.as_slice.ensures.value ∙ found.2)),
    )
