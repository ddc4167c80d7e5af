use Rattle.std.proofs.Common.{◌≡◌, arith, sym, ◌∙◌, ap}
use Rattle.bt_parts.specs.declared.run.Run.{Run}
use Rattle.bt_tree.specs.Blocks.{block_count}
use Rattle.bt_jobs.proofs.Sharing.{ends_empty, share_checked, sharing_begun, sharing_more, sharing_told, sum_is_few, told_to}
use Rattle.bt_jobs.proofs.share.check_share.Goals as goal

pub loop-run-init : goal.loop-run-init
loop-run-init g c = (
  λ known leaves holds edge. sharing_begun _ _ known leaves _ c.args.file c.args.share.from _ _ _ _ holds edge
      (omega (arith, c.requires.forward, c.requires.inside)) (c.in-Ok.ensures.file ∙ c.geometry.ensures.value) c.in-Ok.ensures.disk c.run_at-run.ensures,
  λ past. (
    ap (λ (r : Run). r.from) c.run_at-run.ensures ∙ sym (ap (λ (r : Run). r.to) c.run_at-run.ensures),
    ap (λ (r : Run). r.met) c.run_at-run.ensures,
  ),
)

pub adopt_ahead-requires-clause-geometry : goal.adopt_ahead-requires-clause-geometry
adopt_ahead-requires-clause-geometry g c =
    let is = c.loop-run.invariant.0 c.requires.ready.0 c.requires.ready.1 c.requires.ready.2 c.requires.ready.3 in
    is.learned.tree.length_is ∙ sym is.same_file

pub adopt_ahead-requires-clause-inside : goal.adopt_ahead-requires-clause-inside
adopt_ahead-requires-clause-inside g c =
    let is = c.loop-run.invariant.0 c.requires.ready.0 c.requires.ready.1 c.requires.ready.2 c.requires.ready.3 in
    omega (arith, c.loop-run-test.true, c.requires.inside, ap block_count is.same_file)

pub with_groups-requires : goal.with_groups-requires
with_groups-requires g c =
    let is = c.loop-run.invariant.0 c.requires.ready.0 c.requires.ready.1 c.requires.ready.2 c.requires.ready.3 in
    let few = sum_is_few _ _ _ _ _ _ _ _ _ _ _ _ is _ _ _ _ c.in_ok-adopted.ensures.ok.1 in
    omega (arith, few, c.geometry.ensures.sound.lawful.limit)

pub told_if_long-requires : goal.told_if_long-requires
told_if_long-requires g c =
    let is = c.loop-run.invariant.0 c.requires.ready.0 c.requires.ready.1 c.requires.ready.2 c.requires.ready.3 in
    omega (arith, is.forward, c.with_groups.ensures.from, c.with_groups.ensures.to, c.in_ok-adopted.ensures.onward)

pub loop-run-smaller : goal.loop-run-smaller
loop-run-smaller g c =
    let is = c.loop-run.invariant.0 c.requires.ready.0 c.requires.ready.1 c.requires.ready.2 c.requires.ready.3 in
    omega (
      arith,
      told_to _ _ _ _ _ c.in_ok-run.ensures.next,
      c.with_groups.ensures.to,
      c.in_ok-adopted.ensures.onward,
      c.in_ok-adopted.ensures.within,
      ap block_count is.same_file,
    )

pub loop-run-preserved : goal.loop-run-preserved
loop-run-preserved g c = (
  λ known leaves holds edge.
      sharing_told _ _ known leaves _ _ _ _ _ _ _ _
      (sharing_more _ _ known leaves _ _ _ _ _ _ _ _ (c.loop-run.invariant.0 known leaves holds edge) _ _ _ _ c.in_ok-adopted.ensures.ok.1 _ c.with_groups.ensures)
      c.args.share.to _ _ c.in_ok-run.ensures.next,
  ends_empty _ _ c.args.share.to _ _ c.in_ok-run.ensures.next,
)

pub returns-clause-checked : goal.returns-clause-checked
returns-clause-checked g c = λ known leaves holds edge.
    let end : c.loop-run.run.to ≡ c.args.share.to = omega (arith, c.loop-run-test.false, c.if-run-share.false) in
    let empty = c.loop-run.invariant.1 (omega (arith, c.loop-run-test.false)) in
    share_checked _ _ known leaves _ _ _ _ _ _ _ _ (c.loop-run.invariant.0 known leaves holds edge) c.args.share.to _ end empty.0 empty.1 c.into_disk.ensures
