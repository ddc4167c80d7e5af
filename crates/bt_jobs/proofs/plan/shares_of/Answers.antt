use Rattle.std.proofs.Common.{◌+◌, ◌<◌, [], map, take, take_all, sym, subst, arith}
use Rattle.std.specs.List.{AllZip}
use Rattle.bt_meta.specs.Files.{file_of}
use Rattle.bt_parts.specs.declared.cut.Cut.{Cut}
use Rattle.bt_jobs.specs.Plan.{IsCutOf, IsShareOf, total_of}
use Rattle.bt_jobs.proofs.Plans.{cut_inside, shared_more}
use Rattle.bt_jobs.proofs.plan.shares_of.Goals as goal

pub loop-cut-init : goal.loop-cut-init
loop-cut-init c = subst (AllZip (IsShareOf (total_of (map file_of c.args.files.now)) c.args.part) []) (sym c.new-shares.ensures.items) tt

pub share_of-share-requires-clause-inside : goal.share_of-share-requires-clause-inside
share_of-share-requires-clause-inside c =
    let files = map file_of c.args.files.now in
    let plan = c.in_ok-plan.plan in
    let are = subst (AllZip (IsCutOf c.args.size.layer files) files) (sym c.deref-cut-items.ensures.value) c.in_ok-plan.ensures.cuts in
    subst (λ (cut : Cut). cut.place < plan.total) (sym c.cut-item.is)
    (cut_inside c.args.size.layer plan.total files c.deref-cut-items.result.now c.loop-cut.cut-index c.cut-item.result c.in_ok-plan.ensures.total are c.loop-cut-test.true)

pub loop-cut-preserved : goal.loop-cut-preserved
loop-cut-preserved c =
    let total = total_of (map file_of c.args.files.now) in
    let items = c.deref-cut-items.result.now in
    let share = c.share_of-share.result in
    let of = subst (λ t. IsShareOf t c.args.part c.cut-item.result share) c.in_ok-plan.ensures.total
    (record { from = c.share_of-share.ensures.from; to = c.share_of-share.ensures.to; first = c.share_of-share.ensures.first }) in
    subst (AllZip (IsShareOf total c.args.part) (take (c.loop-cut.cut-index + 1) items)) (sym c.in_ok-push.ensures.items)
    (shared_more total c.args.part items c.loop-cut.cut-index c.cut-item.result c.loop-cut.shares.items share c.loop-cut-test.true c.loop-cut.invariant
    (subst (λ cut. IsShareOf total c.args.part cut share) c.cut-item.is of))

pub returns : goal.returns
returns c =
    let files = map file_of c.args.files.now in
    let items = c.deref-cut-items.result.now in
    record {
      cuts = items;
      are_cut = subst (AllZip (IsCutOf c.args.size.layer files) files) (sym c.deref-cut-items.ensures.value) c.in_ok-plan.ensures.cuts;
      each = subst (λ cuts. AllZip (IsShareOf (total_of files) c.args.part) cuts c.loop-cut.shares.items)
          (take_all c.loop-cut.cut-index items (omega (arith, c.loop-cut-test.false))) c.loop-cut.invariant;
    }
