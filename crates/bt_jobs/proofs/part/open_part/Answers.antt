use Rattle.std.proofs.Common.{◌+◌, map, ap, sym, ◌∙◌, subst, refl, take_all, arith}
use Rattle.std.specs.List.{range_with_len}
use Rattle.bt_meta.specs.Files.{file_of}
use Rattle.bt_jobs.proofs.Openings.{AreOpened, opened_begun, opened_more}
use Rattle.bt_jobs.proofs.part.open_part.Goals as goal

pub loop-number-init : goal.loop-number-init
loop-number-init g c = opened_begun c.args.dir.now c.args.entries.now c.args.shares.now _ c.new-files.ensures.items

pub loop-number-preserved : goal.loop-number-preserved
loop-number-preserved g c =
    subst (AreOpened c.args.dir.now c.args.entries.now c.args.shares.now (c.loop-number.number + 1)) (sym c.in_ok-push.ensures.items)
    (opened_more c.args.dir.now c.args.entries.now c.args.shares.now c.loop-number.number c.loop-number.files.items _ c.index-entries-number.result _
    c.loop-number.invariant c.loop-number-test.true (omega (arith, c.loop-number-test.true, c.requires.each)) c.index-entries-number.is refl refl refl
    c.in_ok-disk.ensures.path)

pub returns-clause-files : goal.returns-clause-files
returns-clause-files g c =
    c.loop-number.invariant.are_files ∙ ap (map file_of) (take_all c.loop-number.number c.args.entries.now (omega (arith, c.loop-number-test.false)))

pub returns-clause-numbers : goal.returns-clause-numbers
returns-clause-numbers g c =
    c.loop-number.invariant.numbers ∙ ap (range_with_len 0) (omega (arith, c.loop-number-test.false, c.loop-number.auto.number-end))

pub returns-clause-shares : goal.returns-clause-shares
returns-clause-shares g c =
    c.loop-number.invariant.are_shares ∙ take_all c.loop-number.number c.args.shares.now (omega (arith, c.loop-number-test.false, c.requires.each))
