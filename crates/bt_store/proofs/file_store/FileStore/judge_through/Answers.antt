use Rattle.std.proofs.Common.{subst, arith}
use Rattle.std.specs.List.{range_with_len}
use Rattle.bt_store.specs.BlockReads.{IsJudged}
use Rattle.bt_store.proofs.Reviews.{reviewed_start, reviewed_past, reviewed_batch}
use Rattle.bt_store.proofs.file_store.FileStore.judge_through.Goals as goal

pub loop-at-init : goal.loop-at-init
loop-at-init g c =
    let d = g.D.Disk in record {
      reviewed = rw c.new-tally.ensures (reviewed_start d.conduct g.H.NodeHash.digest c.args.tree.now c.args.review c.args.from c.args.self.now);
      high = c.requires.upwards;
    }

pub plus-tally-requires : goal.plus-tally-requires
plus-tally-requires g c =
    omega (arith, c.loop-at.invariant.reviewed.few, c.judge_batch-batch.ensures.sum, c.chosen_batch-count.ensures.inside, c.loop-at.invariant.reviewed.low)

pub loop-at-preserved-then-count-eq0 : goal.loop-at-preserved-then-count-eq0
loop-at-preserved-then-count-eq0 g c =
    let d = g.D.Disk in
    let before = c.loop-at.invariant in
    record {
      reviewed = reviewed_past d.conduct g.H.NodeHash.digest c.args.tree.now c.args.review c.args.from c.loop-at.at c.args.self.now c.loop-at.self
          c.loop-at.tally before.reviewed (c.chosen_batch-count.ensures.none c.if-count-eq0.true);
      high = omega arith;
    }

pub loop-at-preserved : goal.loop-at-preserved
loop-at-preserved g c =
    let d = g.D.Disk in
    let dig = g.H.NodeHash.digest in
    let k = c.args.tree.now in
    let before = c.loop-at.invariant in
    let n = c.chosen_batch-count.result in
    let total = c.plus-tally.ensures in
    let run = c.judge_batch-batch.ensures in
    let judged = subst (λ f. IsJudged d.conduct dig k f (range_with_len c.loop-at.at n) c.loop-at.self run.judged.0 c.judge_batch-batch.new.self) c.forgives.ensures run.judged.1 in
    record {
      reviewed = reviewed_batch d.conduct dig k c.args.review c.args.from c.loop-at.at n c.args.self.now c.loop-at.self c.judge_batch-batch.new.self
          c.loop-at.tally c.judge_batch-batch.result c.plus-tally.result run.judged.0 before.reviewed c.chosen_batch-count.ensures.chosen
          judged run.judged.2 run.sum total.right total.wrong total.faults;
      high = c.chosen_batch-count.ensures.inside;
    }
