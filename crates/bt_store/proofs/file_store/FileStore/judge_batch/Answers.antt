use Rattle.std.proofs.Common.{◌≡◌, ◌+◌, ◌*◌, ◌≤◌, List, length, get_or, None, refl, sym, ap, ◌∙◌, subst, arith}
use Rattle.std.specs.List.{range_with_len}
use Rattle.bt_tree.specs.Blocks.{block_at}
use Rattle.bt_store.specs.FileStore.{StoreView}
use Rattle.bt_store.specs.BlockReads.{BlockRead, IsJudged}
use Rattle.bt_store.specs.BatchesSteps.{batch_reads, found_of}
use Rattle.bt_store.specs.ReviewSteps.{IsTallyOf}
use Rattle.bt_store.proofs.Judgements.{IsWithinParts, AreFound, within_parts, blocks_of_batch, batch_judged, batch_tally}
use Rattle.bt_store.proofs.file_store.FileStore.judge_batch.Goals as goal

pub invariant_of-self : goal.invariant_of-self
invariant_of-self g c = c.judge_found.ensures.size ∙ c.self.invariant

pub returns-clause-judged : goal.returns-clause-judged
returns-clause-judged g c =
    let d = g.D.Disk in
    let dig = g.H.NodeHash.digest in
    let k = c.args.tree.now in
    let a = c.self.inside in
    let first = c.args.first in
    let count = c.args.count in
    let counts = c.read_batch-lengths.result in
    let buffer = c.read_batch-lengths.new.buffer in
    let blocks_found = c.digest_batch-blocks_found.result in
    let reads = batch_reads first counts buffer count in
    let after : StoreView g.row.D.Denot = record { file_length = a.geometry; disk = c.read_batch-lengths.new.disk; states = c.judge_found.new.states } in
    let same : a.geometry ≡ k.file_length = ap (λ s. s.file_length) c.self.view_is ∙ sym c.requires.geometry in
    let size : count * 16384 ≤ length buffer = omega (arith, c.read_batch-lengths.auto.buffer, c.requires.room) in
    let within : IsWithinParts counts buffer count = within_parts a.geometry first count counts buffer size c.read_batch-lengths.ensures.within in
    let found : AreFound dig k.file_length first counts buffer blocks_found count = λ t lt.
    c.digest_batch-blocks_found.ensures t lt ∙ ap (λ n. found_of dig n (first + t) (get_or counts t None) (block_at buffer t)) same in
    subst (λ s. (reads : List BlockRead) × IsJudged d.conduct dig k c.args.forgiving (range_with_len first count) s reads after × IsTallyOf dig k reads c.judge_found.result)
    c.self.view_is (
      reads,
      record {
        device = record { in_order = blocks_of_batch first counts buffer count; calls = c.read_batch-lengths.ensures.calls };
        states = c.judge_found.ensures.states ∙ sym (batch_judged dig k first counts buffer blocks_found c.args.forgiving a.states count within found);
        same_file = refl;
      },
      subst (IsTallyOf dig k reads) (sym c.judge_found.ensures.tally) (batch_tally dig k first counts buffer blocks_found count within found),
    )
