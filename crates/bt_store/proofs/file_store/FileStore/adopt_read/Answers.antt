use Rattle.std.proofs.Common.{◌≡◌, ◌^◌, ◌++◌, length, take, drop, replicate, sym, ◌∙◌, subst}
use Rattle.std.proofs.lemmas.Result.{IfOk-weaker}
use Rattle.bt_tree.specs.Tree.{padding_digest}
use Rattle.bt_store.specs.BatchesSteps.{batch_reads}
use Rattle.bt_store.specs.GroupsSteps.{AreGroupReads, noted_found}
use Rattle.bt_store.proofs.Adoptions.{written_whole}
use Rattle.bt_store.proofs.GroupReads.{reads_at_once}
use Rattle.bt_store.proofs.file_store.FileStore.adopt_read.Goals as goal

pub returns-clause-ok : goal.returns-clause-ok
returns-clause-ok g c =
    let dig = g.H.NodeHash.digest in
    let n = c.args.self.now.file_length in
    let m = c.args.group.count in
    let first = c.args.group.first in
    let found = c.args.blocks_found.now in
    let leaf = padding_digest dig 0 in
    let digests = c.note_found-reads.new.digests in
    let items : c.as_mut_slice.result.now ≡ replicate (2 ^ c.args.anchor) leaf = c.as_mut_slice.ensures.value ∙ c.in-Ok.ensures in
    let whole : take c.in-Ok.leaves.len (digests ++ drop (length digests) c.in-Ok.leaves.items) ≡ digests =
    written_whole c.in-Ok.leaves.len digests c.in-Ok.leaves.items (c.note_found-reads.auto.digests ∙ c.as_mut_slice.ensures.len) in
    IfOk-weaker c.claim_group.result _ _ (λ adopted adopts. λ from counts buffer group are.
    adopts from (batch_reads first counts buffer m) group
    (subst (λ l. AreGroupReads dig n first m (2 ^ c.args.anchor) (batch_reads first counts buffer m) c.note_found-reads.result l) (sym (whole ∙ c.note_found-reads.ensures.digests))
    (subst (λ t. AreGroupReads dig n first m (2 ^ c.args.anchor) (batch_reads first counts buffer m) t (noted_found 0 found m c.as_mut_slice.result.now)) (sym c.note_found-reads.ensures.tally)
    (reads_at_once dig n first (2 ^ c.args.anchor) m c.as_mut_slice.result.now counts buffer found items c.requires.fits are.within are.found)))) c.claim_group.ensures.ok
