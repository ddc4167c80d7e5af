use Rattle.std.proofs.Common.{◌≡◌, ◌^◌, [], ◌++◌, length, take, drop, replicate, sym, ap, ◌∙◌, subst}
use Rattle.std.proofs.lemmas.List.{length-replicate}
use Rattle.std.proofs.lemmas.Result.{IfOk-weaker, IfErr-weaker}
use Rattle.bt_tree.specs.Tree.{padding_digest}
use Rattle.bt_store.specs.Adoption.{StopsAdopting}
use Rattle.bt_store.specs.GroupsSteps.{IsGroupRead}
use Rattle.bt_store.proofs.Adoptions.{stops_before, stops_after, adopts_by, written_whole}
use Rattle.bt_store.proofs.file_store.FileStore.adopt_unknown.Goals as goal

pub returns-in_default-clause-stop : goal.returns-in_default-clause-stop
returns-in_default-clause-stop g c =
    let d = g.D.Disk in
    let group = c.group_below-group.result in (
      [],
      stops_before d.conduct g.H.NodeHash.digest c.args.tree.now c.args.from c.args.anchor group.first group.count c.args.self.now c.args.self.now
          c.group_below-group.ensures.group,
    )

pub read_group-reads-requires-clause-padded : goal.read_group-reads-requires-clause-padded
read_group-reads-requires-clause-padded g c =
    let leaf = padding_digest g.H.NodeHash.digest 0 in
    let items : c.as_mut_slice.result.now ≡ replicate (2 ^ c.args.anchor) leaf = c.as_mut_slice.ensures.value ∙ c.in-Ok.ensures in
    let width : length c.as_mut_slice.result.now ≡ 2 ^ c.args.anchor = ap length items ∙ length-replicate (2 ^ c.args.anchor) leaf in
    items ∙ ap (λ n. replicate n leaf) (sym width)

pub returns-clause-stop : goal.returns-clause-stop
returns-clause-stop g c =
    let d = g.D.Disk in
    let dig = g.H.NodeHash.digest in
    let k = c.args.tree.now in
    let group = c.group_below-group.result in
    let leaf = padding_digest dig 0 in
    let old = c.args.self.now in
    let new = c.read_group-reads.new.self in
    let tally = c.read_group-reads.result in
    let digests = c.read_group-reads.new.digests in
    let reads = c.read_group-reads.ensures.read.0 in
    let items : c.as_mut_slice.result.now ≡ replicate (2 ^ c.args.anchor) leaf = c.as_mut_slice.ensures.value ∙ c.in-Ok.ensures in
    let width : length c.as_mut_slice.result.now ≡ 2 ^ c.args.anchor = ap length items ∙ length-replicate (2 ^ c.args.anchor) leaf in
    let read : IsGroupRead d.conduct dig old.file_length group.first group.count (2 ^ c.args.anchor) old.disk reads tally new.disk digests =
    subst (λ w. IsGroupRead d.conduct dig old.file_length group.first group.count w old.disk reads tally new.disk digests) width c.read_group-reads.ensures.read.1 in
    let stops = stops_after d.conduct dig k c.args.from c.args.anchor group.first group.count old new reads tally digests
    c.group_below-group.ensures.group read c.read_group-reads.ensures.others in
    IfErr-weaker c.claim_group.result _ _ (λ _ same. (reads, subst (λ s. StopsAdopting d.conduct dig k c.args.from old reads s) (sym same) stops))
    c.claim_group.ensures.states

pub returns-clause-ok : goal.returns-clause-ok
returns-clause-ok g c =
    let d = g.D.Disk in
    let dig = g.H.NodeHash.digest in
    let k = c.args.tree.now in
    let group = c.group_below-group.result in
    let leaf = padding_digest dig 0 in
    let old = c.args.self.now in
    let new = c.read_group-reads.new.self in
    let tally = c.read_group-reads.result in
    let digests = c.read_group-reads.new.digests in
    let reads = c.read_group-reads.ensures.read.0 in
    let items : c.as_mut_slice.result.now ≡ replicate (2 ^ c.args.anchor) leaf = c.as_mut_slice.ensures.value ∙ c.in-Ok.ensures in
    let width : length c.as_mut_slice.result.now ≡ 2 ^ c.args.anchor = ap length items ∙ length-replicate (2 ^ c.args.anchor) leaf in
    let whole : take c.in-Ok.leaves.len (digests ++ drop (length digests) c.in-Ok.leaves.items) ≡ digests =
    written_whole c.in-Ok.leaves.len digests c.in-Ok.leaves.items (c.read_group-reads.auto.digests ∙ c.as_mut_slice.ensures.len) in
    let written = take c.in-Ok.leaves.len (digests ++ drop (length digests) c.in-Ok.leaves.items) in
    let read : IsGroupRead d.conduct dig old.file_length group.first group.count (2 ^ c.args.anchor) old.disk reads tally new.disk written =
    subst (λ l. IsGroupRead d.conduct dig old.file_length group.first group.count (2 ^ c.args.anchor) old.disk reads tally new.disk l) (sym whole)
    (subst (λ w. IsGroupRead d.conduct dig old.file_length group.first group.count w old.disk reads tally new.disk digests) width c.read_group-reads.ensures.read.1) in
    IfOk-weaker c.claim_group.result _ _ (λ adopted adopts. (
      reads,
      adopts_by d.conduct dig k c.args.from c.args.anchor group.first group.count old new reads tally written c.claim_group.new.self adopted c.claim_group.new.tree
          c.group_below-group.ensures.group read c.read_group-reads.ensures.others c.claim_group.ensures.others adopts,
    )) c.claim_group.ensures.ok
