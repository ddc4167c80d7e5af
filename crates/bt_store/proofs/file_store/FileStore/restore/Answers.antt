use Rattle.std.proofs.Common.{◌≡◌, ◌<◌, ◌≤◌, [], true, false, Ok, refl, sym, ap, ◌∙◌, subst, rules}
use Rattle.std.specs.Prelude.{IsSome}
use Rattle.bt_tree.specs.Blocks.{block_count}
use Rattle.bt_disk.proofs.CallLists.{has_none}
use Rattle.bt_store.specs.SingleBlock.{IsLost, Restores, no_block, unread}
use Rattle.bt_store.proofs.file_store.FileStore.restore.Goals as goal
use Rattle.bt_store.proofs.file_store.FileStore.restore.Goals.{then-not-is_missing-via-then-not-is_missing, then-not-is_missing-via-else-not-is_missing+then-is_none}

pub returns-then-block-blocks : goal.returns-then-block-blocks
returns-then-block-blocks g c =
    let d = g.D.Disk in
    let past : block_count c.args.tree.now.file_length ≤ c.args.block = search rules in
    ([], record { calls = has_none d.conduct c.args.self.now.disk; answer = no_block past; same_file = refl })

pub returns-then-not-is_missing : goal.returns-then-not-is_missing
returns-then-not-is_missing g c =
    let d = g.D.Disk in
    let same : c.self.inside.geometry ≡ c.args.tree.now.file_length = ap (λ s. s.file_length) c.self.view_is ∙ sym c.requires in
    let inside : c.args.block < block_count c.args.tree.now.file_length =
    subst (λ n. c.args.block < n) (c.blocks-2.ensures.value ∙ ap (λ n. block_count n) same) c.if-block-blocks.false in
    let kept : ¬ IsLost g.H.NodeHash.digest c.args.tree.now c.args.block c.args.self.now.states = λ lost. elim c.then-not-is_missing.branch [
      | then-not-is_missing-via-then-not-is_missing w ↦ w.if-not-is_missing.ensures.no lost.missing
      | then-not-is_missing-via-else-not-is_missing+then-is_none w ↦
          let known : IsSome w.known.result = subst (λ leaf. IsSome leaf) (sym w.known.ensures) lost.known in
          let both : true ≡ false = sym known ∙ w.if-is_none.ensures in absurd cc
    ] in (
      [],
      record {
        calls = has_none d.conduct c.args.self.now.disk;
        answer = subst (λ b. Restores g.H.NodeHash.digest c.args.tree.now c.args.block c.args.self.now.states [] (Ok b) c.args.self.now.states) (sym c.is_marked.ensures.value) (unread inside kept);
        same_file = refl;
      },
    )

pub find-requires-clause-lost : goal.find-requires-clause-lost
find-requires-clause-lost g c = record {
  missing = c.if-not-is_missing.ensures.yes;
  known = subst (λ leaf. IsSome leaf) c.known.ensures c.if-is_none.ensures;
}
