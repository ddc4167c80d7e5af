use Rattle.std.proofs.Common.{rules, ◌∙◌, [], refl, sym}
use Rattle.bt_disk.proofs.CallLists.{has_none}
use Rattle.bt_store.proofs.Reviews.{nothing_waits}
use Rattle.bt_store.proofs.file_store.FileStore.settle.Goals as goal

pub returns-then-waiting-eq0-clause-settled : goal.returns-then-waiting-eq0-clause-settled
returns-then-waiting-eq0-clause-settled g c =
    let d = g.D.Disk in
    let old = c.args.self.now in
    let none = nothing_waits g.H.NodeHash.digest c.args.tree.now old.states c.args.from c.args.count (sym c.waiting.ensures ∙ c.if-waiting-eq0.true) in (
      [],
      record {
        device = record { in_order = sym none; calls = has_none d.conduct old.disk };
        states = refl;
        same_file = refl;
      },
      refl,
      refl,
      refl,
    )

pub returns-clause-settled : goal.returns-clause-settled
returns-clause-settled g c = search rules
