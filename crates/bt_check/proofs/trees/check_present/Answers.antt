use Rattle.std.proofs.Common.{[], refl, sym, ◌∙◌, subst}
use Rattle.bt_meta.specs.Files.{file_of}
use Rattle.bt_check.specs.Check.{layer_before, leaves_before}
use Rattle.bt_check.specs.EntryCheck.{IsEntryCheck}
use Rattle.bt_check.proofs.EntryChecks.{unshaped, is_known, checked_at}
use Rattle.bt_check.proofs.KeptTrees.{present_checked, empty_kept, tree_kept, others_kept, put_at}
use Rattle.bt_check.proofs.trees.check_present.Goals as goal

pub returns-in_default : goal.returns-in_default
returns-in_default g c =
    let file = file_of c.args.entry.now in
    let layer = c.args.size.layer in
    let empty = unshaped c.args.entry.now.length c.requires.checkable.short c.in_default.ensures.lawful.1 in
    let check = c.check_empty.result in
    let found = c.check_empty.ensures in
    present_checked layer file c.args.kept.now c.args.kept.now c.args.disk check.disk
    (λ before has. (
      record { len = found.0; reads = [] },
      subst (λ n. IsEntryCheck g.D.Disk.conduct n (layer_before layer before file) (leaves_before layer before file) c.args.disk
          (record { len = found.0; reads = [] }) check.disk check.finding)
          (sym empty) (found.1 (layer_before layer before file) (leaves_before layer before file)),
      empty_kept layer file c.args.kept.now c.args.kept.now before (record { len = found.0; reads = [] }) empty,
    )) (λ other apart. refl)

pub check_tree-requires : goal.check_tree-requires
check_tree-requires g c =
    is_known (c.in_ok-tree.ensures.tree c.requires.tree.0 c.requires.tree.1 (c.in-Some.ensures.lawful.0 refl).some)

pub returns : goal.returns
returns g c =
    let file = file_of c.args.entry.now in
    let layer = c.args.size.layer in
    let some = (c.in-Some.ensures.lawful.0 refl).some in
    present_checked layer file c.args.kept.now c.insert.new.self c.args.disk c.in_ok-check.check.disk
    (λ before has.
    let made = checked_at {check = c.in_ok-check.check} c.in_ok-check.ensures.answered (c.in_ok-tree.ensures.tree before has some) in (
      made.0,
      made.1,
      tree_kept layer file c.args.kept.now c.insert.new.self before made.0 _
          (put_at file c.key_of.result c.take_tree.new.kept c.insert.new.self _ c.key_of.ensures c.in_ok-insert.ensures.updates) made.2,
    ))
    (λ other apart. others_kept file c.key_of.result c.take_tree.new.kept c.insert.new.self _ c.key_of.ensures c.in_ok-insert.ensures.updates other apart ∙ c.in_ok-tree.ensures.kept other apart)
