use Rattle.std.proofs.Common.{map, sym, subst, ◌∙◌, arith}
use Rattle.bt_meta.specs.Files.{file_of}
use Rattle.bt_files.proofs.Devices.{opened_more}
use Rattle.bt_files.proofs.Faults.{passed_on}
use Rattle.bt_files.proofs.OwnFiles.{apart_more, known_more}
use Rattle.bt_files.proofs.Refusals.{knows_before, knows_more, knows_opened, of_known_file, of_path, still_unused}
use Rattle.bt_files.specs.OpenFolder.{IsOpeningFault, IsUnused, KnowsOpened}
use Rattle.bt_files.specs.OwnFiles.{AreKnown}
use Rattle.bt_folder.specs.declared.known_files.KnownFiles.{KnownFiles}
use Rattle.bt_files.proofs.data_files.push_devices.Goals as goal

pub loop-entry-preserved : goal.loop-entry-preserved
loop-entry-preserved g c = record {
  opened =
      opened_more c.args.context.usage c.args.dir.now c.args.entries.now c.loop-entry.entry-index c.entry-item.result c.loop-entry.files.disks.items
      c.push.new.self.disks.items c.loop-entry.files.filled.items c.push.new.self.filled.items _ c.loop-entry.pool.made c.open_entry.new.pool.made
      c.in_ok-file.file.disk c.loop-entry-test.true c.entry-item.is c.loop-entry.invariant.opened c.in_ok-file.ensures.opened
      c.in_ok-push.ensures.disks c.in_ok-push.ensures.filled c.in_ok-file.ensures.empty;
  first = λ none. absurd (omega arith);
  known = λ writes some. knows_more c.go_to.new.self.files c.add.new.self.files _ c.loop-entry.entry-index
      (knows_before c.args.context.usage c.loop-entry.folder c.go_to.new.self c.loop-entry.entry-index c.go_to.ensures.files
      c.loop-entry.invariant.first c.loop-entry.invariant.known writes)
      (c.in_ok-add.ensures.added writes);
  unread = λ only_read. subst IsUnused (sym (c.in_ok-add.ensures.kept only_read))
      (still_unused c.loop-entry.folder c.go_to.new.self c.go_to.ensures.files (c.loop-entry.invariant.unread only_read));
  told = λ writes. known_more c.go_to.new.self.files c.add.new.self.files _ c.loop-entry.files.disks.items c.push.new.self.disks.items c.in_ok-file.file.disk
      (c.in_ok-add.ensures.added writes) c.in_ok-file.ensures.identity c.in_ok-push.ensures.disks
      (subst (λ (them : KnownFiles). AreKnown them c.loop-entry.files.disks.items) (sym c.go_to.ensures.files) (c.loop-entry.invariant.told writes));
  apart = λ writes. apart_more c.go_to.new.self.files _ c.loop-entry.files.disks.items c.push.new.self.disks.items c.in_ok-file.file.disk
      (c.in_ok-add.ensures.further writes) c.in_ok-file.ensures.identity c.in_ok-push.ensures.disks
      (subst (λ (them : KnownFiles). AreKnown them c.loop-entry.files.disks.items) (sym c.go_to.ensures.files) (c.loop-entry.invariant.told writes))
      (c.loop-entry.invariant.apart writes);
}

pub returns-in_err-add-clause-fault : goal.returns-in_err-add-clause-fault
returns-in_err-add-clause-fault g c =
    passed_on c.from_residual-in_err-add.result c.in_err-add.field-0.0 (IsOpeningFault c.args.context.usage (map file_of c.args.entries.now))
    c.from_residual-in_err-add.ensures.1
    (of_known_file c.args.context.usage c.loop-entry.folder c.go_to.new.self c.args.entries.now c.loop-entry.entry-index
    c.entry-item.result _ c.in_err-add.field-0.0 c.loop-entry-test.true c.entry-item.is c.go_to.ensures.files
    c.loop-entry.invariant.first c.loop-entry.invariant.known c.in_err-add.ensures.fault)

pub returns-in_err-look_at_paths-clause-fault : goal.returns-in_err-look_at_paths-clause-fault
returns-in_err-look_at_paths-clause-fault g c =
    passed_on c.from_residual-in_err-look_at_paths.result c.in_err-look_at_paths.field-0.0
    (IsOpeningFault c.args.context.usage (map file_of c.args.entries.now)) c.from_residual-in_err-look_at_paths.ensures.1
    (of_path c.args.context.usage (map file_of c.args.entries.now) c.in_err-look_at_paths.field-0.0 c.in_err-look_at_paths.ensures.fault)

pub returns-clause-known : goal.returns-clause-known
returns-clause-known g c =
    subst (KnowsOpened c.args.context.usage (map file_of c.args.entries.now)) (sym (c.into_files.ensures ∙ c.end.ensures.files))
    (knows_opened c.args.context.usage c.loop-entry.folder c.args.entries.now c.loop-entry.entry-index
    (omega (arith, c.loop-entry-test.false, c.loop-entry.auto.entry-index-end)) c.loop-entry.invariant.first c.loop-entry.invariant.known
    c.loop-entry.invariant.unread)

pub returns-clause-told : goal.returns-clause-told
returns-clause-told g c = λ writes.
    subst (λ (them : KnownFiles). AreKnown them c.loop-entry.files.disks.items) (sym (c.into_files.ensures ∙ c.end.ensures.files))
    (c.loop-entry.invariant.told writes)

pub returns-clause-apart : goal.returns-clause-apart
returns-clause-apart g c = c.loop-entry.invariant.apart
