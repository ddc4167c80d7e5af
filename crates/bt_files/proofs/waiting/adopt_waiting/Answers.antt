use Rattle.std.proofs.Common.{◌+◌, length, sym, ap, subst, ◌∙◌}
use Rattle.std.proofs.lemmas.List.{length-map}
use Rattle.bt_meta.specs.Files.{file_of}
use Rattle.bt_meta.specs.Torrent.{Metainfo}
use Rattle.bt_machine.specs.declared.event.Event.TheVariants.{Adopt}
use Rattle.bt_engine.specs.Leads.{LeadsTo, none, one, both}
use Rattle.bt_files.proofs.Waits.{IsSeeing, seeing_none, seeing_passed, seeing_taken, seeing_torrent}
use Rattle.bt_files.proofs.waiting.adopt_waiting.Goals.{then-may_have_waiting_piece+in_ok-adopt_file, else-may_have_waiting_piece}
use Rattle.bt_files.proofs.waiting.adopt_waiting.Goals as goal

pub loop-file-init : goal.loop-file-init
loop-file-init g c = (
  seeing_none g.D.Disk.conduct g.H.NodeHash.digest c.args.engine.now c.keeps_laws.ensures.shaped
      c.requires,
  sym (length-map c.files.result.now file_of) ∙ ap length c.files.ensures.said
      ∙ ap (λ (torrent : Metainfo). length torrent.files) c.torrent.ensures ∙ sym c.keeps_laws.ensures.shaped.count,
  none c.args.engine.now,
)

pub returns-in_err-adopt_file-clause-run : goal.returns-in_err-adopt_file-clause-run
returns-in_err-adopt_file-clause-run g c =
    both c.args.engine.now c.loop-file.engine c.adopt_file.new.engine c.loop-file.invariant.2
    (one c.loop-file.engine c.adopt_file.new.engine (Adopt c.loop-file.file) c.in_err-adopt_file.ensures.step.0 (λ e. absurd cc) c.in_err-adopt_file.ensures.step.1)

pub returns-in_err-adopt_file-clause-torrent : goal.returns-in_err-adopt_file-clause-torrent
returns-in_err-adopt_file-clause-torrent g c =
    seeing_torrent g.D.Disk.conduct g.H.NodeHash.digest c.args.engine.now c.loop-file.engine
    c.adopt_file.new.engine c.loop-file.file c.in_err-adopt_file.ensures.step.0 c.loop-file.invariant.0
    c.in_err-adopt_file.ensures.step.1

pub loop-file-preserved : goal.loop-file-preserved
loop-file-preserved g c =
    let seeing = IsSeeing g.D.Disk.conduct g.H.NodeHash.digest c.args.engine.now
    (c.loop-file.file + 1) in
    let leads = LeadsTo g.D.Disk.conduct g.H.NodeHash.digest c.args.engine.now in
    elim c.if-may_have_waiting_piece.branch [
      | then-may_have_waiting_piece+in_ok-adopt_file w ↦ (
        subst seeing (sym w.engine-is)
            (seeing_taken g.D.Disk.conduct g.H.NodeHash.digest c.args.engine.now c.loop-file.engine
            w.adopt_file.new.engine c.loop-file.file w.in_ok-adopt_file.ensures.step.0 c.loop-file.invariant.0
            (c.may_have_waiting_piece.ensures.0 w.if-may_have_waiting_piece.true)
            w.in_ok-adopt_file.ensures.step.1 w.in_ok-adopt_file.ensures.step.2 w.in_ok-adopt_file.ensures.no_peer),
        c.loop-file.invariant.1,
        subst leads (sym w.engine-is)
            (both c.args.engine.now c.loop-file.engine w.adopt_file.new.engine c.loop-file.invariant.2
            (one c.loop-file.engine w.adopt_file.new.engine (Adopt c.loop-file.file) w.in_ok-adopt_file.ensures.step.0 (λ e. absurd cc) w.in_ok-adopt_file.ensures.step.1)),
      )
      | else-may_have_waiting_piece w ↦ (
        subst seeing (sym w.engine-is)
            (seeing_passed g.D.Disk.conduct g.H.NodeHash.digest c.args.engine.now c.loop-file.engine
            c.loop-file.file c.loop-file.invariant.0
            (λ waits. cc (c.may_have_waiting_piece.ensures.1 waits, w.if-may_have_waiting_piece.false))),
        c.loop-file.invariant.1,
        subst leads (sym w.engine-is) c.loop-file.invariant.2,
      )
    ]
