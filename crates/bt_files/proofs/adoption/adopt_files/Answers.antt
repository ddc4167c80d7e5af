use Rattle.std.proofs.Common.{◌+◌, ◌<◌, length, sym, ap, subst, ◌∙◌, arith}
use Rattle.std.proofs.lemmas.List.{length-map}
use Rattle.bt_meta.specs.Files.{file_of}
use Rattle.bt_meta.specs.Torrent.{Metainfo}
use Rattle.bt_machine.specs.declared.event.Event.TheVariants.{Adopt}
use Rattle.bt_engine.specs.Leads.{LeadsTo, none, one, both}
use Rattle.bt_files.proofs.Adoptions.{IsTaking, keeps_torrent, taken_all, taking_more, taking_none, taking_passed}
use Rattle.bt_files.proofs.adoption.adopt_files.Goals.{then-is_filled+in_ok-adopt_file, else-is_filled}
use Rattle.bt_files.proofs.adoption.adopt_files.Goals as goal

pub returns-in_err-adopt_file-clause-torrent : goal.returns-in_err-adopt_file-clause-torrent
returns-in_err-adopt_file-clause-torrent g c =
    keeps_torrent g.D.Disk.conduct g.H.NodeHash.digest c.args.engine.now c.loop-file.engine c.adopt_file.new.engine
    c.args.filled.now c.loop-file.file c.in_err-adopt_file.ensures.step.0 c.loop-file.invariant.0 c.in_err-adopt_file.ensures.step.1

pub returns-in_err-adopt_file-clause-run : goal.returns-in_err-adopt_file-clause-run
returns-in_err-adopt_file-clause-run g c =
    both c.args.engine.now c.loop-file.engine c.adopt_file.new.engine c.loop-file.invariant.3
    (one c.loop-file.engine c.adopt_file.new.engine (Adopt c.loop-file.file) c.in_err-adopt_file.ensures.step.0 (λ e. absurd cc) c.in_err-adopt_file.ensures.step.1)

pub loop-file-preserved : goal.loop-file-preserved
loop-file-preserved g c =
    let taking = IsTaking g.D.Disk.conduct g.H.NodeHash.digest c.args.engine.now c.args.filled.now
    (c.loop-file.file + 1) in
    let leads = LeadsTo g.D.Disk.conduct g.H.NodeHash.digest c.args.engine.now in
    let inside : c.loop-file.file < length c.args.filled.now = (let below = c.loop-file-test.true in let all = c.loop-file.invariant.2 in omega (arith, below, all)) in
    elim c.if-is_filled.branch [
      | then-is_filled+in_ok-adopt_file w ↦ (
        subst taking (sym w.engine-is)
            (taking_more g.D.Disk.conduct g.H.NodeHash.digest c.args.engine.now c.loop-file.engine
            w.adopt_file.new.engine c.args.filled.now c.loop-file.file w.in_ok-adopt_file.ensures.step.0 c.loop-file.invariant.0 inside
            (c.is_filled.ensures.0 w.if-is_filled.true)
            w.in_ok-adopt_file.ensures.step.1 w.in_ok-adopt_file.ensures.step.2 w.in_ok-adopt_file.ensures.no_peer),
        c.loop-file.invariant.1,
        c.loop-file.invariant.2,
        subst leads (sym w.engine-is)
            (both c.args.engine.now c.loop-file.engine w.adopt_file.new.engine c.loop-file.invariant.3
            (one c.loop-file.engine w.adopt_file.new.engine (Adopt c.loop-file.file) w.in_ok-adopt_file.ensures.step.0 (λ e. absurd cc) w.in_ok-adopt_file.ensures.step.1)),
      )
      | else-is_filled w ↦ (
        subst taking (sym w.engine-is)
            (taking_passed g.D.Disk.conduct g.H.NodeHash.digest c.args.engine.now c.loop-file.engine
            c.args.filled.now c.loop-file.file c.loop-file.invariant.0 inside
            (λ chosen. cc (c.is_filled.ensures.1 chosen, w.if-is_filled.false))),
        c.loop-file.invariant.1,
        c.loop-file.invariant.2,
        subst leads (sym w.engine-is) c.loop-file.invariant.3,
      )
    ]

pub loop-file-init : goal.loop-file-init
loop-file-init g c =
    let files = sym (length-map c.files.result.now file_of) ∙ ap length c.files.ensures.said
    ∙ ap (λ (torrent : Metainfo). length torrent.files) c.torrent.ensures in (
      taking_none g.D.Disk.conduct g.H.NodeHash.digest c.args.engine.now c.args.filled.now
          c.keeps_laws.ensures.shaped c.requires.no_peer,
      files ∙ sym c.keeps_laws.ensures.shaped.count,
      files ∙ sym c.requires.each,
      none c.args.engine.now,
    )

pub returns-clause-taken_in : goal.returns-clause-taken_in
returns-clause-taken_in g c =
    taken_all g.D.Disk.conduct g.H.NodeHash.digest c.args.engine.now c.loop-file.engine c.args.filled.now
    c.loop-file.file (let all = c.loop-file.invariant.2 in let done = c.loop-file-test.false in omega (arith, all, done)) c.loop-file.invariant.0
