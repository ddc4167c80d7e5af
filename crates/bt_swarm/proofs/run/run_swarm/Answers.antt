use Rattle.std.proofs.Common.{[], inl, inr}
use Rattle.bt_session.specs.Failures.{OneFailed}
use Rattle.bt_swarm.specs.Swarm.{ReadFailedOrCut}
use Rattle.bt_swarm.proofs.Ending.{on_err, on_any, if_map, if_passed, over_flushed, refused_after}
use Rattle.bt_swarm.proofs.Moving.{goes_flushed}
use Rattle.bt_swarm.proofs.Keys.{keyed_goes, keyed_none, none_held}
use Rattle.bt_swarm.proofs.Swarming.{runs_lead}
use Rattle.bt_swarm.proofs.Going.{served_more, served_on}
use Rattle.bt_swarm.proofs.run.run_swarm.Goals as goal

pub returns-in_err-serve_all : goal.returns-in_err-serve_all
returns-in_err-serve_all g c =
    let lead = runs_lead g.D.Disk.conduct g.H.NodeHash.digest _ _ _ c.serve_all.ensures.swarm.swarmed.runs in
    record {
      swarm = served_more g.D.Disk.conduct g.H.NodeHash.digest _ (OneFailed g.G.W.QueuedWriter.has_failed) _ (OneFailed g.G.W.QueuedWriter.has_failed)
          (λ h. elim h [ inl failed ↦ inl failed | inr cut ↦ inr (on_err _ c.from_residual.result _ c.from_residual.ensures.1) ]) (λ f. f) g.G.Gate.gives g.G.R.Read.remaining g.G.W.QueuedWriter.contents g.G.Gate.leads _ _ _ _ c.serve_all.ensures.swarm;
      over = on_err _ c.from_residual.result _ c.from_residual.ensures.1;
      refused = if_passed c.from_residual.result _ _ c.from_residual.ensures.1 c.in_err-serve_all.ensures.refused;
      gone = c.serve_all.ensures.gone;
      run = lead;
      stands = c.what_leads_on_stands.ensures c.args.engine.now c.serve_all.new.engine c.keeps_laws.ensures.sound lead;
      flushed = λ some. on_err _ c.from_residual.result _ c.from_residual.ensures.1;
    }

pub returns : goal.returns
returns g c =
    let goes = goes_flushed g.G.R.Read.remaining g.G.W.QueuedWriter.contents g.D.Disk.conduct g.H.NodeHash.digest (ReadFailedOrCut g.G.R.WatchedReader.has_failed g.G.Gate.is_troubled c.flush_last.result (g.G.Gate.waits c.serve_all.new.gate)) (OneFailed g.G.W.QueuedWriter.has_failed) c.serve_all.new.engine c.flush_last.new.engine [] c.flush_last.ensures.step in
    let swarm = served_on g.D.Disk.conduct g.H.NodeHash.digest (ReadFailedOrCut g.G.R.WatchedReader.has_failed g.G.Gate.is_troubled c.flush_last.result (g.G.Gate.waits c.serve_all.new.gate)) (OneFailed g.G.W.QueuedWriter.has_failed) g.G.Gate.gives g.G.R.Read.remaining g.G.W.QueuedWriter.contents g.G.Gate.leads c.args.engine.now c.serve_all.new.engine c.flush_last.new.engine
    c.args.gate.now c.serve_all.new.gate goes
    (served_more g.D.Disk.conduct g.H.NodeHash.digest _ (OneFailed g.G.W.QueuedWriter.has_failed) (ReadFailedOrCut g.G.R.WatchedReader.has_failed g.G.Gate.is_troubled c.flush_last.result (g.G.Gate.waits c.serve_all.new.gate)) (OneFailed g.G.W.QueuedWriter.has_failed)
    (λ h. elim h [ inl failed ↦ inl failed | inr cut ↦ inr (on_any c.flush_last.result _ cut) ]) (λ f. f) g.G.Gate.gives g.G.R.Read.remaining g.G.W.QueuedWriter.contents g.G.Gate.leads _ _ _ _ c.in_ok-serve_all.ensures.swarm) in
    let lead = runs_lead g.D.Disk.conduct g.H.NodeHash.digest _ _ _ swarm.swarmed.runs in
    record {
      swarm = swarm;
      over = on_any c.flush_last.result _ (over_flushed g.D.Disk.conduct g.H.NodeHash.digest c.args.until_complete c.serve_all.new.engine c.flush_last.new.engine _ _ c.flush_last.ensures.complete c.flush_last.ensures.step
          c.in_ok-serve_all.ensures.over);
      refused = if_map c.flush_last.result _ _ (λ e. refused_after g.D.Disk.conduct g.H.NodeHash.digest _ _ _ _ e c.serve_all.ensures.swarm.swarmed.runs) c.flush_last.ensures.refused;
      gone = none_held c.flush_last.new.engine.state (keyed_goes g.G.R.Read.remaining g.G.W.QueuedWriter.contents g.D.Disk.conduct g.H.NodeHash.digest (ReadFailedOrCut g.G.R.WatchedReader.has_failed g.G.Gate.is_troubled c.flush_last.result (g.G.Gate.waits c.serve_all.new.gate)) (OneFailed g.G.W.QueuedWriter.has_failed) c.serve_all.new.engine c.flush_last.new.engine [] [] goes
          (keyed_none c.serve_all.new.engine.state c.serve_all.ensures.gone));
      run = lead;
      stands = c.what_leads_on_stands.ensures c.args.engine.now c.flush_last.new.engine c.keeps_laws.ensures.sound lead;
      flushed = c.flush_last.ensures.flushed;
    }
