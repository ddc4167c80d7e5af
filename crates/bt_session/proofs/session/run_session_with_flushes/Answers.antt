use Rattle.std.proofs.Common.{◌∙◌, ap, refl}
use Rattle.std.proofs.lemmas.Result.{err_from_is_err_and}
use Rattle.bt_machine.specs.State.{EngineView}
use Rattle.bt_session.specs.Progress.{place}
use Rattle.bt_session.proofs.session.run_session_with_flushes.Goals as goal

pub returns-in_err-key-clause-session : goal.returns-in_err-key-clause-session
returns-in_err-key-clause-session g c = let p = err_from_is_err_and c.from_residual.result c.from_residual.ensures.1 in rw p.1 tt

pub returns-in_err-key-clause-stands : goal.returns-in_err-key-clause-stands
returns-in_err-key-clause-stands g c = c.in_err-key.ensures.stands

pub returns-in_err-key-clause-gone : goal.returns-in_err-key-clause-gone
returns-in_err-key-clause-gone g c =
    ap (λ (e : EngineView g.row.D.Denot). e.state.peers) c.in_err-key.ensures.kept ∙ c.requires.no_peer

pub returns-in_err-key-clause-refused : goal.returns-in_err-key-clause-refused
returns-in_err-key-clause-refused g c =
    let p = err_from_is_err_and c.from_residual.result c.from_residual.ensures.1 in rw (p.1, p.2) c.in_err-key.ensures.step

pub returns-in_err-key-clause-kept : goal.returns-in_err-key-clause-kept
returns-in_err-key-clause-kept g c =
    let p = err_from_is_err_and c.from_residual.result c.from_residual.ensures.1 in rw p.1 c.in_err-key.ensures.kept

pub returns-in_err-key-clause-unread : goal.returns-in_err-key-clause-unread
returns-in_err-key-clause-unread g c = let p = err_from_is_err_and c.from_residual.result c.from_residual.ensures.1 in rw p.1 refl

pub returns-in_err-key-clause-unwritten : goal.returns-in_err-key-clause-unwritten
returns-in_err-key-clause-unwritten g c = let p = err_from_is_err_and c.from_residual.result c.from_residual.ensures.1 in rw p.1 refl

pub returns-clause-session : goal.returns-clause-session
returns-clause-session g c = record {
  key = _;
  engine = c.converse-end.new.engine;
  ended = c.converse-end.ensures.ends c.args.engine.now c.in_ok-key.ensures.step;
  removed = c.remove.result;
  removal = c.remove.ensures.step;
}

pub returns-clause-stands : goal.returns-clause-stands
returns-clause-stands g c =
    c.sessions_stand.ensures c.args.until_complete c.args.flushing c.args.turns
    (place c.args.engine.now (g.R.Read.remaining c.args.reader.now) (g.W.Write.contents c.args.writer.now))
    (place c.remove.new.engine (g.R.Read.remaining c.converse-end.new.reader) (g.W.Write.contents c.converse-end.new.writer))
    c.converse-end.result c.keeps_laws.ensures.sound
    (record {
      key = _;
      engine = c.converse-end.new.engine;
      ended = c.converse-end.ensures.ends c.args.engine.now c.in_ok-key.ensures.step;
      removed = c.remove.result;
      removal = c.remove.ensures.step;
    })
