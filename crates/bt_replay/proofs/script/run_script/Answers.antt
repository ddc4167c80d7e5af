use Rattle.std.proofs.Common.{Err, IfErr, OnOk, refl, sym, ap, subst, ◌+◌, ◌∙◌, arith}
use Rattle.std.proofs.KnownBytes.{Keeps-refl}
use Rattle.std.proofs.lemmas.Result.{err_from_is_err_and}
use Rattle.sha2.specs.Sha256.{sha256}
use Rattle.bt_replay.specs.Field.{parts_of}
use Rattle.bt_replay.specs.Script.{device_conduct, unbegun, without_memory}
use Rattle.bt_replay.specs.Run.{EndsEarly, HasRun, lines_in}
use Rattle.bt_replay.proofs.DeviceSettings.{front_count}
use Rattle.bt_replay.proofs.ScriptEnd.{replayed}
use Rattle.bt_replay.proofs.ScriptLines.{few_lines}
use Rattle.bt_replay.proofs.script.run_script.Goals as goal

pub returns-in_err-torrent-clause-replays : goal.returns-in_err-torrent-clause-replays
returns-in_err-torrent-clause-replays g c =
    let p = err_from_is_err_and c.from_residual.result c.from_residual.ensures.1 in
    let lines = ap (parts_of 10) (sym c.without_last_feed.ensures) ∙ c.cut.ensures in
    rw (p.1, p.2)
    (unbegun c.cut.result.0.now (lines_in c.cut.result.1) c.in_err-torrent.field-0.0 lines c.in_err-torrent.ensures.fault
    (Keeps-refl (g.W.Write.contents c.args.writer.now)) refl)

pub returns-in_err-engine-clause-replays : goal.returns-in_err-engine-clause-replays
returns-in_err-engine-clause-replays g c =
    let p = err_from_is_err_and c.from_residual-in_err-engine.result c.from_residual-in_err-engine.ensures.1 in
    let lines = ap (parts_of 10) (sym c.without_last_feed.ensures) ∙ c.cut.ensures in
    rw (p.1, p.2)
    (without_memory c.cut.result.0.now (lines_in c.cut.result.1) c.in_ok-torrent.torrent lines c.in_ok-torrent.ensures.torrent
    (Keeps-refl (g.W.Write.contents c.args.writer.now)) (ap Err c.in_err-engine.ensures.fault))

pub begin-requires : goal.begin-requires
begin-requires g c =
    let lines = ap (parts_of 10) (sym c.without_last_feed.ensures) ∙ c.cut.ensures in
    let few = few_lines c.args.script.now c.cut.result.0.now (lines_in c.cut.result.1) lines in
    omega (arith, few, c.requires)

pub overflow_add-count : goal.overflow_add-count
overflow_add-count g c =
    let lines = ap (parts_of 10) (sym c.without_last_feed.ensures) ∙ c.cut.ensures in
    let few = few_lines c.args.script.now c.cut.result.0.now (lines_in c.cut.result.1) lines in
    let count = front_count _ _ _ _ _ c.in_ok-engine.ensures.begun.set in
    omega (arith, few, count, c.requires)

pub run_all-requires : goal.run_all-requires
run_all-requires g c =
    let lines = ap (parts_of 10) (sym c.without_last_feed.ensures) ∙ c.cut.ensures in
    let few = few_lines c.args.script.now c.cut.result.0.now (lines_in c.cut.result.1) lines in
    let count = front_count _ _ _ _ _ c.in_ok-engine.ensures.begun.set in
    omega (arith, few, count, c.requires)

pub returns-clause-replays : goal.returns-clause-replays
returns-clause-replays g c =
    let lines = ap (parts_of 10) (sym c.without_last_feed.ensures) ∙ c.cut.ensures in
    let before = g.W.Write.contents c.args.writer.now in
    let after = g.W.Write.contents c.run_all.new.writer in
    let engine = c.in_ok-engine.engine in
    let rest = lines_in c.in_ok-engine.rest in
    replayed c.args.script.now c.cut.result.0.now (lines_in c.cut.result.1) rest c.in_ok-torrent.torrent engine c.run_all.new.engine
    c.in_ok-engine.count before after c.run_all.result lines c.in_ok-torrent.ensures.torrent c.in_ok-engine.ensures.begun
    (subst (λ handshake. OnOk c.run_all.result (HasRun device_conduct sha256 handshake engine rest before after
    c.run_all.new.engine)) c.peer_handshake-handshake.ensures c.run_all.ensures.done)
    (subst (λ handshake. IfErr c.run_all.result (EndsEarly device_conduct sha256 handshake engine
    (c.in_ok-engine.count + 2) rest before after)) c.peer_handshake-handshake.ensures c.run_all.ensures.ended)
