use Rattle.std.proofs.Common.{List, refl, sym, ap, ◌∙◌, subst}
use Rattle.bt_meta.specs.Torrent.{Metainfo}
use Rattle.bt_machine.specs.Opening.{other_count, other_log, no_memory}
use Rattle.bt_machine.specs.Start.{device_count}
use Rattle.bt_engine_state.specs.Parts.{state_of, disks_of, hints_of}
use Rattle.bt_engine_start.specs.Runs.{AreRunsOf}
use Rattle.bt_engine_start.specs.Starting.{engine_of}
use Rattle.bt_engine_start.specs.StartingSteps.{log_in}
use Rattle.bt_engine_start.specs.declared.runs.MarkRun.{MarkRun}
use Rattle.bt_engine_start.proofs.Starts.{another_log, answers, begins_of}
use Rattle.bt_engine_start.proofs.starting.start.Goals as goal

pub returns-then-len-device_count-clause-answer : goal.returns-then-len-device_count-clause-answer
returns-then-len-device_count-clause-answer g c =
    other_count (λ same. c.if-len-device_count.true (
    c.len.ensures ∙ c.args.disks.ok.0 ∙ same ∙ ap device_count (sym c.files.ensures.said) ∙ sym c.device_count.ensures))
    (record { refused = _; is = refl; same_cause = refl; same_disks = refl; same_log = refl })

pub returns-then-not-is_log_of-clause-answer : goal.returns-then-not-is_log_of-clause-answer
returns-then-not-is_log_of-clause-answer g c =
    let other = another_log c.args.torrent.infohash c.args.log c.is_log_of.result c.is_log_of.ensures c.if-not-is_log_of.true in
    other_log other.0 (sym c.args.disks.ok.0 ∙ sym c.len.ensures ∙ c.if-len-device_count.false ∙ c.device_count.ensures ∙ ap device_count c.files.ensures.said) other.1 other.2
    (record { refused = _; is = refl; same_cause = refl; same_disks = refl; same_log = refl })

pub with_log-requires-clause-same : goal.with_log-requires-clause-same
with_log-requires-clause-same g c =
    λ l has. c.is_log_of.ensures.0 c.if-not-is_log_of.false l (sym c.open_log-held.ensures.log ∙ has)
    ∙ ap (λ (torrent : Metainfo). torrent.infohash) (sym c.in-Ok.ensures.torrent)

pub with_log-requires-clause-runs : goal.with_log-requires-clause-runs
with_log-requires-clause-runs g c =
    subst (λ (runs : List MarkRun). AreRunsOf (hints_of c.open_log-held.result) runs) (sym c.deref.ensures.value) c.in-Ok.ensures.runs

pub returns-in-Ok : goal.returns-in-Ok
returns-in-Ok g c =
    let new = c.with_log.result in
    let laws = c.starts_keep_laws.ensures in
    let opened = c.with_log.ensures in
    let begins = begins_of opened.begins in
    record {
      answer = answers c.in-Ok.ensures.devices (opened.torrent ∙ c.in-Ok.ensures.torrent) c.open_log-held.ensures.log opened.begins;
      tied = opened.tied;
      lawful = opened.lawful;
      shaped = laws.shaped new.torrent (state_of new) begins;
      orderly = laws.orderly new.torrent (state_of new) begins;
      rooted = laws.rooted new.torrent (state_of new) opened.lawful begins;
      sparse = laws.sparse new.torrent (state_of new) opened.lawful begins;
      sound = laws.sound new.torrent (disks_of c.in-Ok.parts) (log_in c.open_log-held.result) (engine_of new) opened.begins;
    }

pub returns-in-Err-clause-answer : goal.returns-in-Err-clause-answer
returns-in-Err-clause-answer g c =
    no_memory (sym c.args.disks.ok.0 ∙ sym c.len.ensures ∙ c.if-len-device_count.false ∙ c.device_count.ensures ∙ ap device_count c.files.ensures.said)
    (c.is_log_of.ensures.0 c.if-not-is_log_of.false)
    (record { refused = _; is = refl; same_cause = refl; same_disks = c.in-Err.ensures.refused; same_log = c.given_back.ensures ∙ c.open_log-held.ensures.log })
