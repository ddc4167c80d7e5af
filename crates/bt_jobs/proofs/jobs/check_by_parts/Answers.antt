use Rattle.std.proofs.Common.{length, map, arith, inl, inr, refl, sym, subst, ap, ◌∙◌}
use Rattle.std.proofs.lemmas.List.{length-map}
use Rattle.std.proofs.lemmas.Result.{IfOk-weaker}
use Rattle.bt_meta.specs.Files.{file_of}
use Rattle.bt_jobs.specs.Report.{AreJoined, finding_of}
use Rattle.bt_jobs.proofs.Hearing.{ok_is}
use Rattle.bt_jobs.proofs.Reports.{joined_each, joined_report}
use Rattle.bt_jobs.proofs.Starting.{none_left}
use Rattle.bt_jobs.proofs.jobs.check_by_parts.Goals as goal

pub returns-then-not-contains-clause-report : goal.returns-then-not-contains-clause-report
returns-then-not-contains-clause-report g c =
    let loaded = c.in_ok-loaded.loaded in
    IfOk-weaker c.check_torrent.result _ _ (λ summary r. (
      loaded.torrent,
      r.0,
      record { text = loaded.text.items; spelled = c.in_ok-loaded.ensures.spelled },
      inl (r.1, refl),
      r.2,
    )) c.check_torrent.ensures.report

pub heard_of-requires-clause-short : goal.heard_of-requires-clause-short
heard_of-requires-clause-short g c = λ k d lt. (c.files-files.ensures.lawful k d lt).short

pub write_report-requires : goal.write_report-requires
write_report-requires g c =
    let files = c.files-files.result.now in
    let heard = c.in_ok-heard.heard in
    let joined = ok_is c.heard_of.result heard _ (sym c.of_parts.ensures ∙ c.in_ok-heard.was) c.heard_of.ensures.joined in
    let each = joined_each 0 (map file_of files) _ (map finding_of heard.items) joined in
    omega (arith, each, length-map files file_of, length-map heard.items finding_of, ap length c.deref-5.ensures.value)

pub returns-clause-report : goal.returns-clause-report
returns-clause-report g c =
    let loaded = c.in_ok-loaded.loaded in
    let files = map file_of c.files-files.result.now in
    let heard = c.in_ok-heard.heard in
    let runs = c.in_ok-runs.runs in
    let told = c.in_ok-runs.ensures.told in
    let joined = ok_is c.heard_of.result heard _ (sym c.of_parts.ensures ∙ c.in_ok-heard.was) c.heard_of.ensures.joined in
    IfOk-weaker c.write_report.result _ _ (λ summary r. (
      loaded.torrent,
      r.0,
      record { text = loaded.text.items; spelled = c.in_ok-loaded.ensures.spelled },
      inr (
        joined_report loaded.torrent files told.text runs.items heard.items r.0 summary c.files-files.ensures.said told.told
            (subst (λ rs. AreJoined 0 files rs (map finding_of heard.items)) c.deref-4.ensures.value joined) r.1
            (r.2 ∙ ap (map finding_of) c.deref-5.ensures.value) r.3 r.4,
        record { text = loaded.text.items; spelled = c.in_ok-loaded.ensures.spelled; parts = c.in_ok-runs.ensures.done.0; done = c.in_ok-runs.ensures.done.1 },
      ),
      r.5,
    )) c.write_report.ensures.report

pub returns-in_err-loaded-clause-over : goal.returns-in_err-loaded-clause-over
returns-in_err-loaded-clause-over g c = none_left g.L.Starter.starts g.L.Part.StartedPart.stands _

pub returns-in_err-opened-clause-over : goal.returns-in_err-opened-clause-over
returns-in_err-opened-clause-over g c = none_left g.L.Starter.starts g.L.Part.StartedPart.stands _

pub returns-then-not-contains-clause-over : goal.returns-then-not-contains-clause-over
returns-then-not-contains-clause-over g c = none_left g.L.Starter.starts g.L.Part.StartedPart.stands _

pub returns-in_err-output-clause-over : goal.returns-in_err-output-clause-over
returns-in_err-output-clause-over g c = none_left g.L.Starter.starts g.L.Part.StartedPart.stands _
