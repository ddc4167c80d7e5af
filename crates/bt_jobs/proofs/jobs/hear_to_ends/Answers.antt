use Rattle.std.proofs.lemmas.Result.{on_ok_weaker}
use Rattle.bt_jobs.proofs.jobs.hear_to_ends.Goals as goal

pub returns-clause-done : goal.returns-clause-done
returns-clause-done g c =
    let watched = c.in_ok-hear.ensures.watched in
    on_ok_weaker c.wait_for_all.result (λ ended text begun are. ended text watched.looks begun (watched.seen text begun are)) c.wait_for_all.ensures.ended

pub returns-clause-kept : goal.returns-clause-kept
returns-clause-kept g c = λ begun are. c.wait_for_all.ensures.kept begun (c.hear.ensures.kept begun are)
