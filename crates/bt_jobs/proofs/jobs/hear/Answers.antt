use Rattle.std.proofs.Common.{arith}
use Rattle.std.proofs.lemmas.Grind.{common_steps}
use Rattle.bt_jobs.specs.PartsSteps.{IsAny}
use Rattle.bt_jobs.proofs.Hearing.{heard_all, heard_more, heard_none, watched_all, watched_more, watched_none}
use Rattle.bt_jobs.proofs.Turning.{unturned}
use Rattle.bt_jobs.proofs.jobs.hear.Goals as goal

pub loop-init : goal.loop-init
loop-init g c =
    let stands = g.C.StartedPart.stands in
    record { heard = heard_none _ _; watched = watched_none stands 4096 _ _; kept = unturned stands IsAny _ }

pub loop-preserved : goal.loop-preserved
loop-preserved g c =
    let l = c.loop in
    let given = c.in_ok-count.ensures.given in
    let buffer = c.read_some.new.buffer in
    record {
      heard = heard_more _ _ _ _ _ c.in_ok-count.count buffer l.invariant.heard given _ _ c.in_ok-take_in.ensures.told (grind (arith, common_steps));
      watched = watched_more g.C.StartedPart.stands 4096 _ _ _ _ _ c.in_ok-count.count buffer l.invariant.watched given _ (grind (arith, common_steps)) c.in_ok-look_at_all.ensures.seen;
      kept = λ begun are. c.look_at_all.ensures.kept begun (l.invariant.kept begun are);
    }

pub returns-then-count-eq0-clause-told : goal.returns-then-count-eq0-clause-told
returns-then-count-eq0-clause-told g c =
    heard_all _ _ _ _ _ c.in_ok-count.count c.read_some.new.buffer c.loop.invariant.heard c.in_ok-count.ensures.given c.if-count-eq0.true

pub returns-then-count-eq0-clause-watched : goal.returns-then-count-eq0-clause-watched
returns-then-count-eq0-clause-watched g c =
    watched_all g.C.StartedPart.stands 4096 _ _ _ _ _ c.in_ok-count.count c.read_some.new.buffer c.loop.invariant.watched c.in_ok-count.ensures.given c.if-count-eq0.true

pub returns-in_err-look_at_all-clause-kept : goal.returns-in_err-look_at_all-clause-kept
returns-in_err-look_at_all-clause-kept g c = λ begun are. c.look_at_all.ensures.kept begun (c.loop.invariant.kept begun are)
