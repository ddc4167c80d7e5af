use Rattle.std.proofs.Common.{length, vec_capacity, sym, subst, ap, ◌∙◌, arith}
use Rattle.bt_jobs.proofs.Starting.{IsStarting, started_any, starting_all, starting_any, starting_begun, starting_more}
use Rattle.bt_jobs.proofs.jobs.start_all.Goals as goal

pub loop-given-init : goal.loop-given-init
loop-given-init g c =
    let starts = g.L.Starter.starts in
    let stands = g.L.Part.StartedPart.stands in
    let all = c.args.commands.items in
    let parts = c.args.parts.now in
    let old = c.args.starter.now in
    subst (λ left. IsStarting starts stands c.args.text.now all left (vec_capacity parts) old old parts.items)
    (sym c.into_iter-given-iterator.ensures.into_iter_gives.0) (starting_begun starts stands c.args.text.now all (vec_capacity parts) old parts.items c.requires.none c.requires.room)

pub start_one-requires : goal.start_one-requires
start_one-requires g c =
    let s = c.loop-given.invariant in
    omega (arith, s.within, ap length c.in-Some.ensures.steps.0, c.loop-given.parts.ok.0)

pub loop-given-preserved : goal.loop-given-preserved
loop-given-preserved g c =
    starting_more g.L.Starter.starts g.L.Part.StartedPart.stands c.args.text.now _ _ _ c.in-Some.given _ _ _ _ _ _ _ c.loop-given.invariant c.in-Some.ensures.steps.0
    c.start_one.ensures.room c.in_ok-start_one.ensures.started

pub returns-in_err-start_one-clause-all : goal.returns-in_err-start_one-clause-all
returns-in_err-start_one-clause-all g c =
    starting_any g.L.Starter.starts g.L.Part.StartedPart.stands c.args.text.now _ _ c.in-Some.given _ _ _ _ _ _ c.loop-given.invariant c.start_one.ensures.all

pub returns-clause-started : goal.returns-clause-started
returns-clause-started g c =
    let none_left = sym c.loop-given.given-iterator.rest.ok.0 ∙ c.in-None.ensures.steps.0 in
    starting_all g.L.Starter.starts g.L.Part.StartedPart.stands c.args.text.now _ _ _ _ _ _ c.loop-given.invariant none_left

pub returns-clause-all : goal.returns-clause-all
returns-clause-all g c =
    let starts = g.L.Starter.starts in
    let stands = g.L.Part.StartedPart.stands in
    let none_left = sym c.loop-given.given-iterator.rest.ok.0 ∙ c.in-None.ensures.steps.0 in
    started_any starts stands c.args.text.now _ _ _ _ (starting_all starts stands c.args.text.now _ _ _ _ _ _ c.loop-given.invariant none_left)
