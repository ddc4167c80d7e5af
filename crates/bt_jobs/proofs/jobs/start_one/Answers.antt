use Rattle.std.proofs.Common.{◌≡◌, ◌++◌, ◌∷◌, [], cond, inl, inr, refl, ap, ◌∙◌, arith}
use Rattle.std.proofs.lemmas.Result.{on_ok_weaker}
use Rattle.bt_jobs.specs.Parts.{newly}
use Rattle.bt_jobs.specs.Starts.{start_of}
use Rattle.bt_jobs.proofs.Hearing.{ok_is}
use Rattle.bt_jobs.proofs.Starting.{new_part_any, new_part_seen, passed_then, unstarted_is}
use Rattle.bt_jobs.proofs.jobs.start_one.Goals as goal

pub returns-in_err-part-clause-all : goal.returns-in_err-part-clause-all
returns-in_err-part-clause-all g c = inl (unstarted_is c.start-outcome.result _ _ c.in_err-part.ensures.cause c.start-outcome.ensures.unstarted, refl)

pub returns-clause-started : goal.returns-clause-started
returns-clause-started g c =
    let starts = g.L.Starter.starts in
    let stands = g.L.Part.StartedPart.stands in
    let start = start_of c.args.command in
    let begun = c.in_ok-part.part in
    let part = c.pass_to-passed.new.part in
    let is = c.in_ok-part.ensures.part in
    let before = c.args.parts.now.items in
    let room = c.push.ensures.succeeds c.requires.room in
    passed_then c.pass_to-passed.result c.of_start-2.result _ c.of_start-2.ensures.part
    (on_ok_weaker c.pass_to-passed.result (λ turn. record {
      part = part;
      started = ok_is c.start-outcome.result begun (λ _. starts c.args.starter.now start c.start-outcome.new.self) is c.start-outcome.ensures.started;
      kept = c.push.ensures.items ∙ ap (λ b. cond b (before ++ part ∷ []) before) room;
      stand = new_part_seen stands c.args.text.now start begun part
          (ok_is c.start-outcome.result begun (λ p. stands p (newly start)) is c.start-outcome.ensures.stands) turn;
    }) c.pass_to-passed.ensures.passed)

pub returns-clause-all : goal.returns-clause-all
returns-clause-all g c =
    let starts = g.L.Starter.starts in
    let stands = g.L.Part.StartedPart.stands in
    let start = start_of c.args.command in
    let begun = c.in_ok-part.part in
    let part = c.pass_to-passed.new.part in
    let is = c.in_ok-part.ensures.part in
    let before = c.args.parts.now.items in
    let room = c.push.ensures.succeeds c.requires.room in
    inr (record {
      part = part;
      started = ok_is c.start-outcome.result begun (λ _. starts c.args.starter.now start c.start-outcome.new.self) is c.start-outcome.ensures.started;
      kept = c.push.ensures.items ∙ ap (λ b. cond b (before ++ part ∷ []) before) room;
      stand = new_part_any stands c.args.text.now start begun part
          (ok_is c.start-outcome.result begun (λ p. stands p (newly start)) is c.start-outcome.ensures.stands) c.pass_to-passed.result
          c.pass_to-passed.ensures.passed c.pass_to-passed.ensures.over;
    })
