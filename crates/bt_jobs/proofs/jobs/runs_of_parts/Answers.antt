use Rattle.std.proofs.Common.{ℕ, [], List, IfOk, map, sym, subst, arith}
use Rattle.std.specs.List.{range_with_len}
use Rattle.std.specs.Process.{command_args}
use Rattle.std.proofs.lemmas.Result.{IfOk-weaker}
use Rattle.bt_jobs.specs.Children.{part_words}
use Rattle.bt_jobs.specs.JobsSteps.{AreHeard}
use Rattle.bt_jobs.specs.Parts.{AreStarted, IsDone}
use Rattle.bt_jobs.specs.Starts.{start_of}
use Rattle.bt_jobs.proofs.Hearing.{if_ok_any}
use Rattle.bt_jobs.proofs.Starting.{command_count, done_over, none_left, starts_each}
use Rattle.bt_jobs.proofs.jobs.runs_of_parts.Goals as goal

pub returns-in_err-commands-clause-over : goal.returns-in_err-commands-clause-over
returns-in_err-commands-clause-over g c = none_left g.L.Starter.starts g.L.Part.StartedPart.stands _

pub returns-in_err-parts-clause-over : goal.returns-in_err-parts-clause-over
returns-in_err-parts-clause-over g c = none_left g.L.Starter.starts g.L.Part.StartedPart.stands _

pub hear_parts-requires-clause-room : goal.hear_parts-requires-clause-room
hear_parts-requires-clause-room g c =
    let job = c.args.job in
    let words_at = λ (i : ℕ). part_words job.source.is_info job.dir.now i job.count in
    let commands = c.in_ok-commands.commands.items in
    omega (arith, c.in_ok-parts.ensures.capacity, command_count command_args words_at job.count commands c.in_ok-commands.ensures.words)

pub returns-in_err-hear_parts-clause-over : goal.returns-in_err-hear_parts-clause-over
returns-in_err-hear_parts-clause-over g c =
    record { begun = c.hear_parts.ensures.over.0; parts = c.hear_parts.new.parts.items; over = c.hear_parts.ensures.over.1 }

pub returns-clause-told : goal.returns-clause-told
returns-clause-told g c =
    let old = g.I.Read.remaining c.args.output.now in
    let new = g.I.Read.remaining c.hear_parts.new.output in
    let heard = c.in_ok-hear_parts.ensures.told in
    subst (λ r. IfOk r (λ runs. AreHeard old new runs.items)) (sym c.of_parts.ensures)
    (IfOk-weaker c.in_order.result _ _ (λ runs tells. record {
      text = heard.bytes;
      taken = heard.taken;
      ended = heard.ended;
      told = tells heard.bytes (heard.told [] c.new-told.ensures);
    }) c.in_order.ensures.told)

pub returns-clause-done : goal.returns-clause-done
returns-clause-done g c =
    let starts = g.L.Starter.starts in
    let stands = g.L.Part.StartedPart.stands in
    let text = c.args.loaded.now.text.items in
    let job = c.args.job in
    let new = c.hear_parts.new.starter in
    let parts = c.hear_parts.new.parts.items in
    let commands = c.in_ok-commands.commands.items in
    let words_at = λ (i : ℕ). part_words job.source.is_info job.dir.now i job.count in
    let each = starts_each words_at (range_with_len 0 job.count) commands c.in_ok-commands.ensures.programs c.in_ok-commands.ensures.words in
    if_ok_any c.of_parts.result _ (parts, subst (λ all. AreStarted starts stands (IsDone text) c.args.starter.now all new parts) each c.in_ok-hear_parts.ensures.done)

pub returns-clause-over : goal.returns-clause-over
returns-clause-over g c =
    record { begun = c.hear_parts.ensures.over.0; parts = c.hear_parts.new.parts.items; over = c.hear_parts.ensures.over.1 }
