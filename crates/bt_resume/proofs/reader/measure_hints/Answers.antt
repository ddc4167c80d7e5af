use Rattle.std.proofs.Common.{arith}
use Rattle.std.proofs.lemmas.Grind.{common_steps}
use Rattle.std.proofs.lemmas.List.{take_rest}
use Rattle.bt_resume.specs.LentHint.{hint_of}
use Rattle.bt_resume.proofs.Keepings.{one_more_taken}
use Rattle.bt_resume.proofs.reader.measure_hints.Goals as goal

pub loop-found-preserved : goal.loop-found-preserved
loop-found-preserved c =
    let before = c.loop-found.invariant in
    let first = rw take_rest at c.in-Some.ensures.found in
    one_more_taken c.args.format c.args.bytes.now before.0 c.loop-found.len c.loop-found.count (hint_of c.in-Some.found.hint) c.in-Some.found.len before.1 before.2 before.3 first

pub returns-clause-hints : goal.returns-clause-hints
returns-clause-hints c = grind (arith, common_steps)
