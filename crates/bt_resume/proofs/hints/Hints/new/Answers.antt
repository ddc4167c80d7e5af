use Rattle.bt_resume.specs.LogText.{empty_text}
use Rattle.bt_resume.proofs.Keepings.{seen_is, nothing_spelled, no_hints_in}
use Rattle.bt_resume.proofs.hints.Hints.new.Goals as goal

pub invariant_of-result : goal.invariant_of-result
invariant_of-result c = ((empty_text c.args.format, nothing_spelled c.args.format c.new.result.items c.new.ensures.items), tt)

pub invariant_of-result-2 : goal.invariant_of-result-2
invariant_of-result-2 c =
    no_hints_in c.args.format _ (seen_is _ _ c.result-1.given.0 _ (nothing_spelled c.args.format c.new.result.items c.new.ensures.items))

pub returns : goal.returns
returns c = seen_is _ _ c.result-1.given.0 _ (nothing_spelled c.args.format c.new.result.items c.new.ensures.items)
