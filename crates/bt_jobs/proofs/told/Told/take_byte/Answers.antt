use Rattle.std.proofs.Common.{refl, subst}
use Rattle.bt_parts.specs.Line.{IsRunLine}
use Rattle.bt_jobs.proofs.Lines.{told_line, told_more}
use Rattle.bt_jobs.proofs.told.Told.take_byte.Goals as goal

pub returns-then-byte-ne10-clause-told : goal.returns-then-byte-ne10-clause-told
returns-then-byte-ne10-clause-told c = λ text is. told_more text c.args.self.now _ c.args.byte is c.if-byte-ne10.true c.in_ok-push.ensures.items refl

pub returns-clause-told : goal.returns-clause-told
returns-clause-told c = λ text is.
    told_line text c.args.self.now _ c.args.byte c.in-Some.run' is c.if-byte-ne10.false
    (subst (λ l. IsRunLine l c.in-Some.run') c.deref.ensures.value c.in-Some.ensures.some) c.clear.ensures.items c.in_ok-push-2.ensures.items
