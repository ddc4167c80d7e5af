use Rattle.std.proofs.Common.{rules, ◌*◌, ap, refl, ◌∙◌}
use Rattle.std.proofs.lemmas.Result.{err_from_is_err_and}
use Rattle.bt_hashreq.specs.Claim.{shape, count, no_memory}
use Rattle.bt_hashreq.proofs.claim.to_claim.Goals as goal

pub returns-in_default-clause-refused : goal.returns-in_default-clause-refused
returns-in_default-clause-refused c = shape (λ h. let e = c.in_default.ensures.some.1 h in cc)

pub returns-then-digests-count-clause-refused : goal.returns-then-digests-count-clause-refused
returns-then-digests-count-clause-refused c =
    count (c.in-Some.ensures.some.0 refl) (λ size. c.if-digests-count.true (rw c.in-Some.ensures.count size))

pub returns-in_err-collected-clause-refused : goal.returns-in_err-collected-clause-refused
returns-in_err-collected-clause-refused c =
    let e = err_from_is_err_and c.from_residual.result c.from_residual.ensures.1 in
    let size = c.if-digests-count.false ∙ ap (λ n. 32 * n) c.in-Some.ensures.count in
    rw (e.1, e.2, c.in_err-collected.ensures.memory) (no_memory (c.in-Some.ensures.some.0 refl) size)

pub returns-in_err-collected-2-clause-refused : goal.returns-in_err-collected-2-clause-refused
returns-in_err-collected-2-clause-refused c =
    let e = err_from_is_err_and c.from_residual-in_err-collected-2.result c.from_residual-in_err-collected-2.ensures.1 in
    let size = c.if-digests-count.false ∙ ap (λ n. 32 * n) c.in-Some.ensures.count in
    rw (e.1, e.2, c.in_err-collected-2.ensures.memory) (no_memory (c.in-Some.ensures.some.0 refl) size)

pub returns-clause-claim : goal.returns-clause-claim
returns-clause-claim c = search rules
