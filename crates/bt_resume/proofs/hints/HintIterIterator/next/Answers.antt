use Rattle.std.proofs.Common.{sym, ◌∙◌}
use Rattle.std.proofs.lemmas.List.{take_rest}
use Rattle.bt_resume.specs.LentHint.{hint_of}
use Rattle.bt_resume.proofs.Keepings.{behind_renewal, no_first, first_is, next_is, goes_on}
use Rattle.bt_resume.proofs.hints.HintIterIterator.next.Goals as goal

pub returns-in_err-found-clause-steps : goal.returns-in_err-found-clause-steps
returns-in_err-found-clause-steps c =
    let part = c.behind_renewal-part in
    let seen = c.self.inside.spelled in
    let here = behind_renewal c.self.inside.format part.result.format c.self.inside.bytes.now part.result.bytes.now seen.0 seen.1 part.ensures in
    let none = sym c.self.view_is ∙ no_first part.result.format part.result.bytes.now _ here c.in_err-found.ensures.none in
    rw c.from_residual.ensures (none, none)

pub invariant_of-self-inside : goal.invariant_of-self-inside
invariant_of-self-inside c =
    let part = c.behind_renewal-part in
    let seen = c.self.inside.spelled in
    let found = c.in_ok-found.found in
    let here = behind_renewal c.self.inside.format part.result.format c.self.inside.bytes.now part.result.bytes.now seen.0 seen.1 part.ensures in
    let next = first_is part.result.format part.result.bytes.now _ (hint_of found.hint) found.len here c.in_ok-found.ensures.found in
    rw take_rest ((next.other, next.spelled), tt)

pub returns-clause-steps : goal.returns-clause-steps
returns-clause-steps c =
    let part = c.behind_renewal-part in
    let seen = c.self.inside.spelled in
    let found = c.in_ok-found.found in
    let here = behind_renewal c.self.inside.format part.result.format c.self.inside.bytes.now part.result.bytes.now seen.0 seen.1 part.ensures in
    let next = first_is part.result.format part.result.bytes.now _ (hint_of found.hint) found.len here c.in_ok-found.ensures.found in
    sym c.self.view_is ∙ next_is part.result.format part.result.bytes.now _ _ c.self-3-1.given.0 (hint_of found.hint) found.len next
    (take_rest part.result.bytes.now found.len)

pub returns-clause-goes : goal.returns-clause-goes
returns-clause-goes c =
    let part = c.behind_renewal-part in
    let seen = c.self.inside.spelled in
    let found = c.in_ok-found.found in
    let here = behind_renewal c.self.inside.format part.result.format c.self.inside.bytes.now part.result.bytes.now seen.0 seen.1 part.ensures in
    let next = first_is part.result.format part.result.bytes.now _ (hint_of found.hint) found.len here c.in_ok-found.ensures.found in
    goes_on c.args.self.now _ (hint_of found.hint) found.hint
    (sym c.self.view_is ∙ next_is part.result.format part.result.bytes.now _ _ c.self-3-1.given.0 (hint_of found.hint) found.len next
    (take_rest part.result.bytes.now found.len))
