use Rattle.std.proofs.Common.{◌≡◌, ◌/◌, get_or, sym, arith}
use Rattle.std.proofs.lemmas.List.{get_or_read}
use Rattle.bt_sparse.proofs.Pages.{rest_present}
use Rattle.bt_sparse.proofs.page.ones_from.Goals as goal

pub returns-in-Some-clause-set : goal.returns-in-Some-clause-set
returns-in-Some-clause-set c =
    let at = c.in-Some.ensures.lookup in
    let read : get_or c.args.words.now (c.args.place / 64) 0 ≡ c.in-Some.word.now = sym (get_or_read c.args.words.now (c.args.place / 64) c.in-Some.word.now at.3.0 at.1 0) in
    λ j lt. rest_present c.args.words.now c.args.place c.in-Some.word.now j read (omega (arith, c.type_inv.words (c.args.place / 64), read)) (c.trailing_ones.ensures.set j lt)
