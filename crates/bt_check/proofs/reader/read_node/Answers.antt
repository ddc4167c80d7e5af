use Rattle.std.proofs.Common.{◌≡◌, rules, length}
use Rattle.std.proofs.lemmas.Result.{err_from_is_err_and}
use Rattle.bt_check.proofs.ReaderNode.{reading_begun, reading_lost, reading_more, next_run, wanted_of, all_came, some_came}
use Rattle.bt_check.proofs.reader.read_node.Goals as goal

pub loop-rest-init : goal.loop-rest-init
loop-rest-init g c = reading_begun _ _ _

pub returns-in_err-fill-clause-err : goal.returns-in_err-fill-clause-err
returns-in_err-fill-clause-err g c =
    let p = err_from_is_err_and c.from_residual.result c.from_residual.ensures.1 in
    rw p.1 (reading_lost _ _ _ _ _ _ _ c.loop-rest.invariant c.in_err-fill.ensures.err)

pub returns-then-branch-wanted-clause-early : goal.returns-then-branch-wanted-clause-early
returns-then-branch-wanted-clause-early g c =
    let wanted = wanted_of c.loop-rest.rest c.min-wanted.result c.loop-rest-test.true c.min-wanted.ensures in
    let size : length c.fill.new.buffer ≡ c.min-wanted.result = search rules in
    some_came _ _ _ _ _ _ _ _ _ _ wanted.fits c.loop-rest.invariant size c.if-branch-wanted.true c.in_ok-fill.ensures.given

pub unwrap-requires : goal.unwrap-requires
unwrap-requires g c =
    let wanted = wanted_of c.loop-rest.rest c.min-wanted.result c.loop-rest-test.true c.min-wanted.ensures in
    let size : length c.fill.new.buffer ≡ c.min-wanted.result = search rules in
    c.push.ensures.variant.1 (rw size (next_run _ _ _ _ _ _ _ c.requires.fresh c.requires.all wanted c.loop-rest.invariant))

pub loop-rest-preserved : goal.loop-rest-preserved
loop-rest-preserved g c =
    let wanted = wanted_of c.loop-rest.rest c.min-wanted.result c.loop-rest-test.true c.min-wanted.ensures in
    let size : length c.fill.new.buffer ≡ c.min-wanted.result = search rules in
    let came = all_came _ _ _ _ c.fill.new.buffer size c.if-branch-wanted.false c.in_ok-fill.ensures.given in
    let place = rw c.unwrap.ensures at c.push.ensures.state in
    let from = rw c.unwrap.ensures at c.push.ensures.from in
    reading_more _ _ _ _ _ _ _ _ _ _ c.requires.fresh wanted c.loop-rest.invariant came size place from
