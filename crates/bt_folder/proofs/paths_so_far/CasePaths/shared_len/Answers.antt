use Rattle.std.proofs.Common.{get_or, length, ap, ◌∙◌, arith}
use Rattle.std.proofs.lemmas.Bool.Decides.{nat_tests}
use Rattle.bt_folder.proofs.Twins.{shared_all, shared_ends, shared_more}
use Rattle.bt_folder.proofs.paths_so_far.CasePaths.shared_len.Goals as goal

pub loop-place-preserved : goal.loop-place-preserved
loop-place-preserved c =
    let found = c.in-Some.ensures.lookup in
    record {
      in_path = omega (arith, found.3.0, c.deref.ensures.len);
      same = shared_more c.args.self.now.path.items c.args.elements.now c.loop-place.place c.in-Some.last.now _ c.eq.result c.as_str.result.now
          (omega (arith, found.3.0, ap length c.deref.ensures.value)) c.loop-place-test.true
          (found.1 ∙ ap (λ items. get_or items c.loop-place.place c.in-Some.last.now) c.deref.ensures.value) c.eq.ensures c.if-eq.true c.as_str.ensures.value
          c.loop-place.invariant.same;
    }

pub returns-in_default-clause-apart : goal.returns-in_default-clause-apart
returns-in_default-clause-apart c inside =
    let found = c.in-Some.ensures.lookup in
    shared_ends c.args.self.now.path.items c.args.elements.now c.loop-place.place c.in-Some.last.now _ c.eq.result c.as_str.result.now
    (omega (arith, found.3.0, ap length c.deref.ensures.value)) inside
    (found.1 ∙ ap (λ items. get_or items c.loop-place.place c.in-Some.last.now) c.deref.ensures.value) c.eq.ensures c.if-eq.false c.as_str.ensures.value

pub returns-in_default-2-clause-apart : goal.returns-in_default-2-clause-apart
returns-in_default-2-clause-apart c inside =
    shared_all c.args.self.now.path.items c.args.elements.now c.loop-place.place
    (grind (arith, nat_tests, c.get.ensures.lookup.0, c.in_default.is, ap length c.deref.ensures.value)) inside
