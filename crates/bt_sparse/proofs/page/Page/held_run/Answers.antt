use Rattle.std.proofs.Common.{◌≡◌, ℕ, ◌+◌, get_or, None, arith}
use Rattle.std.specs.Option.{IsSome}
use Rattle.bt_sparse.proofs.Pages.{slot_some, slot_none, row_more}
use Rattle.bt_sparse.proofs.page.Page.held_run.Goals as goal

pub loop-i-init : goal.loop-i-init
loop-i-init c = record {
  held = λ j lt. rw (← c.self.view_is) (slot_some c.self.inside.digests.items c.self.inside.present.items (c.args.place + j) c.self.invariant
      (rw (← c.deref.ensures.value) (c.ones_from-run.ensures.set j lt)));
  low = omega (arith, c.ones_from-run.ensures.limit);
  first = omega arith;
}

pub loop-i-preserved : goal.loop-i-preserved
loop-i-preserved c = record {
  held = row_more (λ (j : ℕ). IsSome (get_or c.args.self.now (c.args.place + j) None)) c.loop-i.run c.ones_from-run-in-loop-i.result c.loop-i.invariant.held (λ j lt.
      let at : c.args.place + c.loop-i.run + j ≡ c.args.place + (c.loop-i.run + j) = omega arith in
      rw (← c.self.view_is) (slot_some c.self.inside.digests.items c.self.inside.present.items (c.args.place + (c.loop-i.run + j)) c.self.invariant
      (rw (← c.deref-in-loop-i.ensures.value, ← at) (c.ones_from-run-in-loop-i.ensures.set j lt))));
  low = omega (arith, c.loop-i.invariant.low, c.ones_from-run-in-loop-i.ensures.limit);
  first = omega (arith, c.loop-i.invariant.first);
}

pub returns-clause-none : goal.returns-clause-none
returns-clause-none c = λ h.
    let none : c.ones_from-run.result ≡ 0 = omega (arith, c.loop-i.invariant.first, h) in
    rw (← c.self.view_is) (slot_none c.self.inside.digests.items c.self.inside.present.items c.args.place c.self.invariant
    (rw (← c.deref.ensures.value) (c.ones_from-run.ensures.none none)))
