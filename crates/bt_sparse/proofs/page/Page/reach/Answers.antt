use Rattle.std.proofs.Common.{◌≡◌, ◌<◌, ℕ, [], length, get_or, ap, arith}
use Rattle.std.proofs.lemmas.Grind.{div_ceil_times}
use Rattle.bt_sparse.proofs.Pages.{resized_before, grown_longer, grown_bits}
use Rattle.bt_sparse.proofs.page.Page.reach.Goals as goal

pub returns-in_err-resize-2-clause-longer : goal.returns-in_err-resize-2-clause-longer
returns-in_err-resize-2-clause-longer c =
    let room = div_ceil_times c.args.len 64 (omega arith) in
    let same = ap length c.in_err-resize-2.ensures.items in
    rw (← c.self.view_is) (grown_longer _ c.div_ceil.result c.self.invariant (rw c.self.inside.present.ok.0 at c.in_ok-resize.ensures.items)
    (omega arith) (omega (arith, c.len.ensures)) (λ i lt. ap (λ ds. get_or ds i []) c.in_err-resize-2.ensures.items))

first_same : (c : goal.In_ok-resize-2) (i : ℕ) → i < length c.self.inside.digests.items → get_or c.resize-2.new.self.items i [] ≡ get_or c.self.inside.digests.items i []
first_same c i lt =
    rw (rw c.self.inside.digests.ok.0 at c.in_ok-resize-2.ensures.items) (resized_before _ c.args.len i _ [] lt (omega (arith, c.len.ensures)))

pub invariant_of-self-2 : goal.invariant_of-self-2
invariant_of-self-2 c =
    let room = div_ceil_times c.args.len 64 (omega arith) in
    grown_bits _ c.div_ceil.result c.self.invariant (rw c.self.inside.present.ok.0 at c.in_ok-resize.ensures.items)
    (omega (arith, c.len.ensures, c.in_ok-resize-2.ensures.len)) (omega (arith, c.in_ok-resize-2.ensures.len)) (first_same c)

pub returns-clause-longer : goal.returns-clause-longer
returns-clause-longer c =
    let room = div_ceil_times c.args.len 64 (omega arith) in
    rw (← c.self.view_is) (grown_longer _ c.div_ceil.result c.self.invariant (rw c.self.inside.present.ok.0 at c.in_ok-resize.ensures.items)
    (omega (arith, c.len.ensures, c.in_ok-resize-2.ensures.len)) (omega (arith, c.in_ok-resize-2.ensures.len)) (first_same c))
