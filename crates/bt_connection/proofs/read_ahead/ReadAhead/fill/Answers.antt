use Rattle.std.proofs.Common.{◌≡◌, ℕ, List, [], ◌++◌, length, take, refl, sym, ◌∙◌, ap, subst, arith, append_assoc, append-nil}
use Rattle.std.proofs.lemmas.Result.{err_from_is_err_and}
use Rattle.std.proofs.KnownBytes.{Consumes-nil, Consumes-trans}
use Rattle.bt_connection.specs.Messages.{Leads}
use Rattle.bt_connection.proofs.Leading.{leads_none, leads_more, stays}
use Rattle.bt_connection.proofs.ReadsAhead.{unready, unready_before, lost_after}
use Rattle.bt_connection.proofs.read_ahead.ReadAhead.fill.Goals as goal

pub reading-init : goal.reading-init
reading-init g c =
    let s = c.args.self.now in
    record {
      takes = ([], record { lost = Consumes-nil (g.R.Read.remaining s.inner); waits = sym (append-nil s.waiting) });
      unasked = λ some. refl;
      leads = λ none. subst (λ (n : ℕ). Leads s.owed (take n s.waiting) s.owed) (sym none) (leads_none s.owed);
    }

pub reading-preserved : goal.reading-preserved
reading-preserved g c =
    let first = c.args.self.now in
    let s = c.reading.self in
    let new = c.refill.new.self in
    let so = c.reading.invariant.takes in
    let r = c.in_ok-refill.ensures.refilled in
    let none : s.ready ≡ 0 = unready c.is_ready.result s.ready c.reading-test.true c.is_ready.ensures.1 in
    let empty : length (take s.ready s.waiting) ≡ 0 = ap (λ (n : ℕ). length (take n s.waiting)) none in
    record {
      takes = (
        so.0 ++ r.came,
        record {
          lost = Consumes-trans (g.R.Read.remaining first.inner) (g.R.Read.remaining s.inner) (g.R.Read.remaining new.inner) so.0 r.came so.1.lost r.takes.lost;
          waits = r.takes.waits ∙ ap (λ (l : List ℕ). l ++ r.came) so.1.waits ∙ append_assoc first.waiting so.0 r.came;
        },
      );
      unasked = λ some. absurd (omega (arith, some, unready_before first s c.reading.invariant.unasked none));
      leads = λ asked. leads_more first.owed s.owed new.owed (take s.ready s.waiting) (take new.ready new.waiting)
          (c.reading.invariant.leads asked) empty (r.leads (omega arith));
    }

pub returns-in_err-refill-clause-kept : goal.returns-in_err-refill-clause-kept
returns-in_err-refill-clause-kept g c =
    let first = c.args.self.now in
    let s = c.reading.self in
    let so = c.reading.invariant.takes in
    let none : s.ready ≡ 0 = unready c.is_ready.result s.ready c.reading-test.true c.is_ready.ensures.1 in
    let empty : length (take s.ready s.waiting) ≡ 0 = ap (λ (n : ℕ). length (take n s.waiting)) none in
    let asked = unready_before first s c.reading.invariant.unasked none in
    let p = err_from_is_err_and c.from_residual.result c.from_residual.ensures.1 in
    rw p.1
    (lost_after g.R.Read.remaining first s c.refill.new.self so.0 so.1 c.in_err-refill.ensures.kept asked none
    (stays (c.reading.invariant.leads asked) empty))
