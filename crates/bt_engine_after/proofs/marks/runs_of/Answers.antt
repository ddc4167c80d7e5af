use Rattle.std.proofs.Common.{◌≡◌, ℕ, ◌+◌, ◌<◌, List, ◌++◌, flat_map, sym, ap, ◌∙◌, subst, arith}
use Rattle.std.proofs.lemmas.List.Elements.{All-nil}
use Rattle.bt_store.specs.declared.block_states.BlockState.{BlockState}
use Rattle.bt_engine_after.specs.declared.marks.Kind.{Kind}
use Rattle.bt_engine_after.specs.declared.marks.FileRun.{FileRun}
use Rattle.bt_engine_after.specs.MarksSteps.{is_of, blocks_of_kind, run_blocks, AreRuns, EndBefore}
use Rattle.bt_engine_after.proofs.RunMarks.{no_runs, run_goes_on, run_ends}
use Rattle.bt_engine_after.proofs.marks.runs_of.Goals as goal
use Rattle.bt_engine_after.proofs.marks.runs_of.Goals.{then-is_of, else-is_of+in_ok-close}

abbrev IsUpTo : Kind → (states : List BlockState) (first i : ℕ) → List FileRun → FileRun → Type 0
IsUpTo kind states first i runs current = flat_map run_blocks runs ++ run_blocks current ≡ blocks_of_kind kind states first i

pub loop-offset-init : goal.loop-offset-init
loop-offset-init g c =
    let none = c.new-runs.ensures.items in
    record {
      blocks = ap (λ (runs : List FileRun). flat_map run_blocks runs ++ run_blocks (record { first = c.args.run.first; count = 0 })) none;
      runs = subst (λ (runs : List FileRun). AreRuns runs) (sym none) no_runs;
      before = subst (λ (runs : List FileRun). EndBefore c.args.run.first runs) (sym none) (All-nil (λ (r : FileRun). r.first + r.count < c.args.run.first));
      ends = omega arith;
    }

pub loop-offset-preserved : goal.loop-offset-preserved
loop-offset-preserved g c =
    let states = c.args.store.now.states in
    let kind = c.args.kind in
    let first = c.args.run.first in
    let l = c.loop-offset in
    elim c.if-is_of.branch [
      | then-is_of w ↦ record {
        blocks = subst (λ (r : FileRun). IsUpTo kind states first (l.offset + 1) c.if-is_of.runs.items r) (sym w.current-is)
            (subst (λ v. IsUpTo kind states first (l.offset + 1) v.items (record { first = l.current.first; count = l.current.count + 1 })) (sym w.runs-is)
            (run_goes_on (is_of kind states) first l.offset l.runs.items l.current l.invariant.blocks l.invariant.ends (sym c.is_of.ensures ∙ w.if-is_of.true)));
        runs = subst (λ v. AreRuns v.items) (sym w.runs-is) l.invariant.runs;
        before = subst (λ (r : FileRun). EndBefore r.first c.if-is_of.runs.items) (sym w.current-is) (subst (λ v. EndBefore l.current.first v.items) (sym w.runs-is) l.invariant.before);
        ends = ap (λ (r : FileRun). r.first + r.count) w.current-is ∙ omega (arith, l.invariant.ends);
      }
      | else-is_of+in_ok-close w ↦ record {
        blocks = subst (λ (r : FileRun). IsUpTo kind states first (l.offset + 1) c.if-is_of.runs.items r) (sym w.current-is)
            (subst (λ v. IsUpTo kind states first (l.offset + 1) v.items (record { first = first + l.offset + 1; count = 0 })) (sym w.runs-is)
            (run_ends (is_of kind states) first l.offset l.runs.items l.current l.invariant.blocks l.invariant.ends w.close.new.runs.items w.in_ok-close.ensures.blocks (sym c.is_of.ensures ∙ w.if-is_of.false)));
        runs = subst (λ v. AreRuns v.items) (sym w.runs-is) w.in_ok-close.ensures.runs;
        before = subst (λ (r : FileRun). EndBefore r.first c.if-is_of.runs.items) (sym w.current-is)
            (subst (λ v. EndBefore (first + l.offset + 1) v.items) (sym w.runs-is)
            (subst (λ n. EndBefore (n + 1) w.close.new.runs.items) l.invariant.ends w.in_ok-close.ensures.before));
        ends = ap (λ (r : FileRun). r.first + r.count) w.current-is ∙ omega arith;
      }
    ]
