use Rattle.std.proofs.Common.{[], ◌+◌, ◌++◌, ◌∷◌, List, ℕ, sym, ap, ◌∙◌, arith}
use Rattle.arrayvec.specs.ArrayVec.{array_vec_len}
use Rattle.bt_engine_after.proofs.RunMarks.{unmarked_kept, unmarked_dropped}
use Rattle.bt_engine_after.proofs.marks.unmarked_blocks.Goals as goal
use Rattle.bt_engine_after.proofs.marks.unmarked_blocks.Goals.{then-not-is_marked, else-not-is_marked}

pub loop-offset-preserved : goal.loop-offset-preserved
loop-offset-preserved g c =
    let states = c.args.store.now.states in
    let first = c.args.run.first in
    let l = c.loop-offset in
    elim c.if-not-is_marked.branch [
      | then-not-is_marked w ↦ record {
        blocks = ap (λ v. v.items) w.blocks-is ∙ w.push.ensures.items
            ∙ ap (λ (xs : List ℕ). xs ++ (first + l.offset) ∷ []) l.invariant.blocks ∙ sym (unmarked_kept states first l.offset (sym c.is_marked.ensures ∙ w.if-not-is_marked.true));
        few = omega (arith, ap (λ v. array_vec_len v) w.blocks-is, w.push.ensures.len, l.invariant.few);
      }
      | else-not-is_marked w ↦ record {
        blocks = ap (λ v. v.items) w.blocks-is ∙ l.invariant.blocks ∙ sym (unmarked_dropped states first l.offset (sym c.is_marked.ensures ∙ w.if-not-is_marked.false));
        few = omega (arith, ap (λ v. array_vec_len v) w.blocks-is, l.invariant.few);
      }
    ]
