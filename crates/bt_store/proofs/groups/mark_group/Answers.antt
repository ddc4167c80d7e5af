use Rattle.std.proofs.Common.{◌+◌, length, refl, sym, ap, ◌∙◌}
use Rattle.std.specs.Prelude.{slice_set}
use Rattle.std.proofs.Math.ListN.{length-set}
use Rattle.bt_store.specs.declared.block_states.BlockState.TheVariants.{Marked}
use Rattle.bt_store.proofs.Marks.{marked_none, marked_more}
use Rattle.bt_store.proofs.groups.mark_group.Goals as goal

pub loop-j-init : goal.loop-j-init
loop-j-init c = record { states = marked_none c.args.first c.args.states.now; size = refl }

pub loop-j-preserved : goal.loop-j-preserved
loop-j-preserved c =
    let i = c.args.first + c.loop-j.j in
    record {
      states = c.set.ensures ∙ ap (λ states. slice_set states i Marked) c.loop-j.invariant.states ∙ sym (marked_more c.args.first c.loop-j.j c.args.states.now);
      size = ap length c.set.ensures ∙ length-set c.loop-j.states i Marked ∙ c.loop-j.invariant.size;
    }
