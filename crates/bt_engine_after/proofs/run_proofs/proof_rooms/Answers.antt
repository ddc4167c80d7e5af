use Rattle.std.proofs.Common.{[], ◌∷◌, ◌+◌, length, sym, ap, ◌∙◌, subst, All}
use Rattle.std.proofs.lemmas.List.{length-append}
use Rattle.std.proofs.lemmas.List.Elements.{All-push}
use Rattle.bt_engine_after.specs.RunProofsSteps.{HoldsAnswer}
use Rattle.bt_engine_after.proofs.RunMarks.{count_kept, count_dropped}
use Rattle.bt_engine_after.proofs.run_proofs.proof_rooms.Goals as goal
use Rattle.bt_engine_after.proofs.run_proofs.proof_rooms.Goals.{then-begins_run+in_ok-proof_room+in_ok-push, else-begins_run}

pub loop-offset-preserved : goal.loop-offset-preserved
loop-offset-preserved c =
    let l = c.loop-offset in
    let first = c.args.group.first in
    let anchor = c.args.anchor in
    elim c.if-begins_run.branch [
      | then-begins_run+in_ok-proof_room+in_ok-push w ↦ record {
        count = ap (λ v. length v.items) w.rooms-is ∙ ap (λ xs. length xs) w.in_ok-push.ensures.items ∙ length-append l.rooms.items (w.in_ok-proof_room.field-0 ∷ [])
            ∙ ap (λ n. n + 1) l.invariant.count ∙ sym (count_kept anchor first l.offset (sym c.begins_run.ensures ∙ w.if-begins_run.true));
        rooms = subst (λ v. All (λ room. HoldsAnswer anchor room.items) v.items) (sym w.rooms-is)
            (subst (λ xs. All (λ room. HoldsAnswer anchor room.items) xs) (sym w.in_ok-push.ensures.items)
            (All-push (λ room. HoldsAnswer anchor room.items) l.rooms.items w.in_ok-proof_room.field-0 l.invariant.rooms w.in_ok-proof_room.ensures));
      }
      | else-begins_run w ↦ record {
        count = ap (λ v. length v.items) w.rooms-is ∙ l.invariant.count ∙ sym (count_dropped anchor first l.offset (sym c.begins_run.ensures ∙ w.if-begins_run.false));
        rooms = subst (λ v. All (λ room. HoldsAnswer anchor room.items) v.items) (sym w.rooms-is) l.invariant.rooms;
      }
    ]
