use Rattle.std.proofs.Common.{[], ◌∷◌, ◌++◌, ◌+◌, length, sym, ap, ◌∙◌, subst, arith, All}
use Rattle.std.specs.List.{AllZip, range_with_len}
use Rattle.bt_hashreq.specs.Request.{planned_key}
use Rattle.bt_hashreq.specs.declared.key.HashKey.{HashKey}
use Rattle.bt_sparse.specs.Answer.{HasRoom}
use Rattle.bt_engine_state.specs.Pending.{PendingView}
use Rattle.bt_machine.specs.Hints.{add_hint}
use Rattle.bt_machine.specs.ProofKeys.{HasAnswer}
use Rattle.bt_machine.specs.Adopting.{IsProof}
use Rattle.bt_engine_after.specs.RunProofsSteps.{run_keys, HoldsAnswer}
use Rattle.bt_engine_after.proofs.Hints.{add_more}
use Rattle.bt_engine_after.proofs.RunMarks.{count_kept, count_dropped, count_left, keys_kept, keys_dropped, key_among, zip_more}
use Rattle.bt_engine_after.proofs.run_proofs.push_proofs.Goals as goal
use Rattle.bt_engine_after.proofs.run_proofs.push_proofs.Goals.{then-begins_run, else-begins_run}

pub push_proof-requires-clause-answered : goal.push_proof-requires-clause-answered
push_proof-requires-clause-answered g c =
    let on = sym c.begins_run.ensures ∙ c.if-begins_run.true in
    subst (λ (key : HashKey). HasAnswer g.H.NodeHash.digest c.args.tree.now key) (sym c.run_key.ensures)
    (c.requires.answered (planned_key c.args.tree.now (c.args.group.first + c.loop-offset.offset) c.args.anchor)
    (key_among c.args.anchor c.args.group.first c.loop-offset.offset c.args.group.count c.loop-offset-test.true c.args.tree.now on))

pub push_proof-requires-clause-some : goal.push_proof-requires-clause-some
push_proof-requires-clause-some g c =
    let on = sym c.begins_run.ensures ∙ c.if-begins_run.true in
    omega (arith, c.loop-offset.invariant.left, count_left c.args.anchor c.args.group.first c.loop-offset.offset c.args.group.count c.loop-offset-test.true on)

pub push_proof-requires-clause-room : goal.push_proof-requires-clause-room
push_proof-requires-clause-room g c =
    let on = sym c.begins_run.ensures ∙ c.if-begins_run.true in
    omega (arith, c.requires.room, c.loop-offset.invariant.room, c.loop-offset.invariant.left, count_left c.args.anchor c.args.group.first c.loop-offset.offset c.args.group.count c.loop-offset-test.true on)

pub loop-offset-preserved : goal.loop-offset-preserved
loop-offset-preserved g c =
    let l = c.loop-offset in
    let k = c.args.tree.now in
    let first = c.args.group.first in
    let anchor = c.args.anchor in
    let proves = IsProof g.H.NodeHash.digest c.args.tree.now in
    let (ps, zip, hints) = l.invariant.proofs in
    elim c.if-begins_run.branch [
      | then-begins_run w ↦
          let on = sym c.begins_run.ensures ∙ w.if-begins_run.true in
          let key = planned_key c.args.tree.now (c.args.group.first + c.loop-offset.offset) c.args.anchor in
          let p = w.push_proof.ensures.proof.0 in
          let is = subst (λ (key : HashKey). IsProof g.H.NodeHash.digest c.args.tree.now key w.push_proof.ensures.proof.0) w.run_key.ensures w.push_proof.ensures.proof.1 in
          record {
            proofs = (
              ps ++ p ∷ [],
              subst (λ keys. AllZip proves keys (ps ++ p ∷ [])) (sym (keys_kept anchor first l.offset k on)) (zip_more proves (run_keys k anchor (range_with_len first l.offset)) ps key p zip is),
              ap (λ (v : PendingView). v.hints) w.pending-is ∙ w.push_proof.ensures.proof.2 ∙ ap (λ hs. add_hint hs p) hints ∙ sym (add_more c.args.pending.now.hints ps (p ∷ [])),
            );
            left = omega (arith, ap (λ v. length v.items) w.rooms-is, w.push_proof.ensures.fewer, count_kept anchor first l.offset on, l.invariant.left);
            rooms = subst (λ v. All (λ room. HoldsAnswer anchor room.items) v.items) (sym w.rooms-is)
                (subst (λ (key : HashKey). All (λ room. HasRoom key.length key.layers room.items) w.push_proof.new.rooms.items) w.run_key.ensures w.push_proof.ensures.rooms);
            room = omega (arith, ap (λ v. length v.items) w.rooms-is, w.push_proof.ensures.fewer, ap (λ (v : PendingView). v.room) w.pending-is, w.push_proof.ensures.room, l.invariant.room);
          }
      | else-begins_run w ↦
          let off = sym c.begins_run.ensures ∙ w.if-begins_run.false in
          record {
            proofs = (
              ps,
              subst (λ keys. AllZip proves keys ps) (sym (keys_dropped anchor first l.offset k off)) zip,
              ap (λ (v : PendingView). v.hints) w.pending-is ∙ hints,
            );
            left = omega (arith, ap (λ v. length v.items) w.rooms-is, count_dropped anchor first l.offset off, l.invariant.left);
            rooms = subst (λ v. All (λ room. HoldsAnswer anchor room.items) v.items) (sym w.rooms-is) l.invariant.rooms;
            room = omega (arith, ap (λ v. length v.items) w.rooms-is, ap (λ (v : PendingView). v.room) w.pending-is, l.invariant.room);
          }
    ]
