use Rattle.std.proofs.Common.{[], ◌∷◌, ◌++◌, take, take_all, ap, sym, ◌∙◌, arith}
use Rattle.std.proofs.lemmas.List.{take_more}
use Rattle.bt_session.specs.Frames.{spellings, frames_to}
use Rattle.bt_session.proofs.FrameLists.{spelled_more, spelled_other}
use Rattle.bt_swarm.proofs.frames.spell_frames.Goals as goal
use Rattle.bt_swarm.proofs.frames.spell_frames.Goals.{then-eq+in_ok-spell, else-eq}

pub spell-requires : goal.spell-requires
spell-requires c = record { fits = c.requires.fit c.loop-to-item.result (c.loop-to.to-index, c.loop-to-test.true, sym c.loop-to-item.is) }

pub loop-to-preserved : goal.loop-to-preserved
loop-to-preserved c =
    let more =
    take_more c.args.send.now c.loop-to.to-index c.loop-to-item.result c.loop-to-test.true
    ∙ ap (λ s. take c.loop-to.to-index c.args.send.now ++ s ∷ []) (sym c.loop-to-item.is) in
    elim c.if-eq.branch [
      | then-eq+in_ok-spell w ↦ rw w.buffer-is record {
        spelled = spelled_more c.args.key _ _ c.loop-to-item.result _ _ c.loop-to.invariant.spelled more (sym c.eq.ensures ∙ w.if-eq.true) w.in_ok-spell.ensures.spelled;
        capacity = omega (arith, c.loop-to.invariant.capacity, w.in_ok-spell.ensures.capacity);
      }
      | else-eq w ↦ rw w.buffer-is record {
        spelled = spelled_other c.args.key _ _ c.loop-to-item.result _ c.loop-to.invariant.spelled more (sym c.eq.ensures ∙ w.if-eq.false);
        capacity = c.loop-to.invariant.capacity;
      }
    ]

pub returns-clause-spelled : goal.returns-clause-spelled
returns-clause-spelled c =
    let all = take_all c.loop-to.to-index c.args.send.now (omega (arith, c.loop-to-test.false)) in
    c.loop-to.invariant.spelled ∙ ap (λ s. spellings (frames_to c.args.key s)) all
