use Rattle.std.proofs.Common.{◌≡◌, length, refl, ◌∙◌, arith, rules}
use Rattle.std.proofs.lemmas.List.{length-replicate}
use Rattle.bt_store.specs.declared.block_states.BlockState.TheVariants.{Marked}
use Rattle.bt_engine_state.specs.Parts.{file_of}
use Rattle.bt_engine_state.proofs.Recounts.{all_there, own_begun, all_done, between_begun, between_changes, between_more, between_passed, between_done}
use Rattle.bt_engine_state.proofs.recount.leave_out.Goals as goal

pub loop-block-init : goal.loop-block-init
loop-block-init g c = record { between = between_begun (length-replicate (length (file_of c.args.slot.now).states) Marked); peers = refl }

pub loop-block-preserved-then-eq : goal.loop-block-preserved-then-eq
loop-block-preserved-then-eq g c =
    let at = c.own_state-state.ensures in
    let stays : Marked ≡ c.own_state-state.result = first_of (cc, search rules) in
    record {
      between = between_passed c.loop-block.invariant.between at (all_there Marked (file_of c.args.slot.now).states c.loop-block.block at) stays;
      peers = c.loop-block.invariant.peers;
    }

pub follow_block-requires : goal.follow_block-requires
follow_block-requires g c =
    let at = c.own_state-state.ensures in
    between_changes c.loop-block.invariant.between at (all_there Marked (file_of c.args.slot.now).states c.loop-block.block at) c.requires.1 (own_begun c.requires.1 c.requires.2)

pub loop-block-preserved : goal.loop-block-preserved
loop-block-preserved g c =
    let at = c.own_state-state.ensures in
    record {
      between = between_more c.loop-block.invariant.between at (all_there Marked (file_of c.args.slot.now).states c.loop-block.block at) c.follow_block.ensures.followed;
      peers = c.follow_block.ensures.peers ∙ c.loop-block.invariant.peers;
    }

pub returns-clause-followed : goal.returns-clause-followed
returns-clause-followed g c = λ s of begun.
    all_done of Marked (between_done c.loop-block.invariant.between (omega (arith, c.blocks-count.ensures, c.loop-block-test.false, c.loop-block.auto.block-end)) of (own_begun of begun))
