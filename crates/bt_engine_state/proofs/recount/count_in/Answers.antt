use Rattle.std.proofs.Common.{◌≡◌, length, refl, sym, ◌∙◌, arith, rules}
use Rattle.std.proofs.lemmas.List.{length-replicate}
use Rattle.bt_engine_state.specs.Parts.{file_of}
use Rattle.bt_engine_state.proofs.Recounts.{all_there, own_done, all_begun, between_begun, between_changes, between_more, between_passed, between_done}
use Rattle.bt_engine_state.proofs.recount.count_in.Goals as goal

pub loop-block-init : goal.loop-block-init
loop-block-init g c = record { between = between_begun (sym (length-replicate (length (file_of c.args.slot.now).states) c.args.was)); peers = refl }

pub loop-block-preserved-then-eq : goal.loop-block-preserved-then-eq
loop-block-preserved-then-eq g c =
    let at = c.own_state-state.ensures in
    let stays : c.own_state-state.result ≡ c.args.was = first_of (cc, search rules) in
    record {
      between = between_passed c.loop-block.invariant.between (all_there c.args.was (file_of c.args.slot.now).states c.loop-block.block at) at stays;
      peers = c.loop-block.invariant.peers;
    }

pub follow_block-requires : goal.follow_block-requires
follow_block-requires g c =
    let at = c.own_state-state.ensures in
    between_changes c.loop-block.invariant.between (all_there c.args.was (file_of c.args.slot.now).states c.loop-block.block at) at c.requires.1 (all_begun c.requires.1 c.args.was c.requires.2)

pub loop-block-preserved : goal.loop-block-preserved
loop-block-preserved g c =
    let at = c.own_state-state.ensures in
    record {
      between = between_more c.loop-block.invariant.between (all_there c.args.was (file_of c.args.slot.now).states c.loop-block.block at) at c.follow_block.ensures.followed;
      peers = c.follow_block.ensures.peers ∙ c.loop-block.invariant.peers;
    }

pub returns-clause-followed : goal.returns-clause-followed
returns-clause-followed g c = λ s of begun.
    let size = length-replicate (length (file_of c.args.slot.now).states) c.args.was in
    own_done of (between_done c.loop-block.invariant.between (size ∙ omega (arith, c.blocks-count.ensures, c.loop-block-test.false, c.loop-block.auto.block-end)) of (all_begun of c.args.was begun))
