use Rattle.std.proofs.Common.{[], ◌<◌, get_or, length, arith}
use Rattle.std.proofs.lemmas.List.{get_or_default}
use Rattle.bt_swarm.specs.Causes.{IsFaultOf}
use Rattle.bt_swarm.proofs.Moving.{gone_over_more, others_more}
use Rattle.bt_swarm.proofs.member.pass_on.Goals as goal

pub loop-member-preserved : goal.loop-member-preserved
loop-member-preserved g c =
    let so_far = c.loop-member.invariant in
    let within : c.loop-member.member-index < length c.loop-member.members = omega arith in
    let m = get_or c.loop-member.members c.loop-member.member-index c.member-item.result in
    record {
      gone_over = gone_over_more g.G.R.Read.remaining g.G.W.QueuedWriter.contents (λ k. []) (IsFaultOf g.G.R.WatchedReader.has_failed g.G.W.QueuedWriter.has_failed g.G.Gate.is_troubled) c.args.members.now c.loop-member.members c.loop-member.member-index
          m c.tend.new.member within (get_or_default c.loop-member.members c.loop-member.member-index c.member-item.result m within) so_far.others c.tend.ensures so_far.gone_over;
      others = others_more g.G.R.Read.remaining g.G.W.QueuedWriter.contents c.args.members.now c.loop-member.members c.loop-member.member-index c.tend.new.member so_far.others;
    }
