use Rattle.std.proofs.Common.{refl, ap, ◌∙◌, ◌+◌, length}
use Rattle.std.proofs.lemmas.List.Edits.{length-remove}
use Rattle.bt_swarm.proofs.Keys.{keyed_removed, step_keeps}
use Rattle.bt_swarm.proofs.swarm.leave.Goals as goal

pub returns-clause-keyed : goal.returns-clause-keyed
returns-clause-keyed g c =
    let kept = step_keeps g.D.Disk.conduct g.H.NodeHash.digest _ _ _ _ c.lost.ensures.step refl in
    keyed_removed _ _ c.args.members.now.items c.remove-member.new.self.items c.args.at c.remove-member.result
    (ap (λ l. length l + 1) c.remove-member.ensures.items ∙ length-remove c.args.members.now.items c.args.at c.requires.within) c.requires.within
    c.remove-member.ensures.by_index.0 c.remove-member.ensures.by_index.1 c.remove-member.ensures.by_index.2 c.remove-member.ensures.value kept.0 kept.1
    c.lost.ensures.away c.requires.keyed

pub returns-clause-left : goal.returns-clause-left
returns-clause-left g c = record {
  member = c.remove-member.result;
  was = c.remove-member.ensures.value;
  others = c.remove-member.ensures.by_index.2;
  answer = c.lost.result;
  step = c.lost.ensures.step;
  led = c.tell.ensures.led;
}

pub returns-clause-shorter : goal.returns-clause-shorter
returns-clause-shorter g c = ap (λ l. length l + 1) c.remove-member.ensures.items ∙ length-remove c.args.members.now.items c.args.at c.requires.within
