use Rattle.std.proofs.Common.{[], ◌≡◌, ap, refl, ◌∙◌, get_or, get_or-set_same}
use Rattle.std.proofs.lemmas.List.{get_or_default}
use Rattle.bt_swarm.specs.declared.member.Member.{Member}
use Rattle.bt_swarm.proofs.Moving.{each_set}
use Rattle.bt_swarm.proofs.swarm.put_end_at.Goals as goal

pub returns-clause-moves : goal.returns-clause-moves
returns-clause-moves g c =
    let m = get_or c.args.members.now c.args.at c.index-members-at.result in
    each_set g.G.R.Read.remaining g.G.W.QueuedWriter.contents (λ k. []) (λ k. []) (λ k is. is ≡ c.args.end) c.args.members.now c.args.at m c.put_end.new.member c.requires
    (get_or_default c.args.members.now c.args.at c.index-members-at.result m c.requires) c.put_end.ensures.moves (λ j o lt apart. (refl, refl))

pub returns-clause-ended : goal.returns-clause-ended
returns-clause-ended g c d =
    ap (λ (o : Member g.row.G-R.Denot g.row.G-W.Denot). o.end) (get_or-set_same c.args.members.now c.args.at c.put_end.new.member d c.requires) ∙ c.put_end.ensures.ended
