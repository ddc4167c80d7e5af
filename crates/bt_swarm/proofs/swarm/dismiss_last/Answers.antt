use Rattle.std.proofs.Common.{[], ◌≡◌, ◌-◌, ◌<◌, List, ap, sym, subst, ◌∙◌, length, arith}
use Rattle.std.proofs.lemmas.List.{with_items_is}
use Rattle.bt_session.specs.Failures.{OneFailed}
use Rattle.bt_swarm.specs.declared.member.Member.{Member}
use Rattle.bt_swarm.specs.Moves.{EachMovesBy}
use Rattle.bt_swarm.specs.Swarm.{SwarmsOn, ReadFailedOrCut}
use Rattle.bt_swarm.proofs.Dismissing.{goes_dismissed}
use Rattle.bt_swarm.proofs.Keys.{keyed_goes}
use Rattle.bt_swarm.proofs.Going.{on_goes, on_left, on_trans}
use Rattle.bt_swarm.proofs.swarm.dismiss_last.Goals as goal

pub leave-requires-clause-keyed : goal.leave-requires-clause-keyed
leave-requires-clause-keyed g c =
    rw (with_items_is c.args.members.now c.put_end_at-end.new.members (c.put_end_at-end.ensures.moves.same_length ∙ c.as_mut_slice.ensures.len))
    (keyed_goes g.G.R.Read.remaining g.G.W.QueuedWriter.contents g.D.Disk.conduct g.H.NodeHash.digest (ReadFailedOrCut g.G.R.WatchedReader.has_failed g.G.Gate.is_troubled c.args.answer.now (g.G.Gate.waits c.args.gate.now)) (OneFailed g.G.W.QueuedWriter.has_failed) c.args.engine.now c.args.engine.now c.args.members.now.items c.put_end_at-end.new.members
    (goes_dismissed g.D.Disk.conduct g.H.NodeHash.digest (ReadFailedOrCut g.G.R.WatchedReader.has_failed g.G.Gate.is_troubled c.args.answer.now (g.G.Gate.waits c.args.gate.now)) (OneFailed g.G.W.QueuedWriter.has_failed) g.G.R.Read.remaining g.G.W.QueuedWriter.contents c.args.engine.now c.args.members.now.items c.put_end_at-end.new.members c.args.end c.requires.cause
    (subst (λ (l : List (Member g.row.G-R.Denot g.row.G-W.Denot)). EachMovesBy g.G.R.Read.remaining g.G.W.QueuedWriter.contents (λ k. []) (λ k. []) (λ k is. is ≡ c.args.end) l c.put_end_at-end.new.members) c.as_mut_slice.ensures.value c.put_end_at-end.ensures.moves))
    c.requires.keyed)

pub returns-clause-swarm : goal.returns-clause-swarm
returns-clause-swarm g c =
    let same : length c.put_end_at-end.new.members ≡ length c.args.members.now.items = c.put_end_at-end.ensures.moves.same_length ∙ ap length c.as_mut_slice.ensures.value in
    let within : c.len-at.result - 1 < length c.put_end_at-end.new.members = omega (arith, same, c.requires.some, c.len-at.ensures, c.args.members.now.ok.0) in
    on_trans g.D.Disk.conduct g.H.NodeHash.digest (ReadFailedOrCut g.G.R.WatchedReader.has_failed g.G.Gate.is_troubled c.args.answer.now (g.G.Gate.waits c.args.gate.now)) (OneFailed g.G.W.QueuedWriter.has_failed) g.G.Gate.gives g.G.R.Read.remaining g.G.W.QueuedWriter.contents g.G.Gate.leads g.met.G.Gate.leads_on _ _ _ _ _ _ _ _ _
    (subst (λ (l : List (Member g.row.G-R.Denot g.row.G-W.Denot)). SwarmsOn g.D.Disk.conduct g.H.NodeHash.digest (ReadFailedOrCut g.G.R.WatchedReader.has_failed g.G.Gate.is_troubled c.args.answer.now (g.G.Gate.waits c.args.gate.now)) (OneFailed g.G.W.QueuedWriter.has_failed) g.G.Gate.gives g.G.R.Read.remaining g.G.W.QueuedWriter.contents g.G.Gate.leads c.args.engine.now c.args.members.now.items c.args.gate.now c.args.engine.now l c.args.gate.now)
    (sym (with_items_is c.args.members.now c.put_end_at-end.new.members (c.put_end_at-end.ensures.moves.same_length ∙ c.as_mut_slice.ensures.len)))
    (on_goes g.D.Disk.conduct g.H.NodeHash.digest (ReadFailedOrCut g.G.R.WatchedReader.has_failed g.G.Gate.is_troubled c.args.answer.now (g.G.Gate.waits c.args.gate.now)) (OneFailed g.G.W.QueuedWriter.has_failed) g.G.Gate.gives g.G.R.Read.remaining g.G.W.QueuedWriter.contents g.G.Gate.leads c.args.engine.now c.args.engine.now c.args.members.now.items c.put_end_at-end.new.members c.args.gate.now c.args.gate.now (g.met.G.Gate.leads_nowhere c.args.gate.now)
    (goes_dismissed g.D.Disk.conduct g.H.NodeHash.digest (ReadFailedOrCut g.G.R.WatchedReader.has_failed g.G.Gate.is_troubled c.args.answer.now (g.G.Gate.waits c.args.gate.now)) (OneFailed g.G.W.QueuedWriter.has_failed) g.G.R.Read.remaining g.G.W.QueuedWriter.contents c.args.engine.now c.args.members.now.items c.put_end_at-end.new.members c.args.end c.requires.cause
    (subst (λ (l : List (Member g.row.G-R.Denot g.row.G-W.Denot)). EachMovesBy g.G.R.Read.remaining g.G.W.QueuedWriter.contents (λ k. []) (λ k. []) (λ k is. is ≡ c.args.end) l c.put_end_at-end.new.members) c.as_mut_slice.ensures.value c.put_end_at-end.ensures.moves))))
    (on_left g.D.Disk.conduct g.H.NodeHash.digest (ReadFailedOrCut g.G.R.WatchedReader.has_failed g.G.Gate.is_troubled c.args.answer.now (g.G.Gate.waits c.args.gate.now)) (OneFailed g.G.W.QueuedWriter.has_failed) g.G.Gate.gives g.G.R.Read.remaining g.G.W.QueuedWriter.contents g.G.Gate.leads _ c.put_end_at-end.result _ _ _ _ _ _ c.leave.ensures.left
    (subst (λ (l : List (Member g.row.G-R.Denot g.row.G-W.Denot)). c.len-at.result - 1 < length l) (sym (with_items_is c.args.members.now c.put_end_at-end.new.members (c.put_end_at-end.ensures.moves.same_length ∙ c.as_mut_slice.ensures.len))) within)
    (λ d. rw (with_items_is c.args.members.now c.put_end_at-end.new.members (c.put_end_at-end.ensures.moves.same_length ∙ c.as_mut_slice.ensures.len)) (c.put_end_at-end.ensures.ended d)))

pub returns-clause-shorter : goal.returns-clause-shorter
returns-clause-shorter g c =
    c.leave.ensures.shorter
    ∙ ap length (with_items_is c.args.members.now c.put_end_at-end.new.members (c.put_end_at-end.ensures.moves.same_length ∙ c.as_mut_slice.ensures.len))
    ∙ c.put_end_at-end.ensures.moves.same_length ∙ ap length c.as_mut_slice.ensures.value
