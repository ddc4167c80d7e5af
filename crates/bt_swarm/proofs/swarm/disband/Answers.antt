use Rattle.std.proofs.Common.{[], ◌≡◌, ◌≢◌, ◌<◌, ◌∷◌, inl, inr, ℕ, List, length, refl, ap, sym, subst, ◌∙◌, arith}
use Rattle.bt_session.specs.Failures.{OneFailed}
use Rattle.bt_swarm.specs.Causes.{MayEndAll}
use Rattle.bt_swarm.specs.Swarm.{SwarmsOn, ReadFailedOrCut}
use Rattle.bt_swarm.proofs.Going.{on_nowhere, on_trans}
use Rattle.bt_swarm.proofs.swarm.disband.Goals as goal

empty : {A : Type 0} (x : List A) → length x ≡ 0 → x ≡ []
empty [] none = refl
empty (a ∷ x) none = absurd (omega (arith, none))

not_empty : {A : Type 0} (x : List A) → 0 < length x → x ≢ []
not_empty x some none = let zero : length x ≡ 0 = ap length none in omega (arith, some, zero)

pub loop-gone-init : goal.loop-gone-init
loop-gone-init g c = record {
  keyed = c.requires.keyed;
  swarm = on_nowhere g.D.Disk.conduct g.H.NodeHash.digest (ReadFailedOrCut g.G.R.WatchedReader.has_failed g.G.Gate.is_troubled c.args.answer.now (g.G.Gate.waits c.args.gate.now)) (OneFailed g.G.W.QueuedWriter.has_failed) g.G.Gate.gives g.G.R.Read.remaining g.G.W.QueuedWriter.contents g.G.Gate.leads c.args.engine.now c.args.members.now.items c.args.gate.now c.args.gate.now (g.met.G.Gate.leads_nowhere c.args.gate.now);
  waits = refl;
  complete = refl;
  shut = λ is. is;
  fewer = omega arith;
  still = λ none. refl;
}

pub dismiss_last-requires-clause-cause : goal.dismiss_last-requires-clause-cause
dismiss_last-requires-clause-cause g c =
    let some : 0 < length c.args.members.now.items = omega (arith, c.loop-gone-test.true, c.len-gone-end.ensures, c.args.members.now.ok.0) in
    subst (λ (n : ℕ). MayEndAll (ReadFailedOrCut g.G.R.WatchedReader.has_failed g.G.Gate.is_troubled c.args.answer.now n) (OneFailed g.G.W.QueuedWriter.has_failed) c.loop-gone.engine c.args.end) (sym c.loop-gone.invariant.waits)
    (elim (c.requires.cause (not_empty c.args.members.now.items some)) [ inl fault ↦ inl fault | inr all ↦ inr (all.0, c.loop-gone.invariant.complete ∙ all.1) ])

pub loop-gone-preserved : goal.loop-gone-preserved
loop-gone-preserved g c =
    let inv = c.loop-gone.invariant in record {
      keyed = c.dismiss_last.ensures.keyed;
      swarm = on_trans g.D.Disk.conduct g.H.NodeHash.digest (ReadFailedOrCut g.G.R.WatchedReader.has_failed g.G.Gate.is_troubled c.args.answer.now (g.G.Gate.waits c.args.gate.now)) (OneFailed g.G.W.QueuedWriter.has_failed) g.G.Gate.gives g.G.R.Read.remaining g.G.W.QueuedWriter.contents g.G.Gate.leads g.met.G.Gate.leads_on _ _ _ _ _ _ _ _ _ inv.swarm
          (subst (λ (n : ℕ). SwarmsOn g.D.Disk.conduct g.H.NodeHash.digest (ReadFailedOrCut g.G.R.WatchedReader.has_failed g.G.Gate.is_troubled c.args.answer.now n) (OneFailed g.G.W.QueuedWriter.has_failed) g.G.Gate.gives g.G.R.Read.remaining g.G.W.QueuedWriter.contents g.G.Gate.leads c.loop-gone.engine c.loop-gone.members.items c.loop-gone.gate
          c.dismiss_last.new.engine c.dismiss_last.new.members.items c.dismiss_last.new.gate) inv.waits c.dismiss_last.ensures.swarm);
      waits = c.dismiss_last.ensures.waits ∙ inv.waits;
      complete = c.dismiss_last.ensures.complete ∙ inv.complete;
      shut = λ is. c.dismiss_last.ensures.shut (inv.shut is);
      fewer = omega (arith, inv.fewer, c.dismiss_last.ensures.shorter);
      still = λ none. absurd (omega (arith, none));
    }

pub returns : goal.returns
returns g c =
    let inv = c.loop-gone.invariant in record {
      keyed = inv.keyed;
      swarm = inv.swarm;
      nobody = empty c.loop-gone.members.items (omega (arith, inv.fewer, c.loop-gone-test.false, c.len-gone-end.ensures, c.args.members.now.ok.0));
      still = λ none. let zero : length c.args.members.now.items ≡ 0 = ap length none in inv.still (omega (arith, inv.fewer, zero));
      complete = inv.complete;
      waits = inv.waits;
      shut = inv.shut;
    }
