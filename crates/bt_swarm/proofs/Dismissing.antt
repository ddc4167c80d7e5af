-- All are told to end, since rounds were cut short or all files are complete.
use Rattle.std.proofs.Common.{[], ◌≡◌, ℕ, List, Option, sym, subst, inl, inr}
use Rattle.bt_disk.specs.Conduct.{Conduct}
use Rattle.bt_book.specs.declared.names.PeerKey.{PeerKey}
use Rattle.bt_machine.specs.State.{EngineView}
use Rattle.bt_session.specs.declared.end.SessionEnd.{SessionEnd}
use Rattle.bt_swarm.specs.declared.member.Member.{Member}
use Rattle.bt_swarm.specs.Causes.{HasCause, MayEndAll}
use Rattle.bt_swarm.specs.Moves.{EachMovesBy, GoesOn}
use Rattle.bt_swarm.proofs.Causing.{fault_cause, complete_cause}
use Rattle.bt_swarm.proofs.Moving.{goes_still}

module _ {D : Type 0} (conduct : Conduct D) (dig : List ℕ → List ℕ) (read_fault write_fault : Type 0) where
  end_cause : (now : EngineView D) (key : PeerKey) (end : SessionEnd) → MayEndAll read_fault write_fault now end → HasCause conduct dig read_fault write_fault now [] key end
  end_cause now key end (inl fault) = fault_cause conduct dig read_fault write_fault now [] key end fault
  end_cause now key end (inr all) = subst (HasCause conduct dig read_fault write_fault now [] key) (sym all.0) (complete_cause conduct dig read_fault write_fault now key all.1)

  pub goes_dismissed : {R W : Type 0} (remaining : R → Option (List ℕ)) (contents : W → Option (List ℕ)) (a : EngineView D) (x y : List (Member R W)) (end : SessionEnd)
      → MayEndAll read_fault write_fault a end → EachMovesBy remaining contents (λ k. []) (λ k. []) (λ k is. is ≡ end) x y
      → GoesOn conduct dig read_fault write_fault remaining contents a x a y
  goes_dismissed remaining contents a x y end cause moves =
      goes_still remaining contents conduct dig read_fault write_fault a (λ k is. is ≡ end) x y
      (λ k is same. subst (HasCause conduct dig read_fault write_fault a [] k) (sym same) (end_cause a k end cause)) moves
