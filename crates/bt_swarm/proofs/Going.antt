-- A swarm goes on, and its gate with it: by one call after the other.
use Rattle.std.proofs.Common.{[], ◌≡◌, ℕ, ◌<◌, List, ◌∷◌, ◌++◌, Option, Some, None, Ok, refl, sym, ap, ◌∙◌, subst, length, get_or, append-nil, append_assoc}
use Rattle.bt_disk.specs.Conduct.{Conduct}
use Rattle.bt_book.specs.declared.names.PeerKey.{PeerKey}
use Rattle.bt_machine.specs.declared.event.Event.TheVariants.{Connect, Lost, Next}
use Rattle.bt_machine.specs.declared.event.Answer.TheVariants.{Connected}
use Rattle.bt_machine.specs.Output.{Output, Sent}
use Rattle.bt_machine.specs.State.{EngineView}
use Rattle.bt_session.specs.declared.end.SessionEnd.{SessionEnd}
use Rattle.bt_session.specs.declared.end.SessionEnd.TheVariants.{Memory}
use Rattle.bt_session.specs.Frames.{frames_to}
use Rattle.bt_swarm.specs.declared.member.Member.{Member}
use Rattle.bt_swarm.specs.Runs.{none, one_more}
use Rattle.bt_swarm.specs.Steps.{Steps}
use Rattle.bt_swarm.specs.Causes.{IsFault}
use Rattle.bt_swarm.specs.Moves.{EachMovesBy, GoesOn}
use Rattle.bt_swarm.specs.Passing.{Passing, came, went}
use Rattle.bt_swarm.specs.Swarm.{HasSwarmed, SwarmsOn, HasLeft, HasServed}
use Rattle.bt_swarm.proofs.Causing.{runs_trans}
use Rattle.bt_swarm.proofs.Moving.{goes_nowhere}
use Rattle.bt_swarm.proofs.Swarming.{swarm_begins, swarm_goes, swarm_refuses, swarm_delivers, swarm_leaves, swarm_more}

lost_no_next : (key k : PeerKey) → Lost key ≡ Next k → ⊥
lost_no_next key k same = cc

module _ {D R W G : Type 0} (conduct : Conduct D) (dig : List ℕ → List ℕ) (read_fault write_fault : Type 0) (gives : R → W → Type 0) (remaining : R → Option (List ℕ)) (contents : W → Option (List ℕ))
    (leads : G → List Passing → G → Type 0) where
  -- events happen, by which nobody comes or goes
  pub on_goes : (a b : EngineView D) (x y : List (Member R W)) (g h : G) → leads g [] h → GoesOn conduct dig read_fault write_fault remaining contents a x b y
      → SwarmsOn conduct dig read_fault write_fault gives remaining contents leads a x g b y h
  on_goes a b x y g h led goes = record {
    passed = [];
    led = led;
    history = goes.history;
    runs = goes.runs;
    goes_on = λ first so_far s. subst (λ (l : List Passing). HasSwarmed conduct dig read_fault write_fault gives remaining contents first l b y) (sym (append-nil so_far))
        (swarm_goes conduct dig read_fault write_fault gives remaining contents first so_far a b x y goes s);
  }

  -- nothing happens
  pub on_nowhere : (a : EngineView D) (x : List (Member R W)) (g h : G) → leads g [] h → SwarmsOn conduct dig read_fault write_fault gives remaining contents leads a x g a x h
  on_nowhere a x g h led = on_goes a a x x g h led (goes_nowhere remaining contents conduct dig read_fault write_fault a x)

  -- one after the other
  pub on_trans : ((p q r : G) (k l : List Passing) → leads p k q → leads q l r → leads p (k ++ l) r) → (a b c : EngineView D) (x y z : List (Member R W)) (g h i : G)
      → SwarmsOn conduct dig read_fault write_fault gives remaining contents leads a x g b y h → SwarmsOn conduct dig read_fault write_fault gives remaining contents leads b y h c z i
      → SwarmsOn conduct dig read_fault write_fault gives remaining contents leads a x g c z i
  on_trans leads_on a b c x y z g h i p q = record {
    passed = p.passed ++ q.passed;
    led = leads_on g h i p.passed q.passed p.led q.led;
    history = p.history ++ q.history;
    runs = runs_trans (Steps conduct dig) a b c p.history q.history p.runs q.runs;
    goes_on = λ first so_far s. subst (λ (l : List Passing). HasSwarmed conduct dig read_fault write_fault gives remaining contents first l c z) (append_assoc so_far p.passed q.passed)
        (q.goes_on first (so_far ++ p.passed) (p.goes_on first so_far s));
  }

  -- one comes, and what is sent then goes to all that are there
  pub on_joins : (place : ℕ) (a b : EngineView D) (x pushed y : List (Member R W)) (m : Member R W) (out : Output) (send : List Sent) (g h : G)
      → Steps conduct dig a Connect (Connected (Ok (m.key, out))) b → gives m.reader m.writer → m.end ≡ None → m.place ≡ place
      → pushed ≡ x ++ m ∷ [] → send ≡ out.send
      → EachMovesBy remaining contents (λ k. []) (λ k. frames_to k send) (λ k. IsFault read_fault write_fault) pushed y → leads g (came place ∷ []) h
      → SwarmsOn conduct dig read_fault write_fault gives remaining contents leads a x g b y h
  on_joins place a b x pushed y m out send g h s given fresh at are same q led = record {
    passed = came place ∷ [];
    led = led;
    history = (Connect, Connected (Ok (m.key, out))) ∷ [];
    runs = one_more [] Connect (Connected (Ok (m.key, out))) a b none s;
    goes_on = λ first so_far p. subst (λ (n : ℕ). HasSwarmed conduct dig read_fault write_fault gives remaining contents first (so_far ++ came n ∷ []) b y) at
        (swarm_delivers conduct dig read_fault write_fault gives remaining contents first so_far a b x pushed y m out send s given fresh are same q p);
  }

  -- one comes that is refused
  pub on_refuses : (place : ℕ) (a b : EngineView D) (x y : List (Member R W)) (g h : G) → leads g (came place ∷ went place Memory ∷ []) h
      → GoesOn conduct dig read_fault write_fault remaining contents a x b y
      → SwarmsOn conduct dig read_fault write_fault gives remaining contents leads a x g b y h
  on_refuses place a b x y g h led goes = record {
    passed = came place ∷ went place Memory ∷ [];
    led = led;
    history = goes.history;
    runs = goes.runs;
    goes_on = λ first so_far s. swarm_refuses conduct dig read_fault write_fault gives remaining contents first so_far place b y
        (swarm_goes conduct dig read_fault write_fault gives remaining contents first so_far a b x y goes s);
  }

  -- one that has ended goes
  pub on_left : (i : ℕ) (end : SessionEnd) (a b : EngineView D) (x y : List (Member R W)) (g h : G) → HasLeft conduct dig leads i end a x g b y h
      → i < length x → ((d : Member R W) → (get_or x i d).end ≡ Some end) → SwarmsOn conduct dig read_fault write_fault gives remaining contents leads a x g b y h
  on_left i end a b x y g h l within ended = record {
    passed = went l.member.place end ∷ [];
    led = l.led;
    history = _;
    runs = one_more [] _ _ a b none l.step;
    goes_on = λ first so_far s. swarm_leaves conduct dig read_fault write_fault gives remaining contents first so_far a b x y i l.member end _ _ l.step refl (λ k. refl) (λ k. refl) (λ k out why is. absurd (lost_no_next l.member.key k is))
        within l.was (ap (λ (o : Member R W). o.end) l.was ∙ ended l.member) l.others s;
  }

module _ {D R W G : Type 0} (conduct : Conduct D) (dig : List ℕ → List ℕ) (read_fault write_fault more_reads more_writes : Type 0)
    (reads : read_fault → more_reads) (writes : write_fault → more_writes) (gives : R → W → Type 0) (remaining : R → Option (List ℕ)) (contents : W → Option (List ℕ))
    (leads : G → List Passing → G → Type 0) where
  -- where more faults may be told
  pub served_more : (a b : EngineView D) (g h : G) → HasServed conduct dig read_fault write_fault gives remaining contents leads a g b h
      → HasServed conduct dig more_reads more_writes gives remaining contents leads a g b h
  served_more a b g h s = record {
    passed = s.passed;
    led = s.led;
    swarmed = swarm_more conduct dig read_fault write_fault more_reads more_writes reads writes gives remaining contents a s.passed b [] s.swarmed;
  }

  -- rounds from nobody on, and then all go
  pub served : ((p q r : G) (k l : List Passing) → leads p k q → leads q l r → leads p (k ++ l) r) → (a b c : EngineView D) (x z y : List (Member R W)) (g h i : G) → x ≡ [] → y ≡ []
      → SwarmsOn conduct dig read_fault write_fault gives remaining contents leads a x g b z h
      → SwarmsOn conduct dig more_reads more_writes gives remaining contents leads b z h c y i
      → HasServed conduct dig more_reads more_writes gives remaining contents leads a g c i
  served leads_on a b c x z y g h i nobody none_left p q =
      let begun = subst (λ (l : List (Member R W)). HasSwarmed conduct dig read_fault write_fault gives remaining contents a [] a l) (sym nobody)
      (swarm_begins conduct dig read_fault write_fault gives remaining contents a) in
      record {
        passed = p.passed ++ q.passed;
        led = leads_on g h i p.passed q.passed p.led q.led;
        swarmed = subst (λ (l : List (Member R W)). HasSwarmed conduct dig more_reads more_writes gives remaining contents a (p.passed ++ q.passed) c l) none_left
            (q.goes_on a p.passed (swarm_more conduct dig read_fault write_fault more_reads more_writes reads writes gives remaining contents a p.passed b z (p.goes_on a [] begun)));
      }

-- and events by which nobody comes or goes
pub served_on : {D R W G : Type 0} (conduct : Conduct D) (dig : List ℕ → List ℕ) (read_fault write_fault : Type 0) (gives : R → W → Type 0) (remaining : R → Option (List ℕ))
    (contents : W → Option (List ℕ)) (leads : G → List Passing → G → Type 0) (a b c : EngineView D) (g h : G) → GoesOn conduct dig read_fault write_fault remaining contents b [] c []
    → HasServed conduct dig read_fault write_fault gives remaining contents leads a g b h
    → HasServed conduct dig read_fault write_fault gives remaining contents leads a g c h
served_on conduct dig read_fault write_fault gives remaining contents leads a b c g h goes s = record {
  passed = s.passed;
  led = s.led;
  swarmed = swarm_goes conduct dig read_fault write_fault gives remaining contents a s.passed b c [] [] goes s.swarmed;
}
