-- Keys stay apart, and each peer of the machine is one of those that are there.
use Rattle.std.proofs.Common.{[], ◌≡◌, ◌≢◌, ℕ, ◌<◌, ◌≤◌, ◌+◌, List, ◌∷◌, ◌++◌, Option, Ok, Err, append-nil, refl, sym, ap, ◌∙◌, subst, length, length-append, get_or, take, drop, arith, ◌⊎◌, inl, inr}
use Rattle.std.proofs.lemmas.List.{get_or_append_left, get_or_push, take-append-drop, drop_more}
use Rattle.std.proofs.lemmas.List.Elements.{Contains-get_or, Contains-append_left, Contains-append_right, Contains-append_cases, Contains-push_cases, Contains-push}
use Rattle.std.proofs.lemmas.Bool.{cases_lt}
use Rattle.std.proofs.lemmas.Grind.{flat_map-append}
use Rattle.std.specs.Prelude.{Contains}
use Rattle.std.specs.List.{SameBelow, ShiftedDown}
use Rattle.bt_disk.specs.Conduct.{Conduct}
use Rattle.bt_book.specs.declared.names.PeerKey.{PeerKey}
use Rattle.bt_machine.specs.declared.answer.Frame.{Frame}
use Rattle.bt_machine.specs.declared.event.Event.{Event}
use Rattle.bt_machine.specs.declared.event.Event.TheVariants.{Connect}
use Rattle.bt_machine.specs.declared.event.Answer.{Answer}
use Rattle.bt_machine.specs.declared.event.Answer.TheVariants.{Connected, Fed, Stepped, Lost, Rechoked, Adopted, Flushed, Restarted}
use Rattle.bt_machine.specs.Output.{Output}
use Rattle.bt_machine.specs.State.{PeerState, EngineState, EngineView}
use Rattle.bt_session.specs.declared.end.SessionEnd.{SessionEnd}
use Rattle.bt_swarm.specs.declared.member.Member.{Member}
use Rattle.bt_swarm.specs.Runs.{Happening, Runs, none, one_more, fed_in, frames_in, joined_by, joined_in}
use Rattle.bt_swarm.specs.Causes.{HasCause}
use Rattle.bt_swarm.specs.Steps.{AreFrom, GivesKey, Steps}
use Rattle.bt_swarm.specs.Moves.{EachMovesBy, GoesOn, AreKeyed, IsHere}
use Rattle.bt_swarm.proofs.Moving.{own_keys_kept}

-- the one element of a list is that which it has
pub only_member : {A : Type 0} (a b : A) → Contains (a ∷ []) b → a ≡ b
only_member a b h = elim (Contains-push_cases [] a b h) [ inl before ↦ absurd (let lt = before.1 in omega arith) | inr is ↦ is ]

-- ---- over events by which nobody comes

pub from_same : (s : EngineState) → AreFrom s s.peers
from_same s p among = (p, among, refl)

from_trans : (a b c : EngineState) → AreFrom a b.peers → AreFrom b c.peers → AreFrom a c.peers
from_trans a b c p q r among =
    let next = q r among in
    let first = p next.0 next.1 in
    (first.0, first.1, first.2 ∙ next.2)

-- an answer that gives out no key
keeps_key : (a b : EngineState) (answer : Answer) → joined_by answer ≡ [] → GivesKey a answer b → (a.next_key ≤ b.next_key) × AreFrom a b.peers
keeps_key a b (Connected (Ok joined)) no_key h = absurd cc
keeps_key a b (Connected (Err e)) no_key h = h
keeps_key a b (Fed r) no_key h = h
keeps_key a b (Stepped r) no_key h = h
keeps_key a b (Lost r) no_key h = h
keeps_key a b (Rechoked r) no_key h = h
keeps_key a b (Adopted r) no_key h = h
keeps_key a b (Flushed r) no_key h = h
keeps_key a b (Restarted r) no_key h = h

module _ {D : Type 0} (conduct : Conduct D) (dig : List ℕ → List ℕ) where
  pub step_keeps : (a b : EngineView D) (event : Event) (answer : Answer) → Steps conduct dig a event answer b → joined_by answer ≡ []
      → (a.state.next_key ≤ b.state.next_key) × AreFrom a.state b.state.peers
  step_keeps a b event answer s no_key = keeps_key a.state b.state answer no_key s.keys

  run_keeps : (a b : EngineView D) (history : List Happening) → Runs (Steps conduct dig) a history b → joined_in history ≡ []
      → (a.state.next_key ≤ b.state.next_key) × AreFrom a.state b.state.peers
  run_keeps a b history none no_key = (omega arith, from_same a.state)
  run_keeps a b history (one_more so_far event answer mid now p s) no_key =
      let parts : joined_in so_far ++ (joined_by answer ++ []) ≡ [] = sym (flat_map-append (λ (h : Happening). joined_by h.1) so_far ((event, answer) ∷ [])) ∙ no_key in
      let first = run_keeps a mid so_far p (front_none _ _ parts) in
      let last = step_keeps mid b event answer s (sym (append-nil (joined_by answer)) ∙ back_none _ _ parts) in
      (omega (arith, first.0, last.0), from_trans a.state mid.state b.state first.1 last.1)
    where
      front_none : (x y : List PeerKey) → x ++ y ≡ [] → x ≡ []
      front_none [] y e = refl
      front_none (k ∷ x) y e = absurd cc

      back_none : (x y : List PeerKey) → x ++ y ≡ [] → y ≡ []
      back_none [] y e = e
      back_none (k ∷ x) y e = absurd cc

-- ---- those that are there

module _ {R W : Type 0} (remaining : R → Option (List ℕ)) (contents : W → Option (List ℕ)) where
  pub here_on : (b : PeerKey → List ℕ) (f : PeerKey → List Frame) (may : PeerKey → SessionEnd → Type 0) (x y : List (Member R W)) (key : PeerKey)
      → EachMovesBy remaining contents b f may x y → IsHere key x → IsHere key y
  here_on b f may x y key p h =
      let m = h.0 in
      let i = h.1.0 in
      let ly : i < length y = subst (λ (n : ℕ). i < n) (sym p.same_length) h.1.1 in
      (get_or y i m, Contains-get_or y i m ly, (p.each i m h.1.1).same_key ∙ ap (λ (o : Member R W). o.key) h.1.2 ∙ h.2)

  pub keyed_kept : (b : PeerKey → List ℕ) (f : PeerKey → List Frame) (may : PeerKey → SessionEnd → Type 0) (s t : EngineState) (x y : List (Member R W))
      → EachMovesBy remaining contents b f may x y → s.next_key ≤ t.next_key → AreFrom s t.peers → AreKeyed s x → AreKeyed t y
  keyed_kept b f may s t x y p le from k = record {
    own = own_keys_kept remaining contents b f may x y p k.own;
    below = λ i d lt.
        let lx : i < length x = subst (λ (l : ℕ). i < l) p.same_length lt in
        let same = ap (λ (o : PeerKey). o.0) (p.each i d lx).same_key in
        let lower = k.below i d lx in
        omega (arith, same, lower, le);
    held = λ q among.
        let was = from q among in
        here_on b f may x y q.key p (subst (λ (key : PeerKey). IsHere key x) was.2 (k.held was.0 was.1));
  }

  module _ {D : Type 0} (conduct : Conduct D) (dig : List ℕ → List ℕ) (read_fault write_fault : Type 0) where
    pub keyed_goes : (a b : EngineView D) (x y : List (Member R W)) → GoesOn conduct dig read_fault write_fault remaining contents a x b y → AreKeyed a.state x → AreKeyed b.state y
    keyed_goes a b x y g k =
        let kept = run_keeps conduct dig a b g.history g.runs g.none_joined in
        keyed_kept (λ key. fed_in key g.history) (λ key. frames_in key g.history)
        (λ key. HasCause conduct dig read_fault write_fault a g.history key) a.state b.state x y g.moves kept.0 kept.1 k

module _ {R W : Type 0} where
  keyed_pushed : (s t : EngineState) (x : List (Member R W)) (m : Member R W) → AreKeyed s x → m.key.0 ≡ s.next_key → t.next_key ≡ s.next_key + 1
      → ((p : PeerState) → Contains t.peers p → ((q : PeerState) × Contains s.peers q × (q.key ≡ p.key)) ⊎ (p.key ≡ m.key)) → AreKeyed t (x ++ m ∷ [])
  keyed_pushed s t x m k new next from =
      let whole : length (x ++ m ∷ []) ≡ length x + 1 = length-append x (m ∷ []) in
      let key = λ (o : Member R W). o.key.0 in
      record {
        own = λ i j d li lj same. elim (cases_lt i (length x)) [
          | inl il ↦ elim (cases_lt j (length x)) [
            | inl jl ↦ k.own i j d il jl (ap key (sym (get_or_append_left x (m ∷ []) d i il)) ∙ same ∙ ap key (get_or_append_left x (m ∷ []) d j jl))
            | inr jr ↦
                let is : length x ≡ j = omega arith in
                let low = k.below i d il in
                let left = ap key (get_or_append_left x (m ∷ []) d i il) in
                let right = ap key (get_or_push x m d j is) in
                absurd (omega (arith, low, left, right, same, new))
          ]
          | inr ir ↦
              let ii : length x ≡ i = omega arith in
              elim (cases_lt j (length x)) [
                | inl jl ↦
                    let low = k.below j d jl in
                    let left = ap key (get_or_push x m d i ii) in
                    let right = ap key (get_or_append_left x (m ∷ []) d j jl) in
                    absurd (omega (arith, low, left, right, same, new))
                | inr jr ↦ omega arith
              ]
        ];
        below = λ i d lt. elim (cases_lt i (length x)) [
          | inl il ↦
              let low = k.below i d il in
              let left = ap key (get_or_append_left x (m ∷ []) d i il) in
              omega (arith, low, left, next)
          | inr ir ↦
              let is : length x ≡ i = omega arith in
              let left = ap key (get_or_push x m d i is) in
              omega (arith, left, new, next)
        ];
        held = λ p among. elim (from p among) [
          | inl old ↦
              let h = k.held old.0 old.1 in
              (h.0, Contains-append_left x (m ∷ []) h.0 h.1, h.2 ∙ old.2)
          | inr own ↦ (m, Contains-push x m, sym own)
        ];
      }

  -- where each place was before one was taken out
  old_place : (x y : List (Member R W)) (at : ℕ) (i : ℕ) (d : Member R W) → length y + 1 ≡ length x → at < length x → SameBelow x y at → ShiftedDown x y at → i < length y
      → (o : ℕ) × (o < length x) × (get_or y i d ≡ get_or x o d) × (((i < at) × (o ≡ i)) ⊎ ((at ≤ i) × (o ≡ i + 1)))
  old_place x y at i d shorter within same shifted lt = elim (cases_lt i at) [
    | inl low ↦ (i, omega arith, same i d low, inl (low, refl))
    | inr high ↦ (i + 1, omega arith, shifted i d high, inr (high, refl))
  ]

  -- one that is not the one that is taken out stays
  pub still_here : (key : PeerKey) (x front back : List (Member R W)) (m : Member R W) → x ≡ front ++ m ∷ back → IsHere key x → IsHere key (front ++ back) ⊎ (m.key ≡ key)
  still_here key x front back m parts h =
      let there = subst (λ (l : List (Member R W)). Contains l h.0) parts h.1 in
      elim (Contains-append_cases front (m ∷ back) h.0 there) [
        | inl before ↦ inl (h.0, Contains-append_left front back h.0 before, h.2)
        | inr rest ↦ elim (Contains-append_cases (m ∷ []) back h.0 rest) [
          | inl this ↦ inr (ap (λ (o : Member R W). o.key) (only_member m h.0 this) ∙ h.2)
          | inr behind ↦ inl (h.0, Contains-append_right front back h.0 behind, h.2)
        ]
      ]

  pub parts_at : (x : List (Member R W)) (at : ℕ) (m : Member R W) → at < length x → m ≡ get_or x at m → x ≡ take at x ++ m ∷ drop (at + 1) x
  parts_at x at m within is =
      sym (take-append-drop at x) ∙ ap (λ l. take at x ++ l) (drop_more x at m within ∙ ap (λ (o : Member R W). o ∷ drop (at + 1) x) (sym is))

  pub keyed_removed : (s t : EngineState) (x y : List (Member R W)) (at : ℕ) (m : Member R W) → length y + 1 ≡ length x → at < length x → SameBelow x y at → ShiftedDown x y at
      → y ≡ take at x ++ drop (at + 1) x → m ≡ get_or x at m → s.next_key ≤ t.next_key → AreFrom s t.peers
      → ((p : PeerState) → Contains t.peers p → p.key ≢ m.key) → AreKeyed s x → AreKeyed t y
  keyed_removed s t x y at m shorter within same shifted are is le from away k =
      let key = λ (o : Member R W). o.key.0 in
      record {
        own = λ i j d li lj equal.
            let p = old_place x y at i d shorter within same shifted li in
            let q = old_place x y at j d shorter within same shifted lj in
            let one = k.own p.0 q.0 d p.1 q.1 (ap key (sym p.2) ∙ equal ∙ ap key q.2) in
            elim p.3 [
              | inl pl ↦ elim q.3 [ inl ql ↦ omega (arith, pl.1, ql.1, one) | inr qr ↦ omega (arith, pl.0, pl.1, qr.0, qr.1, one) ]
              | inr pr ↦ elim q.3 [ inl ql ↦ omega (arith, pr.0, pr.1, ql.0, ql.1, one) | inr qr ↦ omega (arith, pr.1, qr.1, one) ]
            ];
        below = λ i d lt.
            let p = old_place x y at i d shorter within same shifted lt in
            let low = k.below p.0 d p.1 in
            let eq = ap key p.2 in
            omega (arith, low, eq, le);
        held = λ p among.
            let was = from p among in
            let there = subst (λ (o : PeerKey). IsHere o x) was.2 (k.held was.0 was.1) in
            elim (still_here p.key x (take at x) (drop (at + 1) x) m (parts_at x at m within is) there) [
              | inl stays ↦ subst (IsHere p.key) (sym are) stays
              | inr own ↦ absurd (away p among (sym own))
            ];
      }

  pub keyed_none : (s : EngineState) → s.peers ≡ [] → AreKeyed {R = R} {W = W} s []
  keyed_none s nobody = record {
    own = λ i j d li lj same. absurd (omega arith);
    below = λ i d lt. absurd (omega arith);
    held = λ p among. absurd (let lt = (subst (λ (l : List PeerState). Contains l p) nobody among).1 in omega arith);
  }

  -- where nobody is there the machine has no peer
  pub none_held : (s : EngineState) → AreKeyed {R = R} {W = W} s [] → s.peers ≡ []
  none_held s k = empty s.peers (λ p among. let lt = (k.held p among).1.1 in omega arith)
    where
      empty : (peers : List PeerState) → ((p : PeerState) → Contains peers p → ⊥) → peers ≡ []
      empty [] nobody = refl
      empty (p ∷ peers) nobody = absurd (nobody p (Contains-append_left (p ∷ []) peers p (Contains-push [] p)))

module _ {R W : Type 0} (remaining : R → Option (List ℕ)) (contents : W → Option (List ℕ)) where
  -- a peer that comes has a new key
  pub keyed_joins : {D : Type 0} (conduct : Conduct D) (dig : List ℕ → List ℕ) (b : PeerKey → List ℕ) (f : PeerKey → List Frame) (may : PeerKey → SessionEnd → Type 0)
      (old new : EngineView D) (out : Output) (x pushed y : List (Member R W)) (m : Member R W) → AreKeyed old.state x
      → Steps conduct dig old Connect (Connected (Ok (m.key, out))) new → pushed ≡ x ++ m ∷ [] → EachMovesBy remaining contents b f may pushed y → AreKeyed new.state y
  keyed_joins conduct dig b f may old new out x pushed y m k s are p =
      keyed_kept remaining contents b f may new.state new.state (x ++ m ∷ []) y (subst (λ (l : List (Member R W)). EachMovesBy remaining contents b f may l y) are p)
      (omega arith) (from_same new.state) (keyed_pushed old.state new.state x m k s.keys.0 s.keys.1 s.keys.2)
