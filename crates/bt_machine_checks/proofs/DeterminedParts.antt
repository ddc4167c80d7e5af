-- What is one and no other: events, peers, places, trees, refusals, and what is known after a claim.
use Rattle.bt_machine_checks.proofs.Base.{[], ◌≡◌, ◌≢◌, ◌+◌, ◌*◌, ◌<◌, inl, inr, ◌++◌, Option, Some, None, refl, sym, ap, ◌∙◌, arith, AllPairs, cases_lt, ext_get_or, Facts, blocks_of, held_at, value_at, IsAnchor, IsAnswer, Claims, IsAcceptable, Accepts, DiffersBelow, IsHighestClash, IsRefused, shape, padding, no_anchor, top_differs, clash, refused_memory as no_memory, Clash, OutOfMemory, claims_one, same_map, value_inside, value_covers, value_padding, cases_node, IsClaimBy, IsNoClaim, no_shape, no_count, claim_memory as no_room, Takes, Waits, Fails, fault_alone, one_fault}
use Rattle.bt_machine_checks.proofs.Machine.{Digest, PeerState, EngineState, IsTreeOf, IsPeer, IsOrderly}
use Rattle.bt_machine.proofs.Lists.{same_some, some_not_none}
use Rattle.bt_machine.proofs.Pairs.{to_pairs, pairs_at}
use Rattle.bt_machine_checks.proofs.AnswerDue.{same_taking}

-- ---- streams

pub takes_one : {s e f r t : _} → Takes s e r → Takes s f t → (e ≡ f) × (r ≡ t)
takes_one a b = let same = same_taking a b in (same.event_is, same.rest_is)

pub takes_waits : {s e r : _} → Takes s e r → Waits s → ⊥
takes_waits {e} {r} a w = w.no_event e a.bytes r.unread a.event a.front

pub takes_fails : {s e fault r t : _} → Takes s e r → Fails s fault t → ⊥
takes_fails {s} {e} {fault} {r} a f = fault_alone s.greeted s.unread fault f.shown e a.bytes r.unread a.event a.front

pub waits_fails : {s fault t : _} → Waits s → Fails s fault t → ⊥
waits_fails {fault} w f = w.no_fault fault f.shown

pub fails_one : {s fault other r t : _} → Fails s fault r → Fails s other t → fault ≡ other
fails_one {s} {fault} {other} a b = one_fault s.greeted s.unread fault other a.shown b.shown

-- ---- peers and trees, by their keys and roots

pub peer_one : {s key i j p q : _} → IsOrderly s → IsPeer s key i p → IsPeer s key j q → (i ≡ j) × (p ≡ q)
peer_one {s} {i} {j} {p} {q} o a b =
    let keys : p.key.0 ≡ q.key.0 = cc in
    let pairs = to_pairs (λ (x y : PeerState). x.key.0 < y.key.0) _ o.in_order in
    let place : i ≡ j = elim (cases_lt i j) [
      | inl lt ↦ (let before = pairs_at (λ (x y : PeerState). x.key.0 < y.key.0) _ i j pairs a.here b.here lt in absurd (omega arith))
      | inr le ↦ elim (cases_lt j i) [
        | inl lt ↦ (let before = pairs_at (λ (x y : PeerState). x.key.0 < y.key.0) _ j i pairs b.here a.here lt in absurd (omega arith))
        | inr ge ↦ omega arith
      ]
    ] in
    (place, same_some (cc) b.here)

pub tree_one : {s : EngineState} {root t u k l : _} → AllPairs (λ j k. j.root ≢ k.root) s.trees → IsTreeOf s root t k → IsTreeOf s root u l → (t ≡ u) × (k ≡ l)
tree_one {s} {t} {u} apart a b =
    let pairs = to_pairs (λ (x y : Facts). x.root ≢ y.root) _ apart in
    let place : t ≡ u = elim (cases_lt t u) [
      | inl lt ↦ absurd (pairs_at (λ (x y : Facts). x.root ≢ y.root) _ t u pairs a.here b.here lt (cc))
      | inr le ↦ elim (cases_lt u t) [
        | inl lt ↦ absurd (pairs_at (λ (x y : Facts). x.root ≢ y.root) _ u t pairs b.here a.here lt (cc))
        | inr ge ↦ omega arith
      ]
    ] in
    (place, same_some (cc) b.here)

-- the nearest held node
pub anchor_one : {k leaf a b : _} → IsAnchor k leaf a → IsAnchor k leaf b → a ≡ b
anchor_one {a} {b} x y = elim (cases_lt a b) [
  | inl lt ↦ absurd (some_not_none x.held (y.nearest a lt))
  | inr le ↦ elim (cases_lt b a) [ inl lt ↦ absurd (some_not_none y.held (x.nearest b lt)) | inr ge ↦ omega arith ]
]

-- ---- what is known

-- what is Some in each is the same in both
both_ways : {X : Type 0} (o p : Option X) → ((x : X) → o ≡ Some x → p ≡ Some x) → ((x : X) → p ≡ Some x → o ≡ Some x) → o ≡ p
both_ways None None f g = refl
both_ways None (Some y) f g = g y refl
both_ways (Some x) p f g = sym (f x refl)

pub facts_is : {a b : Facts} → a.file_length ≡ b.file_length → a.root ≡ b.root → a.nodes ≡ b.nodes → a ≡ b
facts_is {a} {b} size root nodes =
    ap (λ x. record a { file_length = x }) size ∙ ap (λ x. record a { file_length = b.file_length; root = x }) root ∙ ap (λ x. record b { nodes = x }) nodes

module _ (dig : Digest) where
  accepted_in : {k c a b : _} → Accepts dig k c a → Accepts dig k c b → (layer i d : _) → held_at a layer i ≡ Some d → held_at b layer i ≡ Some d
  accepted_in x y layer i d e = elim (x.joins.only layer i d e) [ inl old ↦ y.joins.kept layer i d old | inr new ↦ y.joins.added layer i d new.0 new.1 ]

  pub accepts_one : {k c a b : _} → Accepts dig k c a → Accepts dig k c b → a ≡ b
  accepts_one {a} {b} x y = facts_is (cc) (cc)
      (same_map a.nodes b.nodes (λ q. both_ways _ _ (accepted_in x y q.0 q.1) (accepted_in y x q.0 q.1)))

  -- an answer's digests are one list
  pub answer_one : {k base index count layers ds es : _} → IsAnswer dig k base index count layers ds → IsAnswer dig k base index count layers es → ds ≡ es
  answer_one {ds} {es} a b =
      ext_get_or [] ds es (cc) (λ t lt. same_some (a.values t lt) (b.values t (omega arith)))

  -- ---- refusals

  -- what is known of a node and what an acceptable claim says of it are one
  agrees : {k c : _} → IsAcceptable dig k c → {layer i d e : _} → value_at dig k layer i ≡ Some d → Claims dig c layer i e → d ≡ e
  agrees {k} ok {layer} {i} {d} {e} value claim = elim (cases_node (blocks_of k) layer i (value_inside dig k layer i d value)) [
    | inl covers ↦ ok.agrees layer i e d claim (sym (value_covers dig k layer i covers) ∙ value)
    | inr past ↦ (let pad = ok.padding layer i e claim past in same_some value (value_padding dig k layer i past) ∙ sym pad)
  ]

  no_difference : {k c : _} → IsAcceptable dig k c → {layer i ours theirs : _} → DiffersBelow dig k c layer i ours theirs → ⊥
  no_difference ok d = elim d.differ [
    | inl left ↦ left (agrees ok d.knows_left d.claims_left)
    | inr right ↦ right (agrees ok d.knows_right d.claims_right)
  ]

  none_some : {X : Type 0} {o : Option X} {x : X} → o ≡ None → o ≡ Some x → ⊥
  none_some e f = let no = sym e ∙ f in absurd cc

  pub accepts_refused : {k c new fault : _} → Accepts dig k c new → IsRefused dig k c fault → fault ≢ OutOfMemory → ⊥
  accepts_refused a (shape not_shape) other = not_shape a.conditions.shape
  accepts_refused a (padding ok not_padding) other = not_padding a.conditions.padding
  accepts_refused a (no_anchor ok pads none) other = none_some none a.conditions.top
  accepts_refused a (top_differs d ok pads held apart) other = apart (same_some held a.conditions.top)
  accepts_refused a (clash layer index ours theirs ok pads held high) other = no_difference a.conditions high.differs
  accepts_refused a (no_memory ok) other = other refl

  -- the highest difference is one
  same_inputs : {k c layer i o t p u : _} → DiffersBelow dig k c layer i o t → DiffersBelow dig k c layer i p u → (o ≡ p) × (t ≡ u)
  same_inputs {k} {c} {i} a b =
      let below : a.below ≡ b.below = omega arith in
      let ol : a.our_left ≡ b.our_left = cc in
      let or : a.our_right ≡ b.our_right = cc in
      let tl = claims_one dig c b.below (2 * i) a.their_left b.their_left (rw (← below) a.claims_left) b.claims_left in
      let tr = claims_one dig c b.below (2 * i + 1) a.their_right b.their_right (rw (← below) a.claims_right) b.claims_right in (
        a.is_ours ∙ ap (λ x. x ++ a.our_right) ol ∙ ap (λ x. b.our_left ++ x) or ∙ sym b.is_ours,
        a.is_theirs ∙ ap (λ x. x ++ a.their_right) tl ∙ ap (λ x. b.their_left ++ x) tr ∙ sym b.is_theirs,
      )

  clash_one : {k c layer i o t l j p u : _} → IsHighestClash dig k c layer i o t → IsHighestClash dig k c l j p u → Clash layer i o t ≡ Clash l j p u
  clash_one {k} {c} {layer} {i} {o} {t} {l} {j} {p} {u} a b =
      let one = a.highest l j p u b.differs in
      let two = b.highest layer i o t a.differs in
      let place : (layer ≡ l) × (i ≡ j) = elim one [
        | inl below ↦ elim two [ inl above ↦ absurd (omega arith) | inr same ↦ absurd (omega arith) ]
        | inr same ↦ elim two [ inl above ↦ absurd (omega arith) | inr also ↦ (sym same.0, omega arith) ]
      ] in
      let moved : DiffersBelow dig k c l j o t = rw (← place.0) (rw (← place.1) a.differs) in
      let inputs = same_inputs moved b.differs in
      ap (λ n. Clash n i o t) place.0 ∙ ap (λ n. Clash l n o t) place.1 ∙ ap (λ x. Clash l j x t) inputs.0 ∙ ap (λ x. Clash l j p x) inputs.1

  pub refused_one : {k c f g : _} → IsRefused dig k c f → IsRefused dig k c g → f ≢ OutOfMemory → g ≢ OutOfMemory → f ≡ g
  refused_one (no_memory x) b m n = absurd (m refl)
  refused_one a (no_memory x) m n = absurd (n refl)
  refused_one (shape x) (padding y z) m n = absurd (x y)
  refused_one (shape x) (no_anchor y z w) m n = absurd (x y)
  refused_one (shape x) (top_differs d y z w v) m n = absurd (x y)
  refused_one (shape x) (clash l i o t y z w v) m n = absurd (x y)
  refused_one (padding x p) (shape y) m n = absurd (y x)
  refused_one (padding x p) (no_anchor y q w) m n = absurd (p q)
  refused_one (padding x p) (top_differs d y q w v) m n = absurd (p q)
  refused_one (padding x p) (clash l i o t y q w v) m n = absurd (p q)
  refused_one (no_anchor x p e) (shape y) m n = absurd (y x)
  refused_one (no_anchor x p e) (padding y q) m n = absurd (q p)
  refused_one (no_anchor x p e) (top_differs d y q h v) m n = absurd (none_some e h)
  refused_one (no_anchor x p e) (clash l i o t y q h v) m n = absurd (none_some e h)
  refused_one (top_differs d x p e v) (shape y) m n = absurd (y x)
  refused_one (top_differs d x p e v) (padding y q) m n = absurd (q p)
  refused_one (top_differs d x p e v) (no_anchor y q h) m n = absurd (none_some h e)
  refused_one (top_differs d x p e v) (clash l i o t y q h w) m n = absurd (v (same_some e h))
  refused_one (clash l i o t x p e v) (shape y) m n = absurd (y x)
  refused_one (clash l i o t x p e v) (padding y q) m n = absurd (q p)
  refused_one (clash l i o t x p e v) (no_anchor y q h) m n = absurd (none_some h e)
  refused_one (clash l i o t x p e v) (top_differs d y q h w) m n = absurd (w (same_some h e))
  refused_one (clash l i o t x p e v) (clash l2 i2 o2 t2 y q h w) m n = clash_one v w
  refused_one _ _ m n = refl

pub no_claim_one : {key digests f g : _} → IsNoClaim key digests f → IsNoClaim key digests g → f ≢ OutOfMemory → g ≢ OutOfMemory → f ≡ g
no_claim_one (no_room x y) b m n = absurd (m refl)
no_claim_one a (no_room x y) m n = absurd (n refl)
no_claim_one (no_shape x) (no_count y z) m n = absurd (x y)
no_claim_one (no_count x z) (no_shape y) m n = absurd (y x)
no_claim_one _ _ m n = refl

pub claim_or_not : {key digests f c : _} → IsNoClaim key digests f → IsClaimBy key digests c → f ≢ OutOfMemory → ⊥
claim_or_not (no_shape x) y m = x y.shape
claim_or_not (no_count x z) y m = z y.size
claim_or_not (no_room x z) y m = m refl
