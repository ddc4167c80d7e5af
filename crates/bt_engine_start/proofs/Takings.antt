-- Proofs that are taken or passed, by one tree and by each of several.
use Rattle.bt_machine.proofs.Base.{[], ◌≡◌, ◌≢◌, ℕ, zero, suc, ◌*◌, ◌/◌, ◌<◌, ◌⊎◌, inl, inr, List, ◌∷◌, ◌++◌, length, map, drop, Option, Some, None, Result, Ok, Err, refl, sym, ap, ◌∙◌, subst, arith, slice_get, slice_set, get_or, get_or_default, All, cases_lt, first_chunks, Facts, Accepts, Claim, HashKey}
use Rattle.std.specs.Prelude.{IfErr, OnOk, flat_map}
use Rattle.std.proofs.lemmas.List.{append-nil, append_assoc, take_at, drop_at, length-map}
use Rattle.bt_sparse.specs.SparseTree.{blocks_of, value_at}
use Rattle.bt_sparse.specs.Claim.{Claims}
use Rattle.bt_sparse.specs.Acceptance.{IsRefused, IsAcceptable, DiffersBelow, shape, padding, no_anchor, top_differs, clash, no_memory}
use Rattle.bt_sparse.specs.declared.claim.ProofError.{ProofError}
use Rattle.bt_sparse.specs.declared.claim.ProofError.TheVariants.{OutOfMemory}
use Rattle.bt_hashreq.specs.Claim.{IsClaimBy, IsNoClaim, digests_in, shape as no_shape, count as no_count, no_memory as no_room}
use Rattle.bt_resume.specs.declared.hint.Hint.{Hint}
use Rattle.bt_resume.specs.declared.hint.Hint.TheVariants.{Proof, Marks}
use Rattle.bt_machine.proofs.Lists.{some_is, same_some, set_same, set_other}
use Rattle.bt_machine.proofs.Nodes.{value_covers, value_padding, cases_node, value_inside}
use Rattle.bt_machine.specs.Recovery.{claim_of_proof, IsProofFor, TakesProof, accepted, passed, TakesHints}
use Rattle.bt_engine_state.specs.Roots.{Numbers, number_of, AreNumbered}
use Rattle.bt_engine_state.proofs.Chains.{number_is}
use Rattle.bt_engine_start.specs.Taking.{TakeFirstHints, TakeHints}
use Rattle.bt_engine_start.specs.TakingSteps.{TakeProof}

-- ---- digests, one after the other

abbrev AreWhole : List (List ℕ) → Type 0
AreWhole digests = All (λ digest. length digest ≡ 32) digests

abbrev joined : List (List ℕ) → List ℕ
joined digests = flat_map (λ digest. digest) digests

chunks_joined : (digests : List (List ℕ)) → AreWhole digests → first_chunks 32 (length digests) (joined digests) ≡ digests
chunks_joined [] whole = refl
chunks_joined (digest ∷ digests) whole =
    let long : length digest ≡ 32 = whole 0 [] (omega arith) in
    ap (λ d. d ∷ first_chunks 32 (length digests) (drop 32 (digest ++ joined digests))) (take_at digest (joined digests) 32 long)
    ∙ ap (λ bytes. digest ∷ first_chunks 32 (length digests) bytes) (drop_at digest (joined digests) 32 long)
    ∙ ap (λ ds. digest ∷ ds) (chunks_joined digests (λ i d lt. whole (suc i) d (omega arith)))

-- digests that have 32 bytes by their type
pub whole_told : (digests : List (List ℕ)) → ((i : ℕ) → i < length digests → length (get_or digests i []) ≡ 32) → AreWhole digests
whole_told digests told i d lt = ap (λ digest. length digest) (get_or_default digests i d [] lt) ∙ told i lt

digests_joined : (digests : List (List ℕ)) (bytes : List ℕ) → AreWhole digests → bytes ≡ joined digests → length bytes ≡ length digests * 32
    → digests_in bytes ≡ digests
digests_joined digests bytes whole is size =
    let count : length bytes / 32 ≡ length digests = omega (arith, size) in
    ap (λ n. first_chunks 32 n bytes) count ∙ ap (λ xs. first_chunks 32 (length digests) xs) is ∙ chunks_joined digests whole

-- ---- refusals

module _ (dig : List ℕ → List ℕ) where
  -- what is known of a node and what an acceptable claim says of it are one
  agrees : {k : Facts} {c : Claim} → IsAcceptable dig k c → {layer i : ℕ} {d e : List ℕ} → value_at dig k layer i ≡ Some d → Claims dig c layer i e → d ≡ e
  agrees {k} ok {layer} {i} {d} {e} value claim = elim (cases_node (blocks_of k) layer i (value_inside dig k layer i d value)) [
    | inl covers ↦ ok.agrees layer i e d claim (sym (value_covers dig k layer i covers) ∙ value)
    | inr past ↦ (let pad = ok.padding layer i e claim past in same_some value (value_padding dig k layer i past) ∙ sym pad)
  ]

  no_difference : {k : Facts} {c : Claim} → IsAcceptable dig k c → {layer i : ℕ} {ours theirs : List ℕ} → DiffersBelow dig k c layer i ours theirs → ⊥
  no_difference ok d = elim d.differ [
    | inl left ↦ left (agrees ok d.knows_left d.claims_left)
    | inr right ↦ right (agrees ok d.knows_right d.claims_right)
  ]

  none_some : {X : Type 0} {o : Option X} {x : X} → o ≡ None → o ≡ Some x → ⊥
  none_some e f = let no = sym e ∙ f in absurd cc

  not_acceptable : {k : Facts} {c : Claim} {fault : ProofError} → IsRefused dig k c fault → fault ≢ OutOfMemory → IsAcceptable dig k c → ⊥
  not_acceptable (shape not_shape) other ok = not_shape ok.shape
  not_acceptable (padding has not_padding) other ok = not_padding ok.padding
  not_acceptable (no_anchor has pads none) other ok = none_some none ok.top
  not_acceptable (top_differs d has pads held apart) other ok = apart (same_some held ok.top)
  not_acceptable (clash layer index ours theirs has pads held high) other ok = no_difference ok high.differs
  not_acceptable (no_memory has) other ok = other refl

  -- ---- one tree

  module _ (key : HashKey) (digests : List (List ℕ)) (bytes : List ℕ) (whole : AreWhole digests) (is : bytes ≡ joined digests)
      (size : length bytes ≡ length digests * 32) where
    claim_is : {claim : Claim} → IsClaimBy key bytes claim → claim ≡ claim_of_proof key digests
    claim_is by = by.claim_is ∙ ap (λ ds. claim_of_proof key ds) (digests_joined digests bytes whole is size)

    no_claim : {k : Facts} {fault : ProofError} → IsNoClaim key bytes fault → fault ≢ OutOfMemory → IsProofFor dig k key digests → ⊥
    no_claim (no_shape none) other is = none is.readable.0
    no_claim (no_count has none) other is = none (omega (arith, size, is.readable.1))
    no_claim (no_room has fits) other is = other refl

    pub passed_by_key : {k : Facts} {fault : ProofError} → IsNoClaim key bytes fault → fault ≢ OutOfMemory → TakesProof dig k key digests k
    passed_by_key none other = passed (no_claim none other) refl

    pub passed_by_tree : {k new : Facts} {claim : Claim} {fault : ProofError} → IsClaimBy key bytes claim → IsRefused dig k claim fault → new ≡ k
        → fault ≢ OutOfMemory → TakesProof dig k key digests new
    passed_by_tree {k} {new} {claim} {fault} by refused same other =
        passed (λ proof. not_acceptable (subst (λ c. IsRefused dig k c fault) (claim_is by) refused) other proof.acceptable) same

    pub taken : {k new : Facts} {claim : Claim} → k.root ≡ key.root → IsClaimBy key bytes claim → Accepts dig k claim new → TakesProof dig k key digests new
    taken {k} {new} {claim} root by accepts =
        let accepts_it = subst (λ c. Accepts dig k c new) (claim_is by) accepts in
        accepted (record {
          same_root = root;
          readable = (by.shape, omega (arith, size, by.size));
          whole = whole;
          acceptable = accepts_it.conditions;
        }) accepts_it

pub on_ok : {X E P Q : Type 0} (r : Result X E) → OnOk r P → (P → Q) → OnOk r Q
on_ok (Ok x) p f = f p
on_ok (Err e) p f = tt

pub if_ok : {X E P : Type 0} (r : Result X E) → P → OnOk r P
if_ok (Ok x) p = p
if_ok (Err e) p = tt

pub if_err : {X E P : Type 0} (r : Result X E) → P → IfErr r (λ _. P)
if_err (Ok x) p = tt
if_err (Err e) p = p

pub on_err : {X E P Q : Type 0} (r : Result X E) → IfErr r (λ _. P) → (P → Q) → IfErr r (λ _. Q)
on_err (Ok x) p f = tt
on_err (Err e) p f = f p

-- ---- each tree

not_the_same : (i j : ℕ) → (i ≡ j) ⊎ (i ≢ j)
not_the_same i j = elim (cases_lt i j) [
  | inl lt ↦ inr (λ e. absurd (omega arith))
  | inr ge ↦ elim (cases_lt j i) [ inl lt ↦ inr (λ e. absurd (omega arith)) | inr le ↦ inl (omega arith) ]
]

-- an element that is replaced by one of which the same is read
pub read_alike : {X Y : Type 0} (f : X → Y) (xs : List X) (i : ℕ) {x new : X} → slice_get xs i ≡ Some x → f new ≡ f x
    → map f (slice_set xs i new) ≡ map f xs
read_alike f [] zero at same = absurd cc
read_alike f [] (suc i) at same = absurd cc
read_alike f (y ∷ xs) zero at same = ap (λ z. z ∷ map f xs) (same ∙ ap f (same_some at refl))
read_alike f (y ∷ xs) (suc i) at same = ap (λ zs. f y ∷ zs) (read_alike f xs i at same)

-- an element that is replaced by itself
pub set_alike : {X : Type 0} (xs : List X) (i : ℕ) {x new : X} → slice_get xs i ≡ Some x → new ≡ x → slice_set xs i new ≡ xs
set_alike [] zero at same = absurd cc
set_alike [] (suc i) at same = absurd cc
set_alike (y ∷ xs) zero at same = ap (λ z. z ∷ xs) (same ∙ same_some at refl)
set_alike (y ∷ xs) (suc i) at same = ap (λ zs. y ∷ zs) (set_alike xs i at same)

module _ (trees : List Facts) (numbers : Numbers) (key : HashKey) (are : AreNumbered (map (λ k. k.root) trees) numbers) where
  module _ (dig : List ℕ → List ℕ) (digests : List (List ℕ)) where
    pub none_takes : number_of numbers key.root ≡ None → TakeProof dig key digests trees trees
    none_takes none t k at = (k, at, passed (λ proof. none_some dig none (number_is trees numbers key.root are t at proof.same_root)) refl)

    pub one_takes : (t : ℕ) {old new : Facts} → number_of numbers key.root ≡ Some t → slice_get trees t ≡ Some old → TakesProof dig old key digests new
        → TakeProof dig key digests trees (slice_set trees t new)
    one_takes t {old} {new} has here takes u k at = elim (not_the_same u t) [
      | inl same ↦ (
          let there : slice_get trees u ≡ Some old = ap (λ n. slice_get trees n) same ∙ here in (
            new,
            ap (λ n. slice_get (slice_set trees t new) n) same ∙ set_same trees t here,
            subst (λ (j : Facts). TakesProof dig j key digests new) (some_is (sym there ∙ at)) takes,
          )
          )
      | inr apart ↦ (
        k,
        set_other trees t u new apart ∙ at,
        passed (λ proof. apart (some_is (sym (number_is trees numbers key.root are u at proof.same_root) ∙ has))) refl,
      )
    ]

-- ---- hints, one after the other

-- a tree that takes some hints, and then others
takes_more : (dig : List ℕ → List ℕ) (first more : List Hint) (k mid new : Facts) → TakesHints dig k first mid → TakesHints dig mid more new
    → TakesHints dig k (first ++ more) new
takes_more dig [] more k mid new takes rest = subst (λ (j : Facts). TakesHints dig j more new) takes rest
takes_more dig (Proof key digests ∷ first) more k mid new takes rest = (takes.0, takes.1, takes_more dig first more takes.0 mid new takes.2 rest)
takes_more dig (Marks f i n ∷ first) more k mid new takes rest = takes_more dig first more k mid new takes rest

-- the hints before these are what the trees have taken
abbrev pub HaveTaken : (List ℕ → List ℕ) → (all rest : List Hint) → (old now : List Facts) → Type 0
HaveTaken dig all rest old now = (first : List Hint) × (all ≡ first ++ rest)
    × ((t : ℕ) (k : Facts) → slice_get old t ≡ Some k → (j : Facts) × (slice_get now t ≡ Some j) × TakesHints dig k first j)

module _ (dig : List ℕ → List ℕ) (all rest : List Hint) (old now : List Facts) where
  pub taken_none : rest ≡ all → HaveTaken dig all rest old old
  taken_none is = ([], sym is, λ t k at. (k, at, refl))

  -- the first of the hints before, and one more
  one_more : (hints : List Hint) (hint : Hint) → hints ≡ hint ∷ rest → (first : List Hint) → all ≡ first ++ hints → all ≡ (first ++ (hint ∷ [])) ++ rest
  one_more hints hint is first all_are = all_are ∙ ap (λ (hs : List Hint). first ++ hs) is ∙ sym (append_assoc first (hint ∷ []) rest)

  pub taken_proof : (next : List Facts) (hints : List Hint) (key : HashKey) (digests : List (List ℕ)) → hints ≡ Proof key digests ∷ rest
      → HaveTaken dig all hints old now → TakeProof dig key digests now next → HaveTaken dig all rest old next
  taken_proof next hints key digests is before takes = (
    before.0 ++ (Proof key digests ∷ []),
    one_more hints (Proof key digests) is before.0 before.1,
    λ t k at. (
        let j = before.2 t k at in
        let i = takes t j.0 j.1 in
        (i.0, i.1, takes_more dig before.0 (Proof key digests ∷ []) k j.0 i.0 j.2 (i.0, i.2, refl))
        ),
  )

  pub taken_marks : (hints : List Hint) (file first count : ℕ) → hints ≡ Marks file first count ∷ rest → HaveTaken dig all hints old now
      → HaveTaken dig all rest old now
  taken_marks hints file first count is before = (
    before.0 ++ (Marks file first count ∷ []),
    one_more hints (Marks file first count) is before.0 before.1,
    λ t k at. (let j = before.2 t k at in (j.0, j.1, takes_more dig before.0 (Marks file first count ∷ []) k j.0 j.0 j.2 refl)),
  )

  module _ (roots : map (λ (k : Facts). k.root) now ≡ map (λ (k : Facts). k.root) old) where
    taken_by : (before : HaveTaken dig all rest old now) → TakeHints dig before.0 old now
    taken_by before = record {
      count = sym (length-map now (λ (k : Facts). k.root)) ∙ ap (λ (rs : List (List ℕ)). length rs) roots ∙ length-map old (λ (k : Facts). k.root);
      each = before.2;
    }

    pub taken_some : HaveTaken dig all rest old now → {next : Hint} {more : List Hint} → rest ≡ next ∷ more → TakeFirstHints dig all old now
    taken_some before {next} {more} is = record {
      first = before.0;
      next = next;
      rest = more;
      are_all = before.1 ∙ ap (λ (hs : List Hint). before.0 ++ hs) is;
      taken = taken_by before;
    }

    pub taken_all : rest ≡ [] → HaveTaken dig all rest old now → TakeHints dig all old now
    taken_all none before =
        let whole : before.0 ≡ all = sym (before.1 ∙ ap (λ (hs : List Hint). before.0 ++ hs) none ∙ append-nil before.0) in
        subst (λ (hs : List Hint). TakeHints dig hs old now) whole (taken_by before)
