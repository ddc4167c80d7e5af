-- What a group of blocks leaves for a log, by how it was taken in.
use Rattle.bt_machine.proofs.Base.{[], ◌≡◌, ℕ, ◌+◌, ◌-◌, ◌*◌, ◌/◌, ◌^◌, ◌<◌, ◌≤◌, ◌⊎◌, inl, inr, min, Bool, true, false, ◌&&◌, if◌then◌else◌, List, ◌∷◌, ◌++◌, length, filter, flat_map, IsSome, refl, sym, ap, ◌∙◌, subst, arith, cases_lt, lt-ltb, pow_pos, div-add-mod, range_with_len, Contains, Facts, blocks_of, value_at, none, known, accepted, not_accepted as refused, short, unread, Adopts, Adopted, IsUnknownGroup, BlockRead, BlockState, HashKey}
use Rattle.std.specs.Prelude.{nat_lt}
use Rattle.std.specs.List.{AllZip}
use Rattle.bt_sparse.specs.Anchor.{IsAnchor}
use Rattle.bt_sparse.proofs.Anchors.{known_above}
use Rattle.bt_resume.specs.declared.hint.Hint.{Hint}
use Rattle.bt_store.specs.Review.{is_marked_at}
use Rattle.bt_store.specs.FileStore.{StoreView}
use Rattle.bt_store.specs.Adoption.{IsKnownGroup, IsAdopted}
use Rattle.bt_machine.proofs.Lists.{here, later, some_not_none}
use Rattle.bt_machine.specs.State.{proof_of}
use Rattle.bt_machine.specs.Hints.{add_hints}
use Rattle.bt_machine.specs.ProofKeys.{HasAnswer, ProofKeysAreAnswered}
use Rattle.bt_machine.specs.Adopting.{IsProof, proof_keys}
use Rattle.bt_engine_after.specs.declared.marks.FileRun.{FileRun}
use Rattle.bt_engine_after.specs.GroupSteps.{file_view, TakesGroup}
use Rattle.bt_engine_after.specs.MarksSteps.{unmarked_blocks, newly_marked, marks_in, run_blocks}
use Rattle.bt_engine_after.specs.RunProofsSteps.{run_keys}
use Rattle.bt_engine_after.proofs.Hints.{add_more}
use Rattle.bt_engine_after.proofs.NewMarks.{newly_none, newly_in_group, newly_known}
use Rattle.bt_disk.specs.Conduct.{Conduct}

-- ---- proofs by keys that are answered

listed : (dig : List ℕ → List ℕ) (k : Facts) (keys : List HashKey) → ((key : HashKey) → Contains keys key → HasAnswer dig k key)
    → (hints : List Hint) × AllZip (IsProof dig k) keys hints
listed dig k [] each = ([], tt)
listed dig k (key ∷ keys) each =
    let one = each key (here keys refl) in
    let more = listed dig k keys (λ other c. each other (later key keys c)) in
    (proof_of key one.digests ∷ more.0, ((one.digests, one.answer, refl), more.1))

pub some_proofs : {dig : List ℕ → List ℕ} {k grown : Facts} {from : ℕ} {old new : List BlockState} {reads : List BlockRead} {adopted : Adopted}
    → ProofKeysAreAnswered dig → Adopts dig k from old reads adopted grown new → (proofs : List Hint) × AllZip (IsProof dig grown) (proof_keys grown from adopted) proofs
some_proofs {dig} {k} {grown} {from} {old} {new} {reads} {adopted} answered adopts =
    listed dig grown (proof_keys grown from adopted) (λ key c. answered k grown from old new reads adopted key adopts c)

-- ---- which group it is

one_anchor : (k : Facts) (leaf a b : ℕ) → IsAnchor k leaf a → IsAnchor k leaf b → a ≡ b
one_anchor k leaf a b is other = elim (cases_lt a b) [
  | inl lt ↦ absurd (some_not_none is.held (other.nearest a lt))
  | inr le ↦ elim (cases_lt b a) [
    | inl lt ↦ absurd (some_not_none other.held (is.nearest b lt))
    | inr ge ↦ omega (arith, le, ge)
  ]
]

-- a group whose leaves are known begins at a leaf that is held
held_leaf : {dig : List ℕ → List ℕ} {k : Facts} {from count a : ℕ} → from < blocks_of k → IsKnownGroup dig k from count → 0 < a → IsAnchor k from a → ⊥
held_leaf {dig} {k} {from} inside group above anchor =
    let place : from + 0 ≡ from = omega arith in
    let zeroth : from / 2 ^ 0 ≡ from = omega arith in
    let known_leaf : IsSome (value_at dig k 0 from) = subst (λ i. IsSome (value_at dig k 0 i)) place (group.known 0 group.some) in
    some_not_none known_leaf (ap (value_at dig k 0) (sym zeroth) ∙ known_above dig k from 0 inside (omega arith) ∙ anchor.nearest 0 above)

-- ---- what it leaves

-- its leaves were known
pub record LeavesMarks (k : Facts) (from : ℕ) (old new : List BlockState) (adopted : Adopted) (grown : Facts) : Type 0 where
  pub keys : proof_keys grown from adopted ≡ []
  pub marks : newly_marked old new ≡ filter (is_marked_at new) (unmarked_blocks old from (min 8 (blocks_of k - from)))

-- its blocks were claimed together, and found right
pub record LeavesBoth (from anchor first count : ℕ) (old new : List BlockState) (adopted : Adopted) (grown : Facts) : Type 0 where
  pub keys : proof_keys grown from adopted ≡ run_keys grown anchor (range_with_len first count)
  pub marks : newly_marked old new ≡ unmarked_blocks old first count

-- they were not found right
pub record LeavesNothing (from : ℕ) (old new : List BlockState) (adopted : Adopted) (grown : Facts) : Type 0 where
  pub keys : proof_keys grown from adopted ≡ []
  pub marks : newly_marked old new ≡ []

not_zeroth : {k : Facts} {from anchor first count : ℕ} → IsAnchor k from 0 → IsUnknownGroup k from anchor first count → ⊥
not_zeroth zeroth group = some_not_none zeroth.held (group.nearest.nearest 0 group.above)

pub of_known : {dig : List ℕ → List ℕ} {k grown : Facts} {from : ℕ} {old new : List BlockState} {reads : List BlockRead} {adopted : Adopted}
    → from < blocks_of k → length old ≡ blocks_of k → IsAnchor k from 0 → Adopts dig k from old reads adopted grown new → LeavesMarks k from old new adopted grown
of_known inside size zeroth (none end) = absurd (omega arith)
of_known {dig} {k} {grown} {from} {old} inside size zeroth (known count rs group order) = record {
  keys = refl;
  marks = newly_known dig k rs old true from count (min 8 (blocks_of k - from)) order (omega (arith, group.few, group.inside)) (omega (arith, size, inside));
}
of_known inside size zeroth (accepted anchor first count rs g group whole accepts) = absurd (not_zeroth zeroth group)
of_known inside size zeroth (refused anchor first count rs error group whole why other) = absurd (not_zeroth zeroth group)
of_known inside size zeroth (short anchor first count rs group each sound few) = absurd (not_zeroth zeroth group)
of_known inside size zeroth (unread anchor first count rs group each some) = absurd (not_zeroth zeroth group)

nothing_found : (b : Bool) (keys : List HashKey) → (if b && false then keys else []) ≡ []
nothing_found true keys = refl
nothing_found false keys = refl

nothing_left : {from : ℕ} {old : List BlockState} {adopted : Adopted} {grown : Facts} → proof_keys grown from adopted ≡ [] → LeavesNothing from old old adopted grown
nothing_left {from} {old} keys = record { keys = keys; marks = newly_none old }

-- the blocks of a claimed group
record Spans (k : Facts) (first count : ℕ) : Type 0 where
  some : 0 < count
  inside : first + count ≤ blocks_of k

spans : {k : Facts} {from anchor first count : ℕ} → IsUnknownGroup k from anchor first count → Spans k first count
spans {k} {from} {anchor} {first} {count} group =
    let power = pow_pos anchor in
    let starts = group.starts in
    let counts = group.counts in
    let below = group.inside in
    let low : first ≤ from = omega (arith, starts, div-add-mod from (2 ^ anchor)) in
    record { some = omega (arith, power, counts, low, below); inside = omega (arith, counts, low, below) }

same_keys : {k : Facts} {from anchor first count a f n : ℕ} (g : Facts) → IsUnknownGroup k from anchor first count → anchor ≡ a → first ≡ f → count ≡ n
    → run_keys g anchor (range_with_len (from / 2 ^ anchor * 2 ^ anchor) (first + count - from / 2 ^ anchor * 2 ^ anchor)) ≡ run_keys g a (range_with_len f n)
same_keys {k} {from} {anchor} {first} {count} {a} {f} {n} g group same start wide =
    let width : first + count - first ≡ count = omega arith in
    ap (λ i. run_keys g anchor (range_with_len i (first + count - i))) (sym group.starts)
    ∙ ap (λ m. run_keys g anchor (range_with_len first m)) width
    ∙ ap (λ h. run_keys g h (range_with_len first count)) same ∙ ap (λ i. run_keys g a (range_with_len i count)) start
    ∙ ap (λ m. run_keys g a (range_with_len f m)) wide

module _ {dig : List ℕ → List ℕ} {k : Facts} {from a f n : ℕ} (at : IsUnknownGroup k from a f n) where
  pub of_claimed : {grown : Facts} {old new : List BlockState} {reads : List BlockRead} {adopted : Adopted} → length old ≡ blocks_of k
      → Adopts dig k from old reads adopted grown new
      → ((0 < adopted.marked) × LeavesBoth from a f n old new adopted grown) ⊎ ((adopted.marked ≡ 0) × LeavesNothing from old new adopted grown)
  of_claimed size (none end) = absurd (let below = at.inside in omega arith)
  of_claimed size (known count rs group order) = absurd (held_leaf at.inside group at.above at.nearest)
  of_claimed {grown} {old} size (accepted anchor first count rs g group whole accepts) =
      let same : anchor ≡ a = one_anchor k from anchor a group.nearest at.nearest in
      let start : first ≡ f = group.starts ∙ ap (λ h. from / 2 ^ h * 2 ^ h) same ∙ sym at.starts in
      let wide : count ≡ n =
      group.counts ∙ ap (λ h. min (2 ^ h) (blocks_of k - first)) same ∙ ap (λ i. min (2 ^ a) (blocks_of k - i)) start ∙ sym at.counts in
      let span = spans group in
      let keys = run_keys g anchor (range_with_len (from / 2 ^ anchor * 2 ^ anchor) (first + count - from / 2 ^ anchor * 2 ^ anchor)) in
      inl (
        span.some,
        record {
          keys = ap (λ b. if b && nat_lt 0 count then keys else []) (lt-ltb 0 anchor group.above)
              ∙ ap (λ b. if b then keys else []) (lt-ltb 0 count span.some) ∙ same_keys g group same start wide;
          marks = newly_in_group first count old (omega (arith, size, span.inside)) ∙ ap (λ i. unmarked_blocks old i count) start ∙ ap (unmarked_blocks old f) wide;
        },
      )
  of_claimed size (refused anchor first count rs error group whole why other) = inr (refl, nothing_left (nothing_found (nat_lt 0 anchor) _))
  of_claimed size (short anchor first count rs group each sound few) = inr (refl, nothing_left (nothing_found (nat_lt 0 anchor) _))
  of_claimed size (unread anchor first count rs group each some) = inr (refl, nothing_left refl)

-- ---- as the machine has it

module _ {dig : List ℕ → List ℕ} {k grown : Facts} {from : ℕ} {old new : List BlockState} {reads : List BlockRead} {adopted : Adopted} (adopts : Adopts dig k from old reads adopted grown new)
    (size : length old ≡ blocks_of k) {a f n : ℕ} (at : IsUnknownGroup k from a f n) where
  found_both : 0 < adopted.marked → LeavesBoth from a f n old new adopted grown
  found_both some = elim (of_claimed at size adopts) [
    | inl both ↦ both.1
    | inr nothing ↦ absurd (omega (arith, some, nothing.0))
  ]

  found_nothing : adopted.marked ≤ 0 → LeavesNothing from old new adopted grown
  found_nothing few = elim (of_claimed at size adopts) [
    | inl both ↦ absurd (omega (arith, few, both.0))
    | inr nothing ↦ nothing.1
  ]

  pub keys_answered : ProofKeysAreAnswered dig → 0 < adopted.marked → (key : HashKey) → Contains (run_keys grown a (range_with_len f n)) key → HasAnswer dig grown key
  keys_answered answered some key c = answered k grown from old new reads adopted key adopts (subst (λ keys. Contains keys key) (sym (found_both some).keys) c)

module _ {D : Type 0} {conduct : Conduct D} {dig : List ℕ → List ℕ} (file : ℕ) {k grown : Facts} {from : ℕ} {old new : StoreView D}
    (pending : List Hint) {adopted : Adopted} {reads : List BlockRead} (is : IsAdopted conduct dig k from old reads adopted grown new) where
  -- without a log
  pub takes_bare : ProofKeysAreAnswered dig → TakesGroup conduct dig file false from (file_view k old pending) adopted (file_view grown new pending)
  takes_bare answered =
      let some = some_proofs answered is.adopts in
      record { reads = reads; adopts = is; proofs = some.0; proves = some.1; leaves = refl }

  module _ (left : List Hint) (size : length old.states ≡ blocks_of k) where
    pub takes_known : from < blocks_of k → IsAnchor k from 0
        → left ≡ add_hints pending (marks_in file (filter (is_marked_at new.states) (unmarked_blocks old.states from (min 8 (blocks_of k - from)))))
        → TakesGroup conduct dig file true from (file_view k old pending) adopted (file_view grown new left)
    takes_known inside zeroth left_is =
        let leaves = of_known inside size zeroth is.adopts in
        record {
          reads = reads;
          adopts = is;
          proofs = [];
          proves = subst (λ keys. AllZip (IsProof dig grown) keys []) (sym leaves.keys) tt;
          leaves = left_is ∙ ap (λ blocks. add_hints pending (marks_in file blocks)) (sym leaves.marks);
        }

    module _ {a f n : ℕ} (at : IsUnknownGroup k from a f n) where
      pub takes_found : (runs : List FileRun) (waits : List Hint) → 0 < adopted.marked
          → (proofs : List Hint) × AllZip (IsProof dig grown) (run_keys grown a (range_with_len f n)) proofs × (waits ≡ add_hints pending proofs)
          → flat_map run_blocks runs ≡ unmarked_blocks old.states f n → left ≡ add_hints waits (marks_in file (flat_map run_blocks runs))
          → TakesGroup conduct dig file true from (file_view k old pending) adopted (file_view grown new left)
      takes_found runs waits some (proofs, zip, waits_is) runs_are left_is =
          let both = found_both is.adopts size at some in
          record {
            reads = reads;
            adopts = is;
            proofs = proofs;
            proves = subst (λ keys. AllZip (IsProof dig grown) keys proofs) (sym both.keys) zip;
            leaves = left_is ∙ ap (λ hs. add_hints hs (marks_in file (flat_map run_blocks runs))) waits_is
                ∙ sym (add_more pending proofs (marks_in file (flat_map run_blocks runs)))
                ∙ ap (λ blocks. add_hints pending (proofs ++ marks_in file blocks)) (runs_are ∙ sym both.marks);
          }

      pub takes_unfound : adopted.marked ≤ 0 → left ≡ pending → TakesGroup conduct dig file true from (file_view k old pending) adopted (file_view grown new left)
      takes_unfound few left_is =
          let nothing = found_nothing is.adopts size at few in
          record {
            reads = reads;
            adopts = is;
            proofs = [];
            proves = subst (λ keys. AllZip (IsProof dig grown) keys []) (sym nothing.keys) tt;
            leaves = left_is ∙ ap (λ blocks. add_hints pending (marks_in file blocks)) (sym nothing.marks);
          }
