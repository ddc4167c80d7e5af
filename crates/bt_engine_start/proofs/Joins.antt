-- Runs of marks: gathered, put in order, and joined.
use Rattle.std.proofs.Common.{rules, ◌≡◌, ℕ, suc, ◌+◌, ◌-◌, ◌<◌, ◌≤◌, max, inl, inr, Bool, true, false, cond, List, [], ◌∷◌, ◌++◌, refl, sym, ap, ◌∙◌, subst, arith}
use Rattle.std.specs.Prelude.{⊤, ◌||◌, ◌&&◌, ◌==◌, ◌⊎◌, nat_le, nat_lt, if◌then◌else◌}
use Rattle.std.specs.Bool.{MatchBool}
use Rattle.std.specs.List.{All, AllPairs, list_any, slice_index_or}
use Rattle.std.specs.List.Retain.{DedupsFrom, IsDeduped}
use Rattle.std.specs.List.Sorted.{IsPermutation, IsSorted}
use Rattle.std.specs.declared.cmp.Ordering.{Ordering}
use Rattle.std.specs.declared.cmp.Ordering.TheVariants.{Less, Equal, Greater}
use Rattle.std.specs.Ordering.{is_lt, ordering_then, nat_cmp}
use Rattle.std.proofs.lemmas.Bool.{cases_lt, lt-ltb, le-ltb, eqb-true, leb-true, ltb-true, eq-eqb, le-leb}
use Rattle.std.proofs.lemmas.List.Elements.{All-nil, All-cons}
use Rattle.std.proofs.lemmas.List.Kept.{AllPairs-cons}
use Rattle.std.proofs.lemmas.List.Sorted.{list_any-IsPermutation, IsPermutation-map}
use Rattle.bt_book.specs.declared.names.BlockId.{BlockId}
use Rattle.bt_hashreq.specs.declared.key.HashKey.{HashKey}
use Rattle.bt_resume.specs.declared.hint.Hint.{Hint}
use Rattle.bt_resume.specs.declared.hint.Hint.TheVariants.{Proof, Marks}
use Rattle.bt_machine.specs.Hints.{records, is_recorded}
use Rattle.bt_engine_start.specs.Runs.{marks_of_run, marks_of, LiesBefore, touches, AreRunsOf}
use Rattle.bt_engine_start.specs.declared.runs.MarkRun.{MarkRun}

-- no run has a block that no hint records
pub no_runs : {runs : List MarkRun} → runs ≡ [] → AreRunsOf [] runs
no_runs none = subst (λ (rs : List MarkRun). AreRunsOf [] rs) (sym none)
    (record { recorded = λ block. refl; ascending = λ i j d lt within. absurd (omega (arith, within)) })

-- a run has a block
abbrev has : BlockId → MarkRun → Bool
has b run = records (marks_of_run run) b

-- ---- an order

-- the one does not begin after the other
abbrev pub Rises : MarkRun → MarkRun → Type 0
Rises run next = (run.file < next.file) ⊎ ((run.file ≡ next.file) × (run.first ≤ next.first))

-- each after the other
abbrev pub Rise : MarkRun → List MarkRun → Type 0
Rise run [] = ⊤
Rise run (next ∷ runs) = Rises run next × Rise next runs

-- ---- two runs

abbrev pub taken : MarkRun → MarkRun → MarkRun
taken run next = record run { end = max run.end next.end }

abbrev pub joined_from : MarkRun → List MarkRun → List MarkRun
joined_from run [] = run ∷ []
joined_from run (next ∷ runs) = if touches run next then joined_from (taken run next) runs else run ∷ joined_from next runs

abbrev pub joined : List MarkRun → List MarkRun
joined [] = []
joined (run ∷ runs) = joined_from run runs

rises_on : (run next last : MarkRun) → Rises run next → Rises next last → Rises run last
rises_on run next last a b = search (arith, rules)

-- where a block is in a run
abbrev Covers : BlockId → MarkRun → Type 0
Covers b run = (run.file ≡ b.file) × (run.first ≤ b.block) × (b.block < run.end)

covered : (b : BlockId) (run : MarkRun) → Covers b run → has b run ≡ true
covered b run c =
    ap (λ t. t && (nat_le run.first b.block && nat_lt b.block (run.first + (run.end - run.first)))) (eq-eqb run.file b.file c.0)
    ∙ ap (λ t. t && nat_lt b.block (run.first + (run.end - run.first))) (le-leb run.first b.block c.1)
    ∙ lt-ltb b.block (run.first + (run.end - run.first)) (omega (arith, c.1, c.2))

both : (s t : Bool) → (s && t) ≡ true → (s ≡ true) × (t ≡ true)
both true true e = (refl, refl)
both true false e = absurd cc
both false t e = absurd cc

covers : (b : BlockId) (run : MarkRun) → has b run ≡ true → Covers b run
covers b run e =
    let outer = both (run.file == b.file) (nat_le run.first b.block && nat_lt b.block (run.first + (run.end - run.first))) e in
    let inner = both (nat_le run.first b.block) (nat_lt b.block (run.first + (run.end - run.first))) outer.1 in
    let low = leb-true run.first b.block inner.0 in
    let high = ltb-true b.block (run.first + (run.end - run.first)) inner.1 in
    (eqb-true run.file b.file outer.0, low, omega (arith, low, high))

either : (s t : Bool) → (s || t) ≡ true → (s ≡ true) ⊎ (t ≡ true)
either true t e = inl refl
either false t e = inr e

same_bool : (s t : Bool) → (s ≡ true → t ≡ true) → (t ≡ true → s ≡ true) → s ≡ t
same_bool true t there back = sym (there refl)
same_bool false true there back = back refl
same_bool false false there back = refl

left_or : (s t : Bool) → s ≡ true → (s || t) ≡ true
left_or true t e = refl
left_or false t e = absurd cc

right_or : (s t : Bool) → t ≡ true → (s || t) ≡ true
right_or true t e = refl
right_or false t e = e

touching : (run next : MarkRun) → touches run next ≡ true → (run.file ≡ next.file) × (next.first ≤ run.end)
touching run next e =
    let t = both (run.file == next.file) (nat_le next.first run.end) e in
    (eqb-true run.file next.file t.0, leb-true next.first run.end t.1)

begins_first : (run next : MarkRun) → Rises run next → run.file ≡ next.file → run.first ≤ next.first
begins_first run next (inl less) same = absurd (omega (arith, less, same))
begins_first run next (inr here) same = here.1

-- the two runs have what the one has that took in the other
taken_has : (run next : MarkRun) (b : BlockId) → Rises run next → touches run next ≡ true → has b (taken run next) ≡ (has b run || has b next)
taken_has run next b rises touch =
    let t = touching run next touch in
    let from = begins_first run next rises t.0 in
    same_bool (has b (taken run next)) (has b run || has b next)
    (λ e. (
    let c = covers b (taken run next) e in
    elim (cases_lt b.block run.end) [
      | inl before ↦ left_or (has b run) (has b next) (covered b run (c.0, c.1, before))
      | inr past ↦ right_or (has b run) (has b next) (covered b next (sym t.0 ∙ c.0, omega (arith, t.1, past), omega (arith, c.2, past)))
    ]
    ))
    (λ e. elim (either (has b run) (has b next) e) [
      | inl one ↦ (let c = covers b run one in covered b (taken run next) (c.0, c.1, omega (arith, c.2)))
      | inr other ↦ (let c = covers b next other in covered b (taken run next) (t.0 ∙ c.0, omega (arith, c.1, from), omega (arith, c.2)))
    ])

-- ---- runs in order

abbrev any_has : BlockId → List MarkRun → Bool
any_has b runs = list_any (has b) runs

or_assoc : (s t u : Bool) → ((s || t) || u) ≡ (s || (t || u))
or_assoc true t u = refl
or_assoc false t u = refl

rise_taken : (run next : MarkRun) (runs : List MarkRun) → Rises run next → Rise next runs → Rise (taken run next) runs
rise_taken run next [] one rise = tt
rise_taken run next (last ∷ runs) one rise = (rises_on run next last one rise.0, rise.1)

joined_has : (run : MarkRun) (runs : List MarkRun) (b : BlockId) → Rise run runs → any_has b (joined_from run runs) ≡ (has b run || any_has b runs)
joined_has run [] b rise = refl
joined_has run (next ∷ runs) b rise =
    by (touches run next) refl (joined_has (taken run next) runs b (rise_taken run next runs rise.0 rise.1)) (joined_has next runs b rise.1)
  where
    by : (t : Bool) → touches run next ≡ t → any_has b (joined_from (taken run next) runs) ≡ (has b (taken run next) || any_has b runs)
        → any_has b (joined_from next runs) ≡ (has b next || any_has b runs)
        → any_has b (if t then joined_from (taken run next) runs else run ∷ joined_from next runs) ≡ (has b run || (has b next || any_has b runs))
    by true touch one apart =
        one ∙ ap (λ s. s || any_has b runs) (taken_has run next b rise.0 touch) ∙ or_assoc (has b run) (has b next) (any_has b runs)
    by false touch one apart = ap (λ s. has b run || s) apart

-- what is joined does not begin before the first
joined_rises : (run : MarkRun) (runs : List MarkRun) → Rise run runs → All (Rises run) (joined_from run runs)
joined_rises run [] rise = All-cons (Rises run) run [] (inr (refl, omega arith)) (All-nil (Rises run))
joined_rises run (next ∷ runs) rise =
    by (touches run next) (joined_rises (taken run next) runs (rise_taken run next runs rise.0 rise.1)) (joined_rises next runs rise.1)
  where
    by : (t : Bool) → All (Rises (taken run next)) (joined_from (taken run next) runs) → All (Rises next) (joined_from next runs)
        → All (Rises run) (if t then joined_from (taken run next) runs else run ∷ joined_from next runs)
    by true one apart = one
    by false one apart = All-cons (Rises run) run (joined_from next runs) (inr (refl, omega arith))
        (λ i d lt. rises_on run next (slice_index_or (joined_from next runs) i d) rise.0 (apart i d lt))

before_all : (run next last : MarkRun) → Rises run next → touches run next ≡ false → Rises next last → LiesBefore run last
before_all run next last (inl less) apart (inl more) = inl (omega (arith, less, more))
before_all run next last (inl less) apart (inr here) = inl (omega (arith, less, here.0))
before_all run next last (inr there) apart (inl more) = inl (omega (arith, there.0, more))
before_all run next last (inr there) apart (inr here) = elim (cases_lt run.end next.first) [
  | inl before ↦ inr (there.0 ∙ here.0, omega (arith, before, here.1))
  | inr touching ↦ absurd (
      let yes = ap (λ t. t && nat_le next.first run.end) (eq-eqb run.file next.file there.0) ∙ le-leb next.first run.end touching in
      let clash = sym yes ∙ apart in
      cc
      )
]

joined_ascends : (run : MarkRun) (runs : List MarkRun) → Rise run runs → AllPairs LiesBefore (joined_from run runs)
joined_ascends run [] rise = AllPairs-cons LiesBefore run [] (All-nil (LiesBefore run)) (λ i j d less lt. absurd (omega (arith, lt)))
joined_ascends run (next ∷ runs) rise =
    by (touches run next) refl (joined_ascends (taken run next) runs (rise_taken run next runs rise.0 rise.1)) (joined_ascends next runs rise.1)
  where
    by : (t : Bool) → touches run next ≡ t → AllPairs LiesBefore (joined_from (taken run next) runs) → AllPairs LiesBefore (joined_from next runs)
        → AllPairs LiesBefore (if t then joined_from (taken run next) runs else run ∷ joined_from next runs)
    by true touch one more = one
    by false apart one more = AllPairs-cons LiesBefore run (joined_from next runs)
        (λ i d lt. before_all run next (slice_index_or (joined_from next runs) i d) rise.0 apart (joined_rises next runs rise.1 i d lt)) more

-- ---- what a sort and a joining leave

-- the order of a sort
pub in_order : (run next : MarkRun) → is_lt (ordering_then (nat_cmp next.file run.file) (ordering_then (nat_cmp next.first run.first) (nat_cmp next.end run.end))) ≡ false
    → Rises run next
in_order run next e = elim (cases_lt run.file next.file) [
  | inl less ↦ inl less
  | inr over ↦ elim (cases_lt next.file run.file) [
    | inl more ↦ absurd (let clash = sym e ∙ ap (λ o. is_lt (ordering_then o (ordering_then (nat_cmp next.first run.first) (nat_cmp next.end run.end)))) (is_less next.file run.file more) in cc)
    | inr within ↦ (
        let same : next.file ≡ run.file = omega (arith, over, within) in
        inr (
          sym same,
          elim (cases_lt next.first run.first) [
            | inl more ↦ absurd (
                let first = ap (λ o. is_lt (ordering_then o (ordering_then (nat_cmp next.first run.first) (nat_cmp next.end run.end)))) (is_equal next.file run.file same) in
                let second = ap (λ o. is_lt (ordering_then o (nat_cmp next.end run.end))) (is_less next.first run.first more) in
                let clash = sym e ∙ first ∙ second in
                cc
                )
            | inr low ↦ low
          ],
        )
        )
  ]
]
  where
    is_less : (x y : ℕ) → x < y → nat_cmp x y ≡ Less
    is_less x y lt = ap (λ t. cond t Less (cond (x == y) Equal Greater)) (lt-ltb x y lt)

    is_equal : (x y : ℕ) → x ≡ y → nat_cmp x y ≡ Equal
    is_equal x y same = ap (λ t. cond t Less (cond (x == y) Equal Greater)) (le-ltb x y (omega (arith, same))) ∙ ap (λ t. cond t Equal Greater) (eq-eqb x y same)

rise_sorted : (cmp : MarkRun → MarkRun → Ordering) → ((run next : MarkRun) → is_lt (cmp next run) ≡ false → Rises run next)
    → (run : MarkRun) (runs : List MarkRun) → IsSorted cmp (run ∷ runs) → Rise run runs
rise_sorted cmp rises run [] sorted = tt
rise_sorted cmp rises run (next ∷ runs) sorted = (
  rises run next (sorted 0 run (omega arith) (omega arith)),
  rise_sorted cmp rises next runs (λ k d low high. (
      let further : suc k + 1 ≡ suc (k + 1) = omega arith in
      subst (λ n. is_lt (cmp (slice_index_or (run ∷ next ∷ runs) n d) (slice_index_or (next ∷ runs) k d)) ≡ false) further
      (sorted (suc k) d (omega arith) (omega (arith, high)))
      )),
)

module _ {F : Type 0} (R : F → MarkRun → MarkRun → Bool → F → MarkRun → MarkRun → Type 0)
    (h : (f : F) (next run : MarkRun) (b : Bool) (f' : F) (next' run' : MarkRun) → R f next run b f' next' run'
    → (b ≡ touches run next) × (next' ≡ next) × (run' ≡ (if b then taken run next else run))) where
  deduped_from : (f : F) (run : MarkRun) (runs left : List MarkRun) → DedupsFrom R f run runs left → left ≡ joined_from run runs
  deduped_from f run [] left told = told
  deduped_from f run (next ∷ runs) left told =
      let one = h f next run told.0 told.1 told.2 told.3 told.4 in
      by told.0 told.1 told.2 told.3 one.0 one.1 one.2 told.5 (λ r xs more. deduped_from told.1 r runs xs more)
    where
      by : (b : Bool) (f' : F) (next' run' : MarkRun) → b ≡ touches run next → next' ≡ next → run' ≡ (if b then taken run next else run)
          → MatchBool b (DedupsFrom R f' run' runs left) ((zs : List MarkRun) × DedupsFrom R f' next' runs zs × (left ≡ run' ∷ zs))
          → ((r : MarkRun) (xs : List MarkRun) → DedupsFrom R f' r runs xs → xs ≡ joined_from r runs)
          → left ≡ (if touches run next then joined_from (taken run next) runs else run ∷ joined_from next runs)
      by true f' next' run' e same new told again =
          again run' left told ∙ ap (λ r. joined_from r runs) new ∙ ap (λ t. if t then joined_from (taken run next) runs else run ∷ joined_from next runs) e
      by false f' next' run' e same new told again =
          told.2 ∙ ap (λ xs. run' ∷ xs) (again next' told.0 told.1 ∙ ap (λ r. joined_from r runs) same) ∙ ap (λ r. r ∷ joined_from next runs) new
          ∙ ap (λ t. if t then joined_from (taken run next) runs else run ∷ joined_from next runs) e

  deduped : (f : F) (mid new : List MarkRun) → IsDeduped R f mid new → new ≡ joined mid
  deduped f [] new told = told.told
  deduped f (run ∷ runs) new told = deduped_from f run runs new told.told

has_any : (runs : List MarkRun) (b : BlockId) → is_recorded (marks_of runs) b ≡ any_has b runs
has_any [] b = refl
has_any (run ∷ runs) b = ap (λ s. has b run || s) (has_any runs b)

joined_are : (cmp : MarkRun → MarkRun → Ordering) → ((run next : MarkRun) → is_lt (cmp next run) ≡ false → Rises run next)
    → (runs : List MarkRun) → IsSorted cmp runs → AreRunsOf (marks_of runs) (joined runs)
joined_are cmp rises [] sorted = record { recorded = λ b. refl; ascending = λ i j d less lt. absurd (omega (arith, lt)) }
joined_are cmp rises (run ∷ runs) sorted =
    let rise = rise_sorted cmp rises run runs sorted in
    record {
      recorded = λ b. has_any (joined_from run runs) b ∙ joined_has run runs b rise ∙ sym (has_any (run ∷ runs) b);
      ascending = joined_ascends run runs rise;
    }

pub runs_of : {F : Type 0} (R : F → MarkRun → MarkRun → Bool → F → MarkRun → MarkRun → Type 0)
    → ((f : F) (next run : MarkRun) (b : Bool) (f' : F) (next' run' : MarkRun) → R f next run b f' next' run'
    → (b ≡ touches run next) × (next' ≡ next) × (run' ≡ (if b then taken run next else run)))
    → (cmp : MarkRun → MarkRun → Ordering) → ((run next : MarkRun) → is_lt (cmp next run) ≡ false → Rises run next)
    → {old mid new : List MarkRun} {f : F} → IsPermutation old mid → IsSorted cmp mid → IsDeduped R f mid new → AreRunsOf (marks_of old) new
runs_of R h cmp rises {old} {mid} {new} {f} moved sorted told =
    let are = joined_are cmp rises mid sorted in
    record {
      recorded = λ b. (
          ap (λ xs. is_recorded (marks_of xs) b) (deduped R h f mid new told) ∙ are.recorded b
          ∙ sym (list_any-IsPermutation (λ hint. records hint b) (marks_of old) (marks_of mid) (IsPermutation-map marks_of_run old mid moved))
          );
      ascending = subst (λ xs. AllPairs LiesBefore xs) (sym (deduped R h f mid new told)) are.ascending;
    }

-- ---- runs that are gathered

-- a run that is put after others is not yet among those that are to come
pub one_gathered : (runs : List MarkRun) (run : MarkRun) (rest : List Hint) (b : BlockId)
    → (is_recorded (marks_of (runs ++ run ∷ [])) b || is_recorded rest b) ≡ (is_recorded (marks_of runs) b || is_recorded (marks_of_run run ∷ rest) b)
one_gathered [] run rest b = or_assoc (has b run) false (is_recorded rest b)
one_gathered (first ∷ runs) run rest b =
    or_assoc (has b first) (is_recorded (marks_of (runs ++ run ∷ [])) b) (is_recorded rest b)
    ∙ ap (λ s. has b first || s) (one_gathered runs run rest b)
    ∙ sym (or_assoc (has b first) (is_recorded (marks_of runs) b) (is_recorded (marks_of_run run ∷ rest) b))

pub gathers_on : (runs : List MarkRun) (file first count end : ℕ) (hints rest : List Hint) (b : BlockId) {all : Bool} → end ≡ first + count
    → hints ≡ Marks file first count ∷ rest → (is_recorded (marks_of runs) b || is_recorded hints b) ≡ all
    → (is_recorded (marks_of (runs ++ record { file = file; first = first; end = end } ∷ [])) b || is_recorded rest b) ≡ all
gathers_on runs file first count end hints rest b ends are leads =
    let size : end - first ≡ count = omega (arith, ends) in
    one_gathered runs (record { file = file; first = first; end = end }) rest b
    ∙ ap (λ n. is_recorded (marks_of runs) b || is_recorded (Marks file first n ∷ rest) b) size
    ∙ ap (λ (hs : List Hint). is_recorded (marks_of runs) b || is_recorded hs b) (sym are) ∙ leads

-- a proof has no block
pub gathers_past : (runs : List MarkRun) (key : HashKey) (digests : List (List ℕ)) (hints rest : List Hint) (b : BlockId) {all : Bool}
    → hints ≡ Proof key digests ∷ rest → (is_recorded (marks_of runs) b || is_recorded hints b) ≡ all
    → (is_recorded (marks_of runs) b || is_recorded rest b) ≡ all
gathers_past runs key digests hints rest b are leads = ap (λ (hs : List Hint). is_recorded (marks_of runs) b || is_recorded hs b) (sym are) ∙ leads

pub all_gathered : (s : Bool) {all : Bool} → (s || false) ≡ all → s ≡ all
all_gathered true is = is
all_gathered false is = is

-- runs of what was gathered are runs of the hints
pub runs_then : {hints gathered : List Hint} {runs : List MarkRun} → ((b : BlockId) → is_recorded gathered b ≡ is_recorded hints b)
    → AreRunsOf gathered runs → AreRunsOf hints runs
runs_then same are = record { recorded = λ b. are.recorded b ∙ same b; ascending = are.ascending }
