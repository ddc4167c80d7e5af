-- Runs that follow one another.
use Rattle.std.proofs.Common.{◌≡◌, ◌≢◌, ℕ, ◌+◌, ◌-◌, ◌<◌, ◌≤◌, ◌⊎◌, zero, suc, inl, inr, append-nil, Bool, true, false, List, [], ◌∷◌, ◌++◌, length, take, drop, take-append-drop, get_or, arith, refl, sym, ap, subst, ◌∙◌, cond}
use Rattle.std.specs.Prelude.{◌||◌, IfNone, None, Option, Some}
use Rattle.std.specs.List.{All, count_by, list_any, range_with_len}
use Rattle.std.proofs.lemmas.List.{drop-append-le, get_or_append_left, length-take-le, take-append-le, take_more, take_rest}
use Rattle.std.proofs.lemmas.List.Elements.{All-drop, All-head, All-more, All-nil, All-push, All-tail}
use Rattle.std.proofs.lemmas.List.Folds.{list_any-append}
use Rattle.std.proofs.lemmas.List.Sums.{sum_by-append, sum_by-cons}
use Rattle.bt_check.proofs.RightBlocks.{ranges_joined}
use Rattle.bt_check.specs.declared.data_file.Finding.{Finding}
use Rattle.bt_parts.specs.Run.{IsWithin, is_fault, is_longer}
use Rattle.bt_parts.specs.Join.{BeginsElsewhere, IsChain, none, more, IsCountOf, IsJoined, SumsAreWhole, marked_in}
use Rattle.bt_parts.specs.JoinSteps.{Continues}
use Rattle.bt_parts.specs.declared.join.Joined.{Joined}
use Rattle.bt_parts.specs.declared.run.Run.{Run}

-- ---- the law

module _ (is_right : ℕ → Bool) (blocks : ℕ) where
  summed : (at reached : ℕ) (runs : List Run) → IsChain blocks at runs reached → All (IsCountOf is_right) runs
      → (marked_in runs ≡ count_by is_right (range_with_len at (reached - at))) × (at ≤ reached)
  summed _ _ _ (none at) all =
      let no_blocks : at - at ≡ 0 = omega arith in
      (sym (ap (λ n. count_by is_right (range_with_len at n)) no_blocks), omega arith)
  summed _ _ _ (more at run rest reached begins within chain) all =
      let others = summed run.to reached rest chain (All-tail (IsCountOf is_right) run rest all) in
      let own : run.marked ≡ count_by is_right (range_with_len at (run.to - at)) =
      All-head (IsCountOf is_right) run rest all ∙ ap (λ a. count_by is_right (range_with_len a (run.to - a))) begins in
      let forward : at ≤ run.to = omega (arith, begins, within.forward) in
      let length_of : run.to - at + (reached - run.to) ≡ reached - at = omega (arith, forward, others.1) in
      let joined = ap (count_by is_right) (ranges_joined at (run.to - at) (reached - run.to) run.to (omega (arith, forward)))
      ∙ ap (λ n. count_by is_right (range_with_len at n)) length_of in (
        sum_by-cons (λ (r : Run). r.marked) run rest ∙ ap (λ n. n + marked_in rest) own
            ∙ ap (λ n. count_by is_right (range_with_len at (run.to - at)) + n) others.0
            ∙ sym (sum_by-append (λ i. cond (is_right i) 1 0) (range_with_len at (run.to - at)) (range_with_len run.to (reached - run.to))) ∙ joined,
        omega (arith, forward, others.1),
      )

pub sums_whole : SumsAreWhole
sums_whole is_right blocks at reached runs chain all = (summed is_right blocks at reached runs chain all).0

-- ---- one run more

pub chain_more : (blocks at mid : ℕ) (runs : List Run) (run : Run) → IsChain blocks at runs mid → run.from ≡ mid → IsWithin blocks run
    → IsChain blocks at (runs ++ run ∷ []) run.to
chain_more blocks _ _ _ run (none at) begins within = more at run [] run.to begins within (none run.to)
chain_more blocks _ mid _ run (more at first rest reached from_at fits chain) begins within =
    more at first (rest ++ run ∷ []) run.to from_at fits (chain_more blocks first.to mid rest run chain begins within)

-- these runs of a file, which reach to a block, were joined
pub record IsJoining (file blocks : ℕ) (runs : List Run) (joined : Joined) : Type 0 where
  pub own : All (λ run. run.file ≡ file) runs
  pub chain : IsChain blocks 0 runs joined.reached
  pub inside : joined.reached ≤ blocks
  pub few : joined.finding.marked ≤ joined.reached
  pub blocks_are : joined.finding.blocks ≡ blocks
  pub marked : joined.finding.marked ≡ marked_in runs
  pub longer : joined.finding.longer ≡ list_any (λ run. is_longer run.met) runs
  pub faulty : joined.finding.faulty ≡ list_any (λ run. is_fault run.met) runs

or_false : (b : Bool) → (b || false) ≡ b
or_false true = refl
or_false false = refl

any_more : (p : Run → Bool) (runs : List Run) (run : Run) → list_any p (runs ++ run ∷ []) ≡ (list_any p runs || p run)
any_more p runs run = list_any-append p runs (run ∷ []) ∙ ap (λ b. list_any p runs || b) (or_false (p run))

sum_more : (runs : List Run) (run : Run) → marked_in (runs ++ run ∷ []) ≡ marked_in runs + run.marked
sum_more runs run =
    let one : marked_in (run ∷ []) ≡ run.marked + marked_in [] = sum_by-cons (λ (r : Run). r.marked) run [] in
    let all : marked_in (runs ++ run ∷ []) ≡ marked_in runs + marked_in (run ∷ []) = sum_by-append (λ (r : Run). r.marked) runs (run ∷ []) in
    let none : marked_in [] ≡ 0 = refl in
    omega (arith, one, all, none)

pub joining_more : (file blocks i : ℕ) (all : List Run) (d : Run) (old new : Joined) → i < length all
    → (get_or all i d).file ≡ file → IsJoining file blocks (take i all) old → Continues old (get_or all i d) new
    → IsJoining file blocks (take (i + 1) all) new
joining_more file blocks i all d old new below mine so_far next =
    let run = get_or all i d in
    let within : IsWithin blocks run = subst (λ b. IsWithin b run) so_far.blocks_are next.within in
    subst (λ l. IsJoining file blocks l new) (sym (take_more all i d below)) (record {
      own = All-push (λ (r : Run). r.file ≡ file) (take i all) run so_far.own mine;
      chain = subst (IsChain blocks 0 (take i all ++ run ∷ [])) (sym next.reached)
          (chain_more blocks 0 old.reached (take i all) run so_far.chain next.begins within);
      inside = omega (arith, next.reached, within.inside);
      few = omega (arith, next.marked, next.reached, next.begins, so_far.few, within.few, within.forward);
      blocks_are = next.blocks ∙ so_far.blocks_are;
      marked = next.marked ∙ ap (λ n. n + run.marked) so_far.marked ∙ sym (sum_more (take i all) run);
      longer = next.longer ∙ ap (λ b. b || is_longer run.met) so_far.longer ∙ sym (any_more (λ r. is_longer r.met) (take i all) run);
      faulty = next.faulty ∙ ap (λ b. b || is_fault run.met) so_far.faulty ∙ sym (any_more (λ r. is_fault r.met) (take i all) run);
    })

pub joining_begun : (file blocks : ℕ) (joined : Joined) → joined.reached ≡ 0 → joined.finding.marked ≡ 0 → joined.finding.blocks ≡ blocks
    → joined.finding.longer ≡ list_any (λ (run : Run). is_longer run.met) [] → joined.finding.faulty ≡ list_any (λ (run : Run). is_fault run.met) []
    → IsJoining file blocks [] joined
joining_begun file blocks joined at no_mark all longer faulty = record {
  own = All-nil (λ (run : Run). run.file ≡ file);
  chain = subst (IsChain blocks 0 []) (sym at) (none 0);
  inside = omega (arith, at);
  few = omega (arith, no_mark);
  blocks_are = all;
  marked = no_mark;
  longer = longer;
  faulty = faulty;
}

-- ---- all runs of the file

-- the first runs that are of the file lie among those before others
among : (file : ℕ) (own rest : List Run) (i : ℕ) → i ≤ length (own ++ rest) → All (λ run. run.file ≡ file) (take i (own ++ rest))
    → BeginsElsewhere file rest → i ≤ length own
among file own rest zero within all elsewhere = omega arith
among file [] [] (suc i) within all elsewhere = absurd (omega (arith, within))
among file [] (run ∷ rest) (suc i) within all elsewhere =
    absurd (elsewhere (All-head (λ (r : Run). r.file ≡ file) run (take i rest) all))
among file (run ∷ own) rest (suc i) within all elsewhere =
    let rest_within : i ≤ length (own ++ rest) = omega (arith, within) in
    let inside = among file own rest i rest_within (All-tail (λ (r : Run). r.file ≡ file) run (take i (own ++ rest)) all) elsewhere in
    omega (arith, inside)

chain_head : (blocks at end : ℕ) (run : Run) (rest : List Run) → IsChain blocks at (run ∷ rest) end
    → (run.from ≡ at) × IsWithin blocks run × IsChain blocks run.to rest end
chain_head blocks _ end _ _ (more at run rest reached begins within chain) = (begins, within, chain)

chain_nil : (blocks at end : ℕ) → IsChain blocks at [] end → at ≡ end
chain_nil blocks _ _ (none at) = refl

-- a chain reaches one block
chain_end : (blocks at m n : ℕ) (runs : List Run) → IsChain blocks at runs m → IsChain blocks at runs n → m ≡ n
chain_end blocks at m n [] one other = sym (chain_nil blocks at m one) ∙ chain_nil blocks at n other
chain_end blocks at m n (run ∷ rest) one other =
    chain_end blocks run.to m n rest (chain_head blocks at m run rest one).2 (chain_head blocks at n run rest other).2

-- and each run begins where those before it end
chain_at : (blocks at mid end i : ℕ) (runs : List Run) (d : Run) → i < length runs → IsChain blocks at runs end → IsChain blocks at (take i runs) mid
    → ((get_or runs i d).from ≡ mid) × IsWithin blocks (get_or runs i d)
chain_at blocks at mid end i [] d lt chain first = absurd (omega (arith, lt))
chain_at blocks at mid end zero (run ∷ rest) d lt chain first =
    let head = chain_head blocks at end run rest chain in
    (head.0 ∙ chain_nil blocks at mid first, head.1)
chain_at blocks at mid end (suc i) (run ∷ rest) d lt chain first =
    chain_at blocks run.to mid end i rest d (omega (arith, lt)) (chain_head blocks at end run rest chain).2
    (chain_head blocks at mid run (take i rest) first).2

goes_on : (file blocks i : ℕ) (own rest : List Run) (d : Run) (joined : Joined) → i < length (own ++ rest) → (get_or (own ++ rest) i d).file ≡ file
    → IsJoining file blocks (take i (own ++ rest)) joined → (finding : Finding) → BeginsElsewhere file rest → IsJoined file blocks own finding
    → ((get_or (own ++ rest) i d).from ≡ joined.reached) × IsWithin joined.finding.blocks (get_or (own ++ rest) i d)
goes_on file blocks i own rest d joined below mine so_far finding elsewhere is =
    let first : All (λ run. run.file ≡ file) (take (i + 1) (own ++ rest)) =
    All-more (λ (r : Run). r.file ≡ file) (own ++ rest) i d below so_far.own mine in
    let inside : i + 1 ≤ length own = among file own rest (i + 1) (omega (arith, below)) first elsewhere in
    let same : get_or (own ++ rest) i d ≡ get_or own i d = get_or_append_left own rest d i (omega (arith, inside)) in
    let taken : take i (own ++ rest) ≡ take i own = take-append-le i own rest (omega (arith, inside)) in
    let next = chain_at blocks 0 joined.reached blocks i own d (omega (arith, inside)) is.whole
    (subst (λ l. IsChain blocks 0 l joined.reached) taken so_far.chain) in (
      ap (λ (r : Run). r.from) same ∙ next.0,
      subst (λ b. IsWithin b (get_or (own ++ rest) i d)) (sym so_far.blocks_are) (subst (IsWithin blocks) (sym same) next.1),
    )

-- a run of the file does not go on where those before it end
pub never_whole : (file blocks i : ℕ) (all : List Run) (d : Run) (joined : Joined) → i < length all → (get_or all i d).file ≡ file
    → IsJoining file blocks (take i all) joined
    → ((get_or all i d).from ≡ joined.reached → ¬ IsWithin joined.finding.blocks (get_or all i d))
    → (own rest : List Run) (finding : Finding) → all ≡ own ++ rest → BeginsElsewhere file rest → ¬ IsJoined file blocks own finding
never_whole file blocks i all d joined below mine so_far bad own rest finding split elsewhere is =
    let P : List Run → Type 0 = λ l. i < length l → (get_or l i d).file ≡ file → IsJoining file blocks (take i l) joined
    → ((get_or l i d).from ≡ joined.reached) × IsWithin joined.finding.blocks (get_or l i d) in
    let next = subst P (sym split) (λ below mine so_far. goes_on file blocks i own rest d joined below mine so_far finding elsewhere is) below mine so_far in
    bad next.0 next.1

-- those before others are all that there are of the file
all_own : (file i : ℕ) (own rest : List Run) → i ≤ length (own ++ rest) → All (λ run. run.file ≡ file) (take i (own ++ rest))
    → BeginsElsewhere file (drop i (own ++ rest)) → All (λ run. run.file ≡ file) own → BeginsElsewhere file rest → own ≡ take i (own ++ rest)
all_own file i own rest within first ends mine elsewhere =
    let low : i ≤ length own = among file own rest i within first elsewhere in
    let taken : take i (own ++ rest) ≡ take i own = take-append-le i own rest low in
    let left : drop i (own ++ rest) ≡ drop i own ++ rest = drop-append-le i own rest low in
    let no_more : drop i own ≡ [] = nothing_behind (drop i own) (subst (BeginsElsewhere file) left ends)
    (All-drop (λ (r : Run). r.file ≡ file) i own mine) in
    sym (taken ∙ sym (append-nil (take i own)) ∙ ap (λ l. take i own ++ l) (sym no_more) ∙ take-append-drop i own)
  where
    nothing_behind : (runs : List Run) → BeginsElsewhere file (runs ++ rest) → All (λ run. run.file ≡ file) runs → runs ≡ []
    nothing_behind [] other all = refl
    nothing_behind (run ∷ runs) other all = absurd (other (All-head (λ (r : Run). r.file ≡ file) run runs all))

-- all blocks of the file were reached, by one run at least
pub joined_whole : (file blocks i : ℕ) (all : List Run) (joined : Joined) → IsJoining file blocks (take i all) joined → i ≤ length all
    → i ≢ 0 → blocks ≤ joined.reached → BeginsElsewhere file (drop i all)
    → (own : List Run) × (all ≡ own ++ take (length all - i) (drop i all)) × BeginsElsewhere file (take (length all - i) (drop i all))
    × IsJoined file blocks own joined.finding
joined_whole file blocks i all joined so_far within some enough elsewhere =
    let end : joined.reached ≡ blocks = omega (arith, so_far.inside, enough) in (
      take i all,
      sym (take-append-drop i all) ∙ ap (λ l. take i all ++ l) (sym (take_rest all i)),
      subst (BeginsElsewhere file) (sym (take_rest all i)) elsewhere,
      record {
        some = λ none. some (omega (arith, sym (length-take-le i all within) ∙ ap length none));
        own = so_far.own;
        whole = subst (IsChain blocks 0 (take i all)) end so_far.chain;
        blocks_are = so_far.blocks_are;
        marked = so_far.marked;
        longer = so_far.longer;
        faulty = so_far.faulty;
      },
    )

-- none is of the file, or they end before it does
pub not_whole : (file blocks i : ℕ) (all : List Run) (joined : Joined) → IsJoining file blocks (take i all) joined → i ≤ length all
    → BeginsElsewhere file (drop i all) → (i ≡ 0) ⊎ (joined.reached < blocks)
    → (own rest : List Run) (finding : Finding) → all ≡ own ++ rest → BeginsElsewhere file rest → ¬ IsJoined file blocks own finding
not_whole file blocks i all joined so_far within ends few own rest finding split elsewhere is =
    let P : List Run → Type 0 = λ l. i ≤ length l → All (λ run. run.file ≡ file) (take i l) → BeginsElsewhere file (drop i l) → own ≡ take i l in
    let same : own ≡ take i all =
    subst P (sym split) (λ within first ends. all_own file i own rest within first ends is.own elsewhere) within so_far.own ends in
    elim few [
      | inl zeroth ↦ is.some (same ∙ ap (λ n. take n all) zeroth)
      | inr early ↦
          let end : joined.reached ≡ blocks = chain_end blocks 0 joined.reached blocks (take i all) so_far.chain
          (subst (λ l. IsChain blocks 0 l blocks) same is.whole) in
          absurd (omega (arith, early, end))
    ]

-- after the first runs there is none, or one of another file
pub elsewhere_at : (file i : ℕ) (all : List Run) (d : Run) → (i < length all → (get_or all i d).file ≢ file) → BeginsElsewhere file (drop i all)
elsewhere_at file zero [] d other = tt
elsewhere_at file (suc i) [] d other = tt
elsewhere_at file zero (run ∷ all) d other = other (omega arith)
elsewhere_at file (suc i) (run ∷ all) d other = elsewhere_at file i all d (λ lt. other (omega (arith, lt)))

pub none_so : {A : Type 0} (r : Option A) (P : Type 0) → P → IfNone r P
none_so None P p = p
none_so (Some x) P p = tt
