-- Blocks that are read again, batch by batch.
use Rattle.std.proofs.Common.{◌≡◌, ◌≢◌, ℕ, zero, suc, ◌+◌, ◌-◌, ◌<◌, ◌≤◌, Bool, true, false, cond, List, [], ◌∷◌, ◌++◌, map, refl, sym, ap, ◌∙◌, subst, arith, append-nil, zero-add}
use Rattle.std.specs.Prelude.{slice_get, slice_set, filter, is_some, ◌&&◌}
use Rattle.std.specs.Option.{option_map_or}
use Rattle.std.specs.List.{count_by, range_with_len}
use Rattle.std.proofs.lemmas.List.{map-append}
use Rattle.std.proofs.lemmas.List.Elements.{filter-append}
use Rattle.std.proofs.lemmas.List.Sums.{sum_by-append, sum_by-cons}
use Rattle.bt_disk.specs.Conduct.{Conduct}
use Rattle.bt_disk.specs.Calls.{HasCalls}
use Rattle.bt_disk.proofs.CallLists.{has_none, has_then}
use Rattle.bt_sparse.specs.SparseTree.{Facts, value_at}
use Rattle.bt_store.specs.BlockStates.{is_marked, is_waiting}
use Rattle.bt_store.specs.FileStore.{StoreView}
use Rattle.bt_store.specs.Review.{is_waiting_at, waiting_blocks}
use Rattle.bt_store.specs.BlockReads.{BlockRead, given, failed, block_of, call_of, is_right, is_right_read, is_wrong_read, is_fault, after_read, judged, IsJudged}
use Rattle.bt_store.specs.ReviewSteps.{is_chosen, chosen_blocks, forgives, no_reads, tally_sum, IsTallyOf}
use Rattle.bt_store.proofs.Judgements.{judged-append}
use Rattle.bt_store.specs.declared.block_states.BlockState.{BlockState}
use Rattle.bt_store.specs.declared.block_states.BlockState.TheVariants.{Missing, Waiting, Marked}
use Rattle.bt_store.specs.declared.review.Review.{Review}
use Rattle.bt_store.specs.declared.review.Review.TheVariants.{Waiting as OfWaiting, Marked as OfMarked}
use Rattle.bt_store.specs.declared.review.Tally.{Tally}

-- ---- lists of blocks

pub range_split : (a m n : ℕ) → range_with_len a (m + n) ≡ range_with_len a m ++ range_with_len (a + m) n
range_split a zero n = ap (range_with_len a) (zero-add n) ∙ ap (λ x. range_with_len x n) (omega arith)
range_split a (suc m) n =
    let next : suc m + n ≡ suc (m + n) = omega arith in
    let place : a + 1 + m ≡ a + suc m = omega arith in
    ap (range_with_len a) next ∙ ap (λ xs. a ∷ xs) (range_split (a + 1) m n ∙ ap (λ x. range_with_len (a + 1) m ++ range_with_len x n) place)

filter_whole : (p : ℕ → Bool) (a n : ℕ) → ((j : ℕ) → j < n → p (a + j) ≡ true) → filter p (range_with_len a n) ≡ range_with_len a n
filter_whole p a zero all = refl
filter_whole p a (suc n) all =
    let here : p a ≡ true = ap p (omega arith) ∙ all 0 (omega arith) in
    let rest = filter_whole p (a + 1) n (λ j lt. ap p (omega arith) ∙ all (suc j) (omega arith)) in
    ap (λ b. cond b (a ∷ filter p (range_with_len (a + 1) n)) (filter p (range_with_len (a + 1) n))) here ∙ ap (λ l. a ∷ l) rest

filter_out : (p : ℕ → Bool) (a : ℕ) → p a ≡ false → filter p (range_with_len a 1) ≡ []
filter_out p a none = ap (λ b. cond b (a ∷ []) []) none

-- ---- which blocks are read

same_choice : (dig : List ℕ → List ℕ) (k : Facts) (review : Review) (xs ys : List BlockState) (i : ℕ) → slice_get xs i ≡ slice_get ys i
    → is_chosen dig k review xs i ≡ is_chosen dig k review ys i
same_choice dig k OfWaiting xs ys i e = ap (λ s. option_map_or is_waiting s false && is_some (value_at dig k 0 i)) e
same_choice dig k OfMarked xs ys i e = ap (λ s. option_map_or is_marked s false) e

-- ---- where no block waits

none_waits : (states : List BlockState) → count_by is_waiting states ≡ 0 → (i : ℕ) → is_waiting_at states i ≡ false
none_waits [] none i = refl
none_waits (Missing ∷ states) none zero = refl
none_waits (Missing ∷ states) none (suc i) = none_waits states (omega (arith, none, sum_by-cons (λ x. cond (is_waiting x) 1 0) Missing states)) i
none_waits (Waiting ∷ states) none i = absurd (omega (arith, none, sum_by-cons (λ x. cond (is_waiting x) 1 0) Waiting states))
none_waits (Marked ∷ states) none zero = refl
none_waits (Marked ∷ states) none (suc i) = none_waits states (omega (arith, none, sum_by-cons (λ x. cond (is_waiting x) 1 0) Marked states)) i

pub filter_none : (p : ℕ → Bool) (a n : ℕ) → ((i : ℕ) → a ≤ i → p i ≡ false) → filter p (range_with_len a n) ≡ []
filter_none p a zero none = refl
filter_none p a (suc n) none =
    ap (λ b. cond b (a ∷ filter p (range_with_len (a + 1) n)) (filter p (range_with_len (a + 1) n))) (none a (omega arith))
    ∙ filter_none p (a + 1) n (λ i le. none i (omega arith))

pub nothing_waits : (dig : List ℕ → List ℕ) (k : Facts) (states : List BlockState) (from count : ℕ) → count_by is_waiting states ≡ 0
    → waiting_blocks dig k states from count ≡ []
nothing_waits dig k states from count none =
    filter_none (λ i. is_waiting_at states i && is_some (value_at dig k 0 i)) from count
    (λ i le. ap (λ b. b && is_some (value_at dig k 0 i)) (none_waits states none i))

-- ---- states of other blocks

pub other_kept : {X : Type 0} (xs : List X) (i j : ℕ) (x : X) → j ≢ i → slice_get (slice_set xs i x) j ≡ slice_get xs j
other_kept [] i j x apart = refl
other_kept (y ∷ xs) zero zero x apart = absurd (apart refl)
other_kept (y ∷ xs) zero (suc j) x apart = refl
other_kept (y ∷ xs) (suc i) zero x apart = refl
other_kept (y ∷ xs) (suc i) (suc j) x apart = other_kept xs i j x (λ e. apart (ap (λ n. suc n) e))

pub read_kept : (dig : List ℕ → List ℕ) (k : Facts) (forgiving : Bool) (read : BlockRead) (states : List BlockState) (j : ℕ) → j ≢ block_of read
    → slice_get (after_read dig k forgiving read states) j ≡ slice_get states j
read_kept dig k forgiving (given i bytes) states j apart = other_kept states i j (cond (is_right dig k i bytes) Marked Missing) apart
read_kept dig k true (failed i) states j apart = refl
read_kept dig k false (failed i) states j apart = other_kept states i j Missing apart

pub past_kept : (dig : List ℕ → List ℕ) (k : Facts) (forgiving : Bool) (reads : List BlockRead) (states : List BlockState) (i n j : ℕ)
    → map block_of reads ≡ range_with_len i n → i + n ≤ j → slice_get (judged dig k forgiving reads states) j ≡ slice_get states j
past_kept dig k forgiving [] states i n j blocks past = refl
past_kept dig k forgiving (read ∷ reads) states i zero j blocks past = absurd cc
past_kept dig k forgiving (read ∷ reads) states i (suc n) j blocks past =
    let here : block_of read ≡ i = cc in
    let rest : map block_of reads ≡ range_with_len (i + 1) n = cc in
    past_kept dig k forgiving reads (after_read dig k forgiving read states) (i + 1) n j rest (omega arith)
    ∙ read_kept dig k forgiving read states j (λ e. absurd (omega arith))

-- ---- from batch to batch

module _ {D : Type 0} (conduct : Conduct D) (dig : List ℕ → List ℕ) (k : Facts) where
  -- some blocks, and then others
  judged_then : (forgiving : Bool) (a b c : StoreView D) (bs cs : List ℕ) (xs ys : List BlockRead) → IsJudged conduct dig k forgiving bs a xs b
      → IsJudged conduct dig k forgiving cs b ys c → IsJudged conduct dig k forgiving (bs ++ cs) a (xs ++ ys) c
  judged_then forgiving a b c bs cs xs ys f g =
      let calls = subst (λ n. HasCalls conduct b.disk (map (call_of n) ys) c.disk) f.same_file g.device.calls in
      record {
        device = record {
          in_order = map-append block_of xs ys ∙ ap (λ l. l ++ map block_of ys) f.device.in_order ∙ ap (λ l. bs ++ l) g.device.in_order;
          calls = subst (λ l. HasCalls conduct a.disk l c.disk) (sym (map-append (call_of a.file_length) xs ys))
              (has_then conduct a.disk b.disk c.disk _ _ f.device.calls calls);
        };
        states = g.states ∙ ap (judged dig k forgiving ys) f.states ∙ sym (judged-append dig k forgiving xs ys a.states);
        same_file = g.same_file ∙ f.same_file;
      }

  -- the chosen blocks up to one were judged, and those from there on are as they were
  pub record IsReviewedTo (review : Review) (from at : ℕ) (old new : StoreView D) (tally : Tally) : Type 0 where
    pub reads : List BlockRead
    pub judged : IsJudged conduct dig k (forgives review) (chosen_blocks dig k review old.states from (at - from)) old reads new
    pub counts : IsTallyOf dig k reads tally
    pub few : tally_sum tally ≤ at - from
    pub low : from ≤ at
    pub rest : (j : ℕ) → at ≤ j → slice_get new.states j ≡ slice_get old.states j

  pub reviewed_start : (review : Review) (from : ℕ) (s : StoreView D) → IsReviewedTo review from from s s no_reads
  reviewed_start review from s =
      let none : from - from ≡ 0 = omega arith in
      record {
        reads = [];
        judged = record {
          device = record { in_order = ap (chosen_blocks dig k review s.states from) (sym none); calls = has_none conduct s.disk };
          states = refl;
          same_file = refl;
        };
        counts = record { right = refl; wrong = refl; faults = refl };
        few = omega arith;
        low = omega arith;
        rest = λ j le. refl;
      }

  more_blocks : (review : Review) (from at n : ℕ) (states : List BlockState) → from ≤ at → chosen_blocks dig k review states from (at + n - from)
      ≡ chosen_blocks dig k review states from (at - from) ++ filter (is_chosen dig k review states) (range_with_len at n)
  more_blocks review from at n states low =
      let size : at + n - from ≡ at - from + n = omega arith in
      let place : from + (at - from) ≡ at = omega arith in
      let p = is_chosen dig k review states in
      ap (λ m. filter p (range_with_len from m)) size ∙ ap (filter p) (range_split from (at - from) n)
      ∙ filter-append p (range_with_len from (at - from)) (range_with_len (from + (at - from)) n)
      ∙ ap (λ x. filter p (range_with_len from (at - from)) ++ filter p (range_with_len x n)) place

  pub reviewed_past : (review : Review) (from at : ℕ) (old new : StoreView D) (tally : Tally) → IsReviewedTo review from at old new tally
      → is_chosen dig k review new.states at ≡ false → IsReviewedTo review from (at + 1) old new tally
  reviewed_past review from at old new tally before none =
      let not_chosen : is_chosen dig k review old.states at ≡ false = sym (same_choice dig k review new.states old.states at (before.rest at (omega arith))) ∙ none in
      let same : chosen_blocks dig k review old.states from (at + 1 - from) ≡ chosen_blocks dig k review old.states from (at - from) =
      more_blocks review from at 1 old.states before.low
      ∙ ap (λ l. chosen_blocks dig k review old.states from (at - from) ++ l) (filter_out (is_chosen dig k review old.states) at not_chosen) ∙ append-nil _ in
      record {
        reads = before.reads;
        judged = subst (λ l. IsJudged conduct dig k (forgives review) l old before.reads new) (sym same) before.judged;
        counts = before.counts;
        few = omega (arith, before.few, before.low);
        low = omega (arith, before.low);
        rest = λ j le. before.rest j (omega arith);
      }

  pub reviewed_batch : (review : Review) (from at n : ℕ) (a b c : StoreView D) (tally run total : Tally) (more : List BlockRead) → IsReviewedTo review from at a b tally
      → ((j : ℕ) → j < n → is_chosen dig k review b.states (at + j) ≡ true) → IsJudged conduct dig k (forgives review) (range_with_len at n) b more c
      → IsTallyOf dig k more run → tally_sum run ≡ n → total.right ≡ tally.right + run.right → total.wrong ≡ tally.wrong + run.wrong → total.faults ≡ tally.faults + run.faults
      → IsReviewedTo review from (at + n) a c total
  reviewed_batch review from at n a b c tally run total more before chosen judged counts sum right wrong faulty =
      let all : (j : ℕ) → j < n → is_chosen dig k review a.states (at + j) ≡ true = λ j lt.
      sym (same_choice dig k review b.states a.states (at + j) (before.rest (at + j) (omega arith))) ∙ chosen j lt in
      let blocks : chosen_blocks dig k review a.states from (at + n - from) ≡ chosen_blocks dig k review a.states from (at - from) ++ range_with_len at n =
      more_blocks review from at n a.states before.low
      ∙ ap (λ l. chosen_blocks dig k review a.states from (at - from) ++ l) (filter_whole (is_chosen dig k review a.states) at n all) in
      let both = judged_then (forgives review) a b c _ _ before.reads more before.judged judged in
      record {
        reads = before.reads ++ more;
        judged = subst (λ l. IsJudged conduct dig k (forgives review) l a (before.reads ++ more) c) (sym blocks) both;
        counts = record {
          right = omega (arith, right, before.counts.right, counts.right, sum_by-append (λ x. cond (is_right_read dig k x) 1 0) before.reads more);
          wrong = omega (arith, wrong, before.counts.wrong, counts.wrong, sum_by-append (λ x. cond (is_wrong_read dig k x) 1 0) before.reads more);
          faults = omega (arith, faulty, before.counts.faults, counts.faults, sum_by-append (λ x. cond (is_fault x) 1 0) before.reads more);
        };
        few = omega (arith, before.few, before.low, sum, right, wrong, faulty);
        low = omega (arith, before.low);
        rest = λ j le. ap (λ s. slice_get s j) judged.states ∙ past_kept dig k (forgives review) more b.states at n j judged.device.in_order (omega arith) ∙ before.rest j (omega arith);
      }
