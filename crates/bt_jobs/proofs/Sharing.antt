-- A check of a share of a file's blocks, group by group and run by run.
use Rattle.std.proofs.Common.{◌≡◌, ℕ, ◌+◌, ◌-◌, ◌<◌, ◌≤◌, ◌↔◌, ◌⊎◌, ◌||◌, Bool, true, false, true≢false, Option, IsTrue, List, [], ◌∷◌, ◌++◌, map, length, inl, inr, arith, refl, sym, ap, ◌∙◌, subst, cond, append-nil, append_assoc, length-append}
use Rattle.std.specs.Io.KnownBytes.{Appends}
use Rattle.std.specs.List.{All, count_by, flat_map, list_any, range_with_len}
use Rattle.std.proofs.KnownBytes.{Appends-kept, Appends-nil, Appends-trans}
use Rattle.std.proofs.lemmas.Bool.{cases_lt}
use Rattle.std.proofs.lemmas.Grind.{flat_map-append}
use Rattle.std.proofs.lemmas.List.{length-map, map-append}
use Rattle.std.proofs.lemmas.List.Elements.{All-head, All-nil, All-push, All-tail, All-cons}
use Rattle.std.proofs.lemmas.List.Folds.{list_any-append}
use Rattle.std.proofs.lemmas.List.FromFn.{length-range_with_len}
use Rattle.std.proofs.lemmas.List.Sums.{sum_by-append}
use Rattle.sha2.specs.Sha256.{sha256}
use Rattle.bt_tree.specs.Blocks.{block_count}
use Rattle.bt_disk.specs.Conduct.{Conduct}
use Rattle.bt_disk.specs.Calls.{HasCalls}
use Rattle.bt_disk.proofs.CallLists.{has_none, has_then}
use Rattle.bt_sparse.specs.SparseTree.{Facts}
use Rattle.bt_store.specs.FileStore.{StoreView}
use Rattle.bt_store.specs.BlockReads.{BlockRead, block_of, call_of, fault_count, is_fault as is_failed}
use Rattle.bt_store.specs.SmallGroups.{AdoptsInTurn, none as no_group, more as more_groups, AreAdopted}
use Rattle.bt_store.specs.declared.adoption.Adopted.{Adopted}
use Rattle.bt_store.specs.declared.small_groups.AdoptedGroups.{AdoptedGroups}
use Rattle.bt_store.specs.declared.block_states.BlockState.{BlockState}
use Rattle.bt_check.specs.CheckSteps.{HoldsLeaves, leaves_after}
use Rattle.bt_check.specs.EntryCheck.{is_node_read}
use Rattle.bt_check.specs.Finding.{KnownLayer, is_right_block}
use Rattle.bt_check.proofs.RightBlocks.{count_same, count_few, ranges_joined}
use Rattle.bt_check.proofs.AdoptedGroups.{IsLearned, IsGroupDone, group_done, right_kept}
use Rattle.bt_parts.specs.Join.{IsChain, none, more, IsCountOf}
use Rattle.bt_parts.specs.Line.{run_line}
use Rattle.bt_parts.specs.Run.{IsWithin, is_fault, is_longer}
use Rattle.bt_parts.specs.declared.run.Met.TheVariants.{Nothing, Unread}
use Rattle.bt_parts.specs.declared.run.Run.{Run}
use Rattle.bt_parts.proofs.Chains.{chain_more}
use Rattle.bt_jobs.specs.Share.{IsPieceEdge, IsShareCheck, IsWithGroups, TellsOrKeeps, run_at, runs_text, share_reads}
use Rattle.bt_jobs.proofs.Unread.{begun_learned, behind_more, learned_after, length_behind, reads_behind, right_in_share}

-- ---- groups

-- What groups add to the reads of the blocks before them.
record IsGrown (n : ℕ) (known : KnownLayer) (leaves : ℕ → Option (List ℕ)) (at : ℕ) (before reads : List BlockRead) (groups : AdoptedGroups) (grown : Facts)
    : Type 0 where
  pub onward : at ≤ groups.next
  pub within : groups.next ≤ block_count n
  pub in_order : map block_of reads ≡ range_with_len at (groups.next - at)
  pub marks : groups.marked ≡ count_by (is_right_block (is_node_read (before ++ reads) n) known leaves) (range_with_len at (groups.next - at))
  pub faults : groups.faults ≡ fault_count reads
  pub kept : (i : ℕ) → i < at
      → is_right_block (is_node_read (before ++ reads) n) known leaves i ≡ is_right_block (is_node_read before n) known leaves i
  pub learned : IsLearned n known leaves (before ++ reads) groups.next grown

module _ (n : ℕ) (known : KnownLayer) (leaves : ℕ → Option (List ℕ)) (at : ℕ) (before : List BlockRead) (begins : length before ≡ at)
    (inside : at ≤ block_count n) where
  -- one group more
  module _ (reads last : List BlockRead) (sofar : AdoptedGroups) (mid : Facts) (g : IsGrown n known leaves at before reads sofar mid)
      (one : Adopted) (grown : Facts)
      (done : IsGroupDone n known leaves sofar.next (before ++ reads) last one grown)
      (kept : (i : ℕ) → i < sofar.next → is_right_block (is_node_read ((before ++ reads) ++ last) n) known leaves i
      ≡ is_right_block (is_node_read (before ++ reads) n) known leaves i) where
    grown_next : IsGrown n known leaves at before (reads ++ last) (record { next = one.next; marked = sofar.marked + one.marked; faults = sofar.faults + one.faults }) grown
    grown_next =
        let assoc : (before ++ reads) ++ last ≡ before ++ (reads ++ last) = append_assoc before reads last in
        let p : ℕ → Bool = is_right_block (is_node_read ((before ++ reads) ++ last) n) known leaves in
        let size : (sofar.next - at) + (one.next - sofar.next) ≡ one.next - at = omega (arith, g.onward, done.later) in
        let first : count_by p (range_with_len at (sofar.next - at)) ≡ sofar.marked =
        count_same p (is_right_block (is_node_read (before ++ reads) n) known leaves) at (sofar.next - at)
        (λ i low high. kept i (omega (arith, high, g.onward))) ∙ sym g.marks in
        let both : count_by p (range_with_len at (one.next - at)) ≡ count_by p (range_with_len at (sofar.next - at)) + count_by p (range_with_len sofar.next (one.next - sofar.next)) =
        ap (λ m. count_by p (range_with_len at m)) (sym size)
        ∙ sym (ap (count_by p) (ranges_joined at (sofar.next - at) (one.next - sofar.next) sofar.next (omega (arith, g.onward))))
        ∙ sum_by-append (λ i. cond (p i) 1 0) (range_with_len at (sofar.next - at)) (range_with_len sofar.next (one.next - sofar.next)) in
        let all : sofar.marked + one.marked ≡ count_by p (range_with_len at (one.next - at)) =
        ap (λ m. m + one.marked) (sym first) ∙ ap (λ m. count_by p (range_with_len at (sofar.next - at)) + m) done.marks ∙ sym both in
        record {
          onward = omega (arith, g.onward, done.later);
          within = done.inside;
          in_order = map-append block_of reads last ∙ ap (λ l. l ++ map block_of last) g.in_order ∙ ap (λ l. range_with_len at (sofar.next - at) ++ l) done.in_order
              ∙ ranges_joined at (sofar.next - at) (one.next - sofar.next) sofar.next (omega (arith, g.onward)) ∙ ap (range_with_len at) size;
          marks = subst (λ l. sofar.marked + one.marked ≡ count_by (is_right_block (is_node_read l n) known leaves) (range_with_len at (one.next - at))) assoc all;
          faults = omega (arith, g.faults, done.faults, sum_by-append (λ r. cond (is_failed r) 1 0) reads last);
          kept = λ i lt. subst (λ l. is_right_block (is_node_read l n) known leaves i ≡ is_right_block (is_node_read before n) known leaves i) assoc
              (kept i (omega (arith, lt, g.onward)) ∙ g.kept i lt);
          learned = subst (λ l. IsLearned n known leaves l one.next grown) assoc done.learned;
        }

  grown_turn : (k : Facts) → IsLearned n known leaves before at k
      → (states : List BlockState) (reads : List BlockRead) (groups : AdoptedGroups) (grown : Facts) (after : List BlockState)
      → AdoptsInTurn sha256 k at states reads groups grown after → IsGrown n known leaves at before reads groups grown
  grown_turn k learned states _ _ _ _ no_group =
      let none_left : at - at ≡ 0 = omega arith in
      record {
        onward = omega arith;
        within = inside;
        in_order = ap (range_with_len at) (sym none_left);
        marks = ap (λ m. count_by (is_right_block (is_node_read (before ++ []) n) known leaves) (range_with_len at m)) (sym none_left);
        faults = refl;
        kept = λ i lt. ap (λ l. is_right_block (is_node_read l n) known leaves i) (append-nil before);
        learned = subst (λ l. IsLearned n known leaves l at k) (sym (append-nil before)) learned;
      }
  grown_turn k learned states _ _ _ _ (more_groups reads last sofar one mid grown between after turn real step) =
      let g = grown_turn k learned states reads sofar mid between turn in
      let here : sofar.next < block_count n = subst (λ m. sofar.next < block_count m) g.learned.tree.length_is real in
      let size : length reads ≡ sofar.next - at = sym (length-map reads block_of) ∙ ap length g.in_order ∙ length-range_with_len at (sofar.next - at) in
      let starts : length (before ++ reads) ≡ sofar.next = omega (arith, length-append before reads, begins, size, g.onward) in
      let done = group_done n known leaves mid sofar.next (before ++ reads) g.learned here starts between after last one grown step in
      grown_next reads last sofar mid g one grown done (right_kept n known leaves mid sofar.next (before ++ reads) g.learned here starts last one.next done.later)

-- ---- runs

-- the runs lie one after another
chain_forward : (blocks at : ℕ) (runs : List Run) (reached : ℕ) → IsChain blocks at runs reached → at ≤ reached
chain_forward blocks _ _ _ (none at) = omega arith
chain_forward blocks _ _ _ (more at run rest reached begins within chain) =
    omega (arith, begins, within.forward, chain_forward blocks run.to rest reached chain)

-- the counts of runs stay where the blocks that are right stay
counts_kept : (p q : ℕ → Bool) (blocks at : ℕ) (runs : List Run) (reached : ℕ) → IsChain blocks at runs reached
    → ((i : ℕ) → i < reached → p i ≡ q i) → All (IsCountOf q) runs → All (IsCountOf p) runs
counts_kept p q blocks _ _ _ (none at) same counts = All-nil (IsCountOf p)
counts_kept p q blocks _ _ _ (more at run rest reached begins within chain) same counts =
    let last = chain_forward blocks run.to rest reached chain in
    All-cons (IsCountOf p) run rest
    (All-head (IsCountOf q) run rest counts
    ∙ sym (count_same p q run.from (run.to - run.from) (λ i low high. same i (omega (arith, high, last, within.forward)))))
    (counts_kept p q blocks run.to rest reached chain same (All-tail (IsCountOf q) run rest counts))

or_false : (b : Bool) → (b || false) ≡ b
or_false true = refl
or_false false = refl

pub any_more : (p : Run → Bool) (runs : List Run) (run : Run) → list_any p (runs ++ run ∷ []) ≡ (list_any p runs || p run)
any_more p runs run = list_any-append p runs (run ∷ []) ∙ ap (λ b. list_any p runs || b) (or_false (p run))

or_true : (b : Bool) → (b || true) ≡ true
or_true true = refl
or_true false = refl

-- The blocks before the end of a run were read, and the runs before it told.
pub record IsSharing {D : Type 0} (conduct : Conduct D) (n : ℕ) (known : KnownLayer) (leaves : ℕ → Option (List ℕ))
    (disk : D) (file from : ℕ) (run : Run) (k : Facts) (store : StoreView D) (old new : Option (List ℕ)) : Type 0 where
  pub reads : List BlockRead
  pub runs : List Run
  pub calls : HasCalls conduct disk (map (call_of n) reads) store.disk
  pub each : map block_of reads ≡ range_with_len from (run.to - from)
  pub own : All (λ r. r.file ≡ file) runs
  pub mine : run.file ≡ file
  pub chain : IsChain (block_count n) from runs run.from
  pub counts : All (IsCountOf (is_right_block (is_node_read (reads_behind from reads) n) known leaves)) runs
  pub count : IsCountOf (is_right_block (is_node_read (reads_behind from reads) n) known leaves) run
  pub begun : from ≤ run.from
  pub forward : run.from ≤ run.to
  pub within : run.to ≤ block_count n
  pub fault : IsTrue (list_any (λ r. is_fault r.met) runs || is_fault run.met) ↔ (0 < fault_count reads)
  pub no_length : list_any (λ r. is_longer r.met) runs ≡ false
  pub not_longer : is_longer run.met ≡ false
  pub same_file : store.file_length ≡ n
  pub learned : IsLearned n known leaves (reads_behind from reads) run.to k
  pub lines : Appends old new (runs_text runs)

module _ {D : Type 0} (conduct : Conduct D) (n : ℕ) (known : KnownLayer) (leaves : ℕ → Option (List ℕ))
    (disk : D) (file from : ℕ) where
  pub sharing_begun : (run : Run) (k : Facts) (store : StoreView D) (old : Option (List ℕ)) → HoldsLeaves n known leaves k → IsPieceEdge known n from
      → from ≤ block_count n → store.file_length ≡ n → store.disk ≡ disk → run ≡ run_at file from
      → IsSharing conduct n known leaves disk file from run k store old old
  sharing_begun run k store old holds edge inside same on is =
      subst (λ r. IsSharing conduct n known leaves disk file from r k store old old) (sym is) (
      let none_left : from - from ≡ 0 = omega arith in
      record {
        reads = [];
        runs = [];
        calls = subst (HasCalls conduct disk []) (sym on) (has_none conduct disk);
        each = ap (range_with_len from) (sym none_left);
        own = All-nil (λ (r : Run). r.file ≡ file);
        mine = refl;
        chain = none from;
        counts = All-nil (IsCountOf (is_right_block (is_node_read (reads_behind from []) n) known leaves));
        count = ap (λ m. count_by (is_right_block (is_node_read (reads_behind from []) n) known leaves) (range_with_len from m)) (sym none_left);
        begun = omega arith;
        forward = omega arith;
        within = inside;
        fault = (λ t. absurd (true≢false (sym t)), λ some. absurd (omega (arith, some)));
        no_length = refl;
        not_longer = refl;
        same_file = same;
        learned = begun_learned n known leaves from k holds edge inside;
        lines = Appends-nil old;
      }
      )

  module _ (run : Run) (k : Facts) (store : StoreView D) (old new : Option (List ℕ))
      (s : IsSharing conduct n known leaves disk file from run k store old new) where
    -- the groups that come next
    module _ (reads : List BlockRead) (groups : AdoptedGroups) (grown : Facts) (after : StoreView D)
        (step : AreAdopted conduct sha256 k run.to store reads groups grown after) where
      abbrev before : List BlockRead
      before = reads_behind from s.reads

      size : length before ≡ run.to
      size =
          let read : length s.reads ≡ run.to - from = sym (length-map s.reads block_of) ∙ ap length s.each ∙ length-range_with_len from (run.to - from) in
          omega (arith, length_behind from s.reads, read, s.begun, s.forward)

      add : IsGrown n known leaves run.to before reads groups grown
      add = grown_turn n known leaves run.to before size s.within k s.learned store.states reads groups grown after.states step.adopts

      abbrev right : ℕ → Bool
      right = is_right_block (is_node_read (before ++ reads) n) known leaves

      own_count : run.marked + groups.marked ≡ count_by right (range_with_len run.from (groups.next - run.from))
      own_count =
          let first : count_by right (range_with_len run.from (run.to - run.from)) ≡ run.marked =
          count_same right (is_right_block (is_node_read before n) known leaves) run.from (run.to - run.from)
          (λ i low high. add.kept i (omega (arith, high, s.forward))) ∙ sym s.count in
          let whole : (run.to - run.from) + (groups.next - run.to) ≡ groups.next - run.from = omega (arith, s.forward, add.onward) in
          let both = ap (λ m. count_by right (range_with_len run.from m)) (sym whole)
          ∙ sym (ap (count_by right) (ranges_joined run.from (run.to - run.from) (groups.next - run.to) run.to (omega (arith, s.forward))))
          ∙ sum_by-append (λ i. cond (right i) 1 0) (range_with_len run.from (run.to - run.from)) (range_with_len run.to (groups.next - run.to)) in
          ap (λ m. m + groups.marked) (sym first) ∙ ap (λ m. count_by right (range_with_len run.from (run.to - run.from)) + m) add.marks ∙ sym both

      pub sum_is_few : run.marked + groups.marked ≤ block_count n
      sum_is_few = omega (arith, own_count, count_few right run.from (groups.next - run.from), add.within)

      met_is : (next : Run) → IsWithGroups run groups next
          → ((0 < groups.faults) × (next.met ≡ Unread)) ⊎ ((groups.faults ≡ 0) × (next.met ≡ run.met))
      met_is next is = elim (cases_lt 0 groups.faults) [
        | inl some ↦ inl (some, is.faulty some)
        | inr le ↦ (let zeroth : groups.faults ≡ 0 = omega (arith, le) in inr (zeroth, is.sound zeroth))
      ]

      all_faults : fault_count (s.reads ++ reads) ≡ fault_count s.reads + groups.faults
      all_faults = omega (arith, sum_by-append (λ r. cond (is_failed r) 1 0) s.reads reads, add.faults)

      fault_then : (next : Run) → IsWithGroups run groups next
          → IsTrue (list_any (λ r. is_fault r.met) s.runs || is_fault next.met) ↔ (0 < fault_count (s.reads ++ reads))
      fault_then next is = elim (met_is next is) [
        | inl some ↦ (
          λ t. omega (arith, all_faults, some.0),
          λ lt. ap (λ m. list_any (λ r. is_fault r.met) s.runs || is_fault m) some.1 ∙ or_true (list_any (λ r. is_fault r.met) s.runs),
        )
        | inr sound ↦ (
          λ t. omega (arith, all_faults, s.fault.0 (sym (ap (λ m. list_any (λ r. is_fault r.met) s.runs || is_fault m) sound.1) ∙ t)),
          λ lt. ap (λ m. list_any (λ r. is_fault r.met) s.runs || is_fault m) sound.1 ∙ s.fault.1 (omega (arith, all_faults, lt, sound.0)),
        )
      ]

      longer_then : (next : Run) → IsWithGroups run groups next → is_longer next.met ≡ false
      longer_then next is = elim (met_is next is) [
        | inl some ↦ ap is_longer some.1
        | inr sound ↦ ap is_longer sound.1 ∙ s.not_longer
      ]

      pub sharing_more : (next : Run) → IsWithGroups run groups next
          → IsSharing conduct n known leaves disk file from next grown after old new
      sharing_more next is =
          let behind : before ++ reads ≡ reads_behind from (s.reads ++ reads) = behind_more from s.reads reads in
          let made = has_then conduct disk store.disk after.disk (map (call_of n) s.reads) (map (call_of n) reads) s.calls
          (subst (λ m. HasCalls conduct store.disk (map (call_of m) reads) after.disk) s.same_file step.calls) in
          let span : (run.to - from) + (groups.next - run.to) ≡ groups.next - from = omega (arith, s.begun, s.forward, add.onward) in
          let here : IsCountOf right next =
          is.marked ∙ own_count ∙ ap (λ a. count_by right (range_with_len a (groups.next - a))) (sym is.from)
          ∙ ap (λ e. count_by right (range_with_len next.from (e - next.from))) (sym is.to) in
          record {
            reads = s.reads ++ reads;
            runs = s.runs;
            calls = subst (λ l. HasCalls conduct disk l after.disk) (sym (map-append (call_of n) s.reads reads)) made;
            each = map-append block_of s.reads reads ∙ ap (λ l. l ++ map block_of reads) s.each ∙ ap (λ l. range_with_len from (run.to - from) ++ l) add.in_order
                ∙ ranges_joined from (run.to - from) (groups.next - run.to) run.to (omega (arith, s.begun, s.forward))
                ∙ ap (range_with_len from) (span ∙ ap (λ e. e - from) (sym is.to));
            own = s.own;
            mine = is.file ∙ s.mine;
            chain = subst (IsChain (block_count n) from s.runs) (sym is.from) s.chain;
            counts = subst (λ l. All (IsCountOf (is_right_block (is_node_read l n) known leaves)) s.runs) behind
                (counts_kept right (is_right_block (is_node_read before n) known leaves) (block_count n) from s.runs run.from s.chain
                (λ i lt. add.kept i (omega (arith, lt, s.forward))) s.counts);
            count = subst (λ l. IsCountOf (is_right_block (is_node_read l n) known leaves) next) behind here;
            begun = omega (arith, s.begun, is.from);
            forward = omega (arith, s.forward, is.from, is.to, add.onward);
            within = omega (arith, is.to, add.within);
            fault = fault_then next is;
            no_length = s.no_length;
            not_longer = longer_then next is;
            same_file = step.same_file ∙ s.same_file;
            learned = subst (λ t. IsLearned n known leaves (reads_behind from (s.reads ++ reads)) t grown) (sym is.to)
                (subst (λ l. IsLearned n known leaves l groups.next grown) behind add.learned);
            lines = s.lines;
          }

    -- the run was told, or goes on
    pub sharing_told : (end : ℕ) (later : Option (List ℕ)) (next : Run) → TellsOrKeeps run end new later next
        → IsSharing conduct n known leaves disk file from next k store old later
    sharing_told end later next (inr goes_on) =
        subst (λ r. IsSharing conduct n known leaves disk file from r k store old later) (sym goes_on.2)
        (record {
          reads = s.reads;
          runs = s.runs;
          calls = s.calls;
          each = s.each;
          own = s.own;
          mine = s.mine;
          chain = s.chain;
          counts = s.counts;
          count = s.count;
          begun = s.begun;
          forward = s.forward;
          within = s.within;
          fault = s.fault;
          no_length = s.no_length;
          not_longer = s.not_longer;
          same_file = s.same_file;
          learned = s.learned;
          lines = Appends-kept old new later (runs_text s.runs) s.lines goes_on.1;
        })
    sharing_told end later next (inl told) =
        subst (λ r. IsSharing conduct n known leaves disk file from r k store old later) (sym told.1) (
        let few : run.marked ≤ run.to - run.from =
        omega (arith, s.count, count_few (is_right_block (is_node_read (reads_behind from s.reads) n) known leaves) run.from (run.to - run.from)) in
        let fits : IsWithin (block_count n) run = record { forward = s.forward; inside = s.within; few = few } in
        let none_left : run.to - run.to ≡ 0 = omega arith in
        let one : flat_map run_line (run ∷ []) ≡ run_line run = append-nil (run_line run) in
        record {
          reads = s.reads;
          runs = s.runs ++ run ∷ [];
          calls = s.calls;
          each = s.each;
          own = All-push (λ (r : Run). r.file ≡ file) s.runs run s.own s.mine;
          mine = s.mine;
          chain = chain_more (block_count n) from run.from s.runs run s.chain refl fits;
          counts = All-push (IsCountOf (is_right_block (is_node_read (reads_behind from s.reads) n) known leaves)) s.runs run s.counts s.count;
          count = ap (λ m. count_by (is_right_block (is_node_read (reads_behind from s.reads) n) known leaves) (range_with_len run.to m)) (sym none_left);
          begun = omega (arith, s.begun, s.forward);
          forward = omega arith;
          within = s.within;
          fault = subst (λ b. IsTrue b ↔ (0 < fault_count s.reads))
              (sym (any_more (λ r. is_fault r.met) s.runs run) ∙ sym (or_false (list_any (λ r. is_fault r.met) (s.runs ++ run ∷ [])))) s.fault;
          no_length = any_more (λ r. is_longer r.met) s.runs run ∙ ap (λ b. b || is_longer run.met) s.no_length ∙ s.not_longer;
          not_longer = refl;
          same_file = s.same_file;
          learned = s.learned;
          lines = subst (Appends old later) (ap (λ l. runs_text s.runs ++ l) (sym one) ∙ sym (flat_map-append run_line s.runs (run ∷ [])))
              (Appends-trans old new later (runs_text s.runs) (run_line run) s.lines told.0);
        }
        )

    -- the share was read and told
    pub share_checked : (to : ℕ) (after : D) → run.to ≡ to → run.from ≡ run.to → run.met ≡ Nothing → after ≡ store.disk
        → (reads : List BlockRead) × (runs : List Run) × IsShareCheck n known leaves file from to reads runs
        × HasCalls conduct disk (map (call_of n) reads) after
        × HoldsLeaves n known (leaves_after leaves (share_reads (block_count n) from to reads) n known) k × Appends old new (runs_text runs)
    share_checked to after end empty sound on =
        let read : length s.reads ≡ run.to - from = sym (length-map s.reads block_of) ∙ ap length s.each ∙ length-range_with_len from (run.to - from) in
        let size : length (reads_behind from s.reads) ≡ to = omega (arith, length_behind from s.reads, read, s.begun, s.forward, end) in
        let inside : to ≤ block_count n = omega (arith, s.within, end) in
        let learned : IsLearned n known leaves (reads_behind from s.reads) to k = subst (λ t. IsLearned n known leaves (reads_behind from s.reads) t k) end s.learned in (
          s.reads,
          s.runs,
          record {
            each = s.each ∙ ap (λ e. range_with_len from (e - from)) end;
            own = s.own;
            chain = subst (IsChain (block_count n) from s.runs) (empty ∙ end) s.chain;
            counts = counts_kept (is_right_block (is_node_read (share_reads (block_count n) from to s.reads) n) known leaves)
                (is_right_block (is_node_read (reads_behind from s.reads) n) known leaves) (block_count n) from s.runs run.from s.chain
                (λ i lt. right_in_share n known leaves from to k s.reads learned size inside i (omega (arith, lt, empty, end))) s.counts;
            faults = subst (λ b. IsTrue b ↔ (0 < fault_count s.reads))
                (ap (λ m. list_any (λ r. is_fault r.met) s.runs || is_fault m) sound ∙ or_false (list_any (λ r. is_fault r.met) s.runs)) s.fault;
            no_length = s.no_length;
          },
          subst (HasCalls conduct disk (map (call_of n) s.reads)) (sym on) s.calls,
          learned_after n known leaves from to k s.reads learned size inside,
          s.lines,
        )

-- a run that is told, and one that goes on, ends where it did
pub told_to : (run next : Run) (end : ℕ) (old new : Option (List ℕ)) → TellsOrKeeps run end old new next → next.to ≡ run.to
told_to run next end old new (inl told) = ap (λ (r : Run). r.to) told.1
told_to run next end old new (inr goes_on) = ap (λ (r : Run). r.to) goes_on.2

-- a run that ends a share was told, and the next one is empty
pub ends_empty : (run next : Run) (end : ℕ) (old new : Option (List ℕ)) → TellsOrKeeps run end old new next → end ≤ next.to
    → (next.from ≡ next.to) × (next.met ≡ Nothing)
ends_empty run next end old new (inl told) past =
    (ap (λ (r : Run). r.from) told.1 ∙ sym (ap (λ (r : Run). r.to) told.1), ap (λ (r : Run). r.met) told.1)
ends_empty run next end old new (inr goes_on) past =
    let same : next.to ≡ run.to = ap (λ (r : Run). r.to) goes_on.2 in
    absurd (omega (arith, goes_on.0, past, same))
