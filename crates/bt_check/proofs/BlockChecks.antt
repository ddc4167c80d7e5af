-- A check of a file's blocks, group by group.
use Rattle.std.proofs.Common.{◌≡◌, ℕ, ◌+◌, ◌-◌, ◌<◌, ◌≤◌, ◌↔◌, ◌||◌, Bool, true, false, true≢false, Option, IsTrue, List, [], ◌++◌, map, length, inl, inr, arith, refl, sym, ap, ◌∙◌, subst, cond, append-nil, append_assoc}
use Rattle.std.specs.Prelude.{nat_lt}
use Rattle.std.specs.List.{count_by, range_with_len}
use Rattle.std.specs.Option.{option_or}
use Rattle.std.proofs.lemmas.Bool.{cases_lt, lt-ltb, le-ltb}
use Rattle.std.proofs.lemmas.List.{length-map, map-append}
use Rattle.std.proofs.lemmas.List.FromFn.{length-range_with_len}
use Rattle.std.proofs.lemmas.List.Sums.{sum_by-append}
use Rattle.bt_tree.specs.Blocks.{block_count}
use Rattle.bt_disk.specs.Conduct.{Conduct}
use Rattle.bt_disk.specs.Calls.{HasCalls}
use Rattle.bt_disk.proofs.CallLists.{has_none, has_then}
use Rattle.bt_sparse.specs.SparseTree.{Facts, blocks_of}
use Rattle.bt_store.specs.FileStore.{StoreView}
use Rattle.bt_store.specs.BlockReads.{BlockRead, block_of, call_of, fault_count, is_fault}
use Rattle.bt_store.specs.Adoption.{Adopts}
use Rattle.bt_store.specs.SmallGroups.{AdoptsInTurn, none, more, AreAdopted}
use Rattle.bt_store.specs.declared.adoption.Adopted.{Adopted}
use Rattle.bt_store.specs.declared.small_groups.AdoptedGroups.{AdoptedGroups}
use Rattle.bt_store.specs.declared.block_states.BlockState.{BlockState}
use Rattle.bt_check.specs.CheckSteps.{HoldsLeaves, IsBlockCheck, leaves_after}
use Rattle.bt_check.specs.EntryCheck.{is_node_read, leaf_read}
use Rattle.bt_check.specs.Finding.{KnownLayer, is_right_block}
use Rattle.bt_check.specs.declared.entry_check.BlockCheck.{BlockCheck}
use Rattle.bt_check.proofs.RightBlocks.{count_same, count_joined, count_few, ranges_joined}
use Rattle.bt_check.proofs.LeafKnowledge.{same_leaves}
use Rattle.bt_check.proofs.AdoptedGroups.{IsLearned, IsGroupDone, group_done, right_kept, so_far_past, so_far_read, so_far_known, cases_option, leaves_so_far}
use Rattle.sha2.specs.Sha256.{sha256}

-- The blocks before this one were read, and `marked` of them are right.
pub record IsChecking {D : Type 0} (conduct : Conduct D) (n : ℕ) (known : KnownLayer)
    (leaves : ℕ → Option (List ℕ)) (disk : D) (from marked : ℕ) (faulty : Bool) (k : Facts) (store : StoreView D) : Type 0 where
  pub reads : List BlockRead
  pub calls : HasCalls conduct disk (map (call_of n) reads) store.disk
  pub each : map block_of reads ≡ range_with_len 0 from
  pub within : from ≤ block_count n
  pub marks : marked ≡ count_by (is_right_block (is_node_read reads n) known leaves) (range_with_len 0 from)
  pub fault : IsTrue faulty ↔ (0 < fault_count reads)
  pub same_file : store.file_length ≡ n
  pub learned : IsLearned n known leaves reads from k

-- how many of the blocks before this one are right, by these reads of them
record IsCounted (n : ℕ) (known : KnownLayer) (leaves : ℕ → Option (List ℕ)) (reads : List BlockRead) (from marked : ℕ) (k : Facts) : Type 0 where
  pub each : map block_of reads ≡ range_with_len 0 from
  pub within : from ≤ block_count n
  pub marks : marked ≡ count_by (is_right_block (is_node_read reads n) known leaves) (range_with_len 0 from)
  pub learned : IsLearned n known leaves reads from k

module _ (n : ℕ) (known : KnownLayer) (leaves : ℕ → Option (List ℕ)) where
  counted_next : (from marked : ℕ) (k grown : Facts) (before reads : List BlockRead) (adopted : Adopted) (states after : List BlockState)
      → IsCounted n known leaves before from marked k → from < blocks_of k → Adopts sha256 k from states reads adopted grown after
      → IsCounted n known leaves (before ++ reads) adopted.next (marked + adopted.marked) grown × (adopted.faults ≡ fault_count reads)
  counted_next from marked k grown before reads adopted states after c inside step =
      let real : from < block_count n = subst (λ m. from < block_count m) c.learned.tree.length_is inside in
      let begins : length before ≡ from = sym (length-map before block_of) ∙ ap length c.each ∙ length-range_with_len 0 from in
      let done : IsGroupDone n known leaves from before reads adopted grown = group_done n known leaves k from before c.learned real begins states after reads adopted grown step in
      let p : ℕ → Bool = is_right_block (is_node_read (before ++ reads) n) known leaves in
      let next : from + (adopted.next - from) ≡ adopted.next = omega (arith, done.later) in
      let first : count_by p (range_with_len 0 from) ≡ marked =
      count_same p (is_right_block (is_node_read before n) known leaves) 0 from
      (λ i low high. right_kept n known leaves k from before c.learned real begins reads adopted.next done.later i (omega (arith, high))) ∙ sym c.marks in
      let all = count_joined p from (adopted.next - from) ∙ ap (λ m. m + count_by p (range_with_len from (adopted.next - from))) first
      ∙ ap (λ m. marked + m) (sym done.marks) in (
        record {
          each = map-append block_of before reads ∙ ap (λ l. l ++ map block_of reads) c.each ∙ ap (λ l. range_with_len 0 from ++ l) done.in_order
              ∙ ranges_joined 0 from (adopted.next - from) from (omega arith) ∙ ap (range_with_len 0) (omega (arith, done.later));
          within = done.inside;
          marks = sym all ∙ ap (λ m. count_by p (range_with_len 0 m)) next;
          learned = done.learned;
        },
        done.faults,
      )

  -- so it goes on from group to group
  counted_turn : (from marked : ℕ) (k : Facts) (before : List BlockRead) → IsCounted n known leaves before from marked k
      → (states : List BlockState) (reads : List BlockRead) (total : AdoptedGroups) (grown : Facts) (after : List BlockState)
      → AdoptsInTurn sha256 k from states reads total grown after
      → IsCounted n known leaves (before ++ reads) total.next (marked + total.marked) grown × (total.faults ≡ fault_count reads)
  counted_turn from marked k before c states _ _ _ _ none =
      let same : marked ≡ marked + 0 = omega arith in
      (subst (λ l. IsCounted n known leaves l from (marked + 0) k) (sym (append-nil before)) (subst (λ m. IsCounted n known leaves before from m k) same c), refl)
  counted_turn from marked k before c states _ _ _ _ (more reads last sofar one mid grown between after turn inside step) =
      let sum = counted_turn from marked k before c states reads sofar mid between turn in
      let next = counted_next sofar.next (marked + sofar.marked) mid grown (before ++ reads) last one between after sum.0 inside step in
      let marks : marked + sofar.marked + one.marked ≡ marked + (sofar.marked + one.marked) = omega arith in (
        subst (λ l. IsCounted n known leaves l one.next (marked + (sofar.marked + one.marked)) grown) (append_assoc before reads last)
            (subst (λ m. IsCounted n known leaves ((before ++ reads) ++ last) one.next m grown) marks next.0),
        omega (arith, sum.1, next.1, sum_by-append (λ r. cond (is_fault r) 1 0) reads last),
      )

module _ {D : Type 0} (conduct : Conduct D) (n : ℕ) (known : KnownLayer) (leaves : ℕ → Option (List ℕ)) (disk : D) where
  pub checking_begun : (k : Facts) (store : StoreView D) → HoldsLeaves n known leaves k → store.file_length ≡ n → store.disk ≡ disk
      → IsChecking conduct n known leaves disk 0 0 false k store
  checking_begun k store holds same on = record {
    reads = [];
    calls = subst (HasCalls conduct disk []) (sym on) (has_none conduct disk);
    each = refl;
    within = omega arith;
    marks = refl;
    fault = (λ is. absurd (true≢false (sym is)), λ some. absurd (omega (arith, some)));
    same_file = same;
    learned = record {
      tree = same_leaves n known leaves (leaves_so_far leaves [] n known 0) k (λ i lt. sym (so_far_past leaves [] n known 0 i (omega arith))) holds;
      whole = λ i lt none. absurd (omega (arith, lt));
    };
  }

  -- a call fails in one part or in the other
  either_fault : (b : Bool) (x y : ℕ) → (IsTrue b ↔ (0 < x)) → IsTrue (b || nat_lt 0 y) ↔ (0 < x + y)
  either_fault true x y is = (λ _. omega (arith, is.0 refl), λ _. refl)
  either_fault false x y is = elim (cases_lt 0 y) [
    | inl lt ↦ (λ _. omega (arith, lt), λ _. lt-ltb 0 y lt)
    | inr le ↦ (λ t. absurd (true≢false (sym t ∙ le-ltb 0 y le)), λ some. absurd (true≢false (sym (is.1 (omega (arith, some, le))))))
  ]

  module _ (from marked : ℕ) (faulty : Bool) (k grown : Facts) (store after : StoreView D) (adopted : AdoptedGroups) (reads : List BlockRead)
      (c : IsChecking conduct n known leaves disk from marked faulty k store)
      (step : AreAdopted conduct sha256 k from store reads adopted grown after) where
    counted : IsCounted n known leaves (c.reads ++ reads) adopted.next (marked + adopted.marked) grown × (adopted.faults ≡ fault_count reads)
    counted =
        counted_turn n known leaves from marked k c.reads (record { each = c.each; within = c.within; marks = c.marks; learned = c.learned })
        store.states reads adopted grown after.states step.adopts

    pub checking_more : IsChecking conduct n known leaves disk adopted.next (marked + adopted.marked) (faulty || nat_lt 0 adopted.faults) grown after
    checking_more =
        let counted_faults : fault_count (c.reads ++ reads) ≡ fault_count c.reads + fault_count reads = sum_by-append (λ r. cond (is_fault r) 1 0) c.reads reads in
        let made = has_then conduct disk store.disk after.disk (map (call_of n) c.reads) (map (call_of n) reads) c.calls
        (subst (λ m. HasCalls conduct store.disk (map (call_of m) reads) after.disk) c.same_file step.calls) in
        record {
          reads = c.reads ++ reads;
          calls = subst (λ l. HasCalls conduct disk l after.disk) (sym (map-append (call_of n) c.reads reads)) made;
          each = counted.0.each;
          within = counted.0.within;
          marks = counted.0.marks;
          fault = subst (λ m. IsTrue (faulty || nat_lt 0 adopted.faults) ↔ (0 < m)) (ap (λ m. fault_count c.reads + m) counted.1 ∙ sym counted_faults)
              (either_fault faulty (fault_count c.reads) adopted.faults c.fault);
          same_file = step.same_file ∙ c.same_file;
          learned = counted.0.learned;
        }

    pub next_is_inside : adopted.next ≤ block_count n
    next_is_inside = counted.0.within

    pub sum_is_few : marked + adopted.marked ≤ block_count n
    sum_is_few =
        omega (arith, counted.0.marks, count_few (is_right_block (is_node_read (c.reads ++ reads) n) known leaves) 0 adopted.next, counted.0.within)

  pub all_checked : (from marked : ℕ) (faulty : Bool) (k : Facts) (store : StoreView D) (check : BlockCheck D)
      → IsChecking conduct n known leaves disk from marked faulty k store → block_count n ≤ from → check.disk ≡ store.disk → check.marked ≡ marked
      → check.faulty ≡ faulty → (reads : List BlockRead) × IsBlockCheck conduct n known leaves disk reads check
      × HoldsLeaves n known (leaves_after leaves reads n known) k
  all_checked from marked faulty k store check c end on marked_is faulty_is =
      let last : from ≡ block_count n = omega (arith, end, c.within) in (
        c.reads,
        record {
          calls = subst (HasCalls conduct disk (map (call_of n) c.reads)) (sym on) c.calls;
          each = c.each ∙ ap (range_with_len 0) last;
          marked = marked_is ∙ c.marks ∙ ap (λ m. count_by (is_right_block (is_node_read c.reads n) known leaves) (range_with_len 0 m)) last;
          faulty = subst (λ b. IsTrue b ↔ (0 < fault_count c.reads)) (sym faulty_is) c.fault;
        },
        same_leaves n known (leaves_so_far leaves c.reads n known from) (leaves_after leaves c.reads n known) k (λ i lt.
            elim (cases_option (leaves i)) [
              | inl e ↦
                  so_far_read leaves c.reads n known from i e (omega (arith, lt, end)) ∙ sym (ap (λ o. option_or o (leaf_read c.reads n known i)) e)
              | inr e ↦
                  so_far_known leaves c.reads n known from i e.0 e.1 ∙ sym (ap (λ o. option_or o (leaf_read c.reads n known i)) e.1)
            ]) c.learned.tree,
      )
