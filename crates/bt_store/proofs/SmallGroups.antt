-- Small groups that are read together, and adopted one after the other.
use Rattle.std.proofs.Common.{◌≡◌, ℕ, zero, suc, ◌+◌, ◌-◌, ◌*◌, ◌/◌, ◌%◌, ◌^◌, ◌<◌, ◌≤◌, ◌⊎◌, true≢false, is_some, Option, None, Some, IsSome, IfSome, List, [], ◌∷◌, ◌++◌, map, length, take, drop, replicate, get_or, inl, inr, min, refl, sym, ap, ◌∙◌, subst, arith, append-nil, append_assoc, length-append}
use Rattle.std.specs.List.{range_with_len}
use Rattle.std.proofs.Math.Nat.{div-div-eq-div-mul, mul-div_cancel}
use Rattle.std.proofs.lemmas.Bool.{cases_lt}
use Rattle.std.proofs.lemmas.Nat.{pow_pos, pow-add}
use Rattle.std.proofs.lemmas.List.{drop-drop, get_or-drop, length-map, length-replicate}
use Rattle.std.proofs.lemmas.List.FromFn.{length-range_with_len}
use Rattle.bt_tree.specs.Blocks.{block_at, block_count}
use Rattle.bt_tree.specs.Tree.{padding_digest}
use Rattle.bt_tree.specs.TreeShape.{height_of}
use Rattle.bt_tree.proofs.TreeShape.{height_is, same_height, le_from_pow}
use Rattle.bt_disk.specs.Conduct.{Conduct}
use Rattle.bt_disk.specs.Calls.{HasCalls}
use Rattle.bt_sparse.specs.SparseTree.{Facts, blocks_of, height, held_at}
use Rattle.bt_sparse.specs.Anchor.{IsAnchor}
use Rattle.bt_sparse.specs.Claim.{Claims, in_run, on_path, uncle, run_height}
use Rattle.bt_sparse.specs.Acceptance.{Accepts}
use Rattle.bt_sparse.proofs.Values.{none_some}
use Rattle.bt_store.specs.FileStore.{StoreView}
use Rattle.bt_store.specs.BlockReads.{BlockRead, block_of, call_of}
use Rattle.bt_store.specs.BatchesSteps.{read_of, batch_reads, found_of}
use Rattle.bt_store.specs.Adoption.{Adopts, none as at_end, known, accepted, refused, short, unread, IsUnknownGroup, leaf_claim, claimed_digest, IsAdopted, StopsAdopting}
use Rattle.bt_store.specs.SmallGroups.{AdoptsInTurn, none, more, with_group, AreAdopted, StopsAmong, StopsInTurn}
use Rattle.bt_store.specs.SmallGroupsSteps.{IsBatch, AreRead, ReadSomehow, IsBatchRead, AdoptsFound, AdoptsBatch, StopsBatch}
use Rattle.bt_store.specs.declared.adoption.Adopted.{Adopted}
use Rattle.bt_store.specs.declared.small_groups.AdoptedGroups.{AdoptedGroups}
use Rattle.bt_store.specs.declared.batches.BlockFound.{BlockFound}
use Rattle.bt_store.specs.declared.batches.BlockFound.TheVariants.{Failed}
use Rattle.bt_store.specs.declared.block_states.BlockState.{BlockState}
use Rattle.bt_store.proofs.BatchReads.{reads_none, reads_more}
use Rattle.bt_store.proofs.Judgements.{blocks_of_batch}
use Rattle.bt_store.proofs.AdoptionMarks.{adopt_extends}

-- ---- the reads of a batch, from one of its blocks on

part_behind : (o j : ℕ) (buffer : List ℕ) → block_at (drop (16384 * o) buffer) j ≡ block_at buffer (o + j)
part_behind o j buffer =
    let place : 16384 * o + 16384 * j ≡ 16384 * (o + j) = omega arith in
    ap (take 16384) (drop-drop (16384 * j) (16384 * o) buffer ∙ ap (λ m. drop m buffer) place)

read_behind : (first o j : ℕ) (counts : List (Option ℕ)) (buffer : List ℕ) → read_of (first + o + j) (get_or (drop o counts) j None) (block_at (drop (16384 * o) buffer) j)
    ≡ read_of (first + (o + j)) (get_or counts (o + j) None) (block_at buffer (o + j))
read_behind first o j counts buffer =
    let place : first + o + j ≡ first + (o + j) = omega arith in
    ap (λ i. read_of i (get_or (drop o counts) j None) (block_at (drop (16384 * o) buffer) j)) place
    ∙ ap (λ c. read_of (first + (o + j)) c (block_at (drop (16384 * o) buffer) j)) (get_or-drop o counts j None)
    ∙ ap (read_of (first + (o + j)) (get_or counts (o + j) None)) (part_behind o j buffer)

batch_split : (first o m : ℕ) (counts : List (Option ℕ)) (buffer : List ℕ)
    → batch_reads first counts buffer (o + m) ≡ batch_reads first counts buffer o ++ batch_reads (first + o) (drop o counts) (drop (16384 * o) buffer) m
batch_split first o zero counts buffer =
    let same : o + 0 ≡ o = omega arith in
    ap (batch_reads first counts buffer) same ∙ sym (append-nil (batch_reads first counts buffer o))
    ∙ ap (λ l. batch_reads first counts buffer o ++ l) (sym (reads_none (first + o) (drop o counts) (drop (16384 * o) buffer)))
batch_split first o (suc m) counts buffer =
    let next : o + suc m ≡ suc (o + m) = omega arith in
    let front = batch_reads first counts buffer o in
    let rest = batch_reads (first + o) (drop o counts) (drop (16384 * o) buffer) m in
    let here = read_of (first + o + m) (get_or (drop o counts) m None) (block_at (drop (16384 * o) buffer) m) in
    ap (batch_reads first counts buffer) next ∙ reads_more first counts buffer (o + m)
    ∙ ap (λ l. l ++ read_of (first + (o + m)) (get_or counts (o + m) None) (block_at buffer (o + m)) ∷ []) (batch_split first o m counts buffer)
    ∙ ap (λ r. (front ++ rest) ++ r ∷ []) (sym (read_behind first o m counts buffer))
    ∙ append_assoc front rest (here ∷ [])
    ∙ ap (λ l. front ++ l) (sym (reads_more (first + o) (drop o counts) (drop (16384 * o) buffer) m))

are_behind : (dig : List ℕ → List ℕ) (n first count o m : ℕ) (blocks_found : List BlockFound) (counts : List (Option ℕ)) (buffer : List ℕ)
    → AreRead dig n first blocks_found count counts buffer → o + m ≤ count
    → AreRead dig n (first + o) (drop o blocks_found) m (drop o counts) (drop (16384 * o) buffer)
are_behind dig n first count o m blocks_found counts buffer are fits = record {
  within = λ j lt.
      subst (λ slot. IfSome (get_or (drop o counts) j None) (λ given. given ≤ length slot)) (sym (part_behind o j buffer))
      (subst (λ c. IfSome c (λ given. given ≤ length (block_at buffer (o + j)))) (sym (get_or-drop o counts j None)) (are.within (o + j) (omega (arith, lt, fits))));
  found = λ j lt.
      let place : first + (o + j) ≡ first + o + j = omega arith in
      get_or-drop o blocks_found j Failed ∙ are.found (o + j) (omega (arith, lt, fits))
      ∙ ap (λ i. found_of dig n i (get_or counts (o + j) None) (block_at buffer (o + j))) place
      ∙ ap (λ c. found_of dig n (first + o + j) c (block_at buffer (o + j))) (sym (get_or-drop o counts j None))
      ∙ ap (found_of dig n (first + o + j) (get_or (drop o counts) j None)) (sym (part_behind o j buffer));
}

-- ---- what becomes of the nodes above other groups

height_of_power : (n log : ℕ) → n ≡ 2 ^ log → height_of n ≡ log
height_of_power n log power = same_height n (height_of n) log (height_is n)
    (record { enough = omega (arith, power); least = λ k h. le_from_pow log k (omega (arith, power, h)) })

-- a claim of the leaves below one node says nothing of what lies below another in its layer
not_claimed : (dig : List ℕ → List ℕ) (first anchor layer p : ℕ) (leaves : List (List ℕ)) (d : List ℕ) → length leaves ≡ 2 ^ anchor → layer < anchor
    → (p / 2 ^ anchor ≡ first / 2 ^ anchor → ⊥) → Claims dig (leaf_claim first leaves) layer (p / 2 ^ layer) d → ⊥
not_claimed dig first anchor layer p leaves d size low apart (in_run r) =
    let tall : run_height (leaf_claim first leaves) ≡ anchor = height_of_power (length leaves) anchor size in
    let here : r.above ≡ layer = omega (arith, r.here) in
    let under : p / 2 ^ layer / 2 ^ (anchor - layer) ≡ first / 2 ^ anchor =
    subst (λ a. p / 2 ^ layer / 2 ^ (anchor - a) ≡ first / 2 ^ anchor) here (subst (λ h. p / 2 ^ layer / 2 ^ (h - r.above) ≡ first / 2 ^ h) tall r.under) in
    let whole : layer + (anchor - layer) ≡ anchor = omega (arith, low) in
    let up : p / 2 ^ layer / 2 ^ (anchor - layer) ≡ p / 2 ^ anchor =
    div-div-eq-div-mul p (2 ^ layer) (2 ^ (anchor - layer)) ∙ ap (λ q. p / q) (sym (pow-add 2 layer (anchor - layer))) ∙ ap (λ h. p / 2 ^ h) whole in
    apart (sym up ∙ under)
not_claimed dig first anchor layer p leaves d size low apart (on_path r) =
    let tall : run_height (leaf_claim first leaves) ≡ anchor = height_of_power (length leaves) anchor size in
    absurd (omega (arith, r.here, tall, low))
not_claimed dig first anchor layer p leaves d size low apart (uncle r) = absurd (omega (arith, r.within))

nothing : {X : Type 0} (o : Option X) → ((x : X) → o ≡ Some x → ⊥) → o ≡ None
nothing None h = refl
nothing (Some x) h = absurd (h x refl)

some_of : {X : Type 0} (o : Option X) → IsSome o → (x : X) × (o ≡ Some x)
some_of None some = absurd cc
some_of (Some x) some = (x, refl)

anchor_kept : (dig : List ℕ → List ℕ) (k grown : Facts) (first anchor p : ℕ) (leaves : List (List ℕ)) → length leaves ≡ 2 ^ anchor
    → (p / 2 ^ anchor ≡ first / 2 ^ anchor → ⊥) → Accepts dig k (leaf_claim first leaves) grown → IsAnchor k p anchor → IsAnchor grown p anchor
anchor_kept dig k grown first anchor p leaves size apart accepts is =
    let same : height grown ≡ height k = ap (λ n. height_of (block_count n)) accepts.joins.file_length in
    let held = some_of (held_at k anchor (p / 2 ^ anchor)) is.held in
    record {
      inside = omega (arith, same, is.inside);
      held = ap (λ o. is_some o) (accepts.joins.kept anchor (p / 2 ^ anchor) held.0 held.1);
      nearest = λ layer low. nothing (held_at grown layer (p / 2 ^ layer)) (λ d e. elim (accepts.joins.only layer (p / 2 ^ layer) d e) [
        | inl old ↦ none_some d (sym (is.nearest layer low) ∙ old)
        | inr both ↦ not_claimed dig first anchor layer p leaves d size low apart both.0
      ]);
    }

one_anchor : (k : Facts) (leaf a b : ℕ) → IsAnchor k leaf a → IsAnchor k leaf b → a ≡ b
one_anchor k leaf a b is other = elim (cases_lt a b) [
  | inl lt ↦ absurd (true≢false (sym is.held ∙ ap (λ o. is_some o) (other.nearest a lt)))
  | inr le ↦ elim (cases_lt b a) [
    | inl lt ↦ absurd (true≢false (sym other.held ∙ ap (λ o. is_some o) (is.nearest b lt)))
    | inr ge ↦ omega (arith, le, ge)
  ]
]

anchors_kept : (dig : List ℕ → List ℕ) (k grown : Facts) (from anchor p : ℕ) (old new : List BlockState) (reads : List BlockRead) (adopted : Adopted)
    → IsAnchor k from anchor → (p / 2 ^ anchor ≡ from / 2 ^ anchor → ⊥) → IsAnchor k p anchor → Adopts dig k from old reads adopted grown new → IsAnchor grown p anchor
anchors_kept dig k grown from anchor p old new reads adopted here apart is (at_end past) = is
anchors_kept dig k grown from anchor p old new reads adopted here apart is (known count rs group order) = is
anchors_kept dig k grown from anchor p old new reads adopted here apart is (accepted a first count rs g group whole accepts) =
    let same : a ≡ anchor = one_anchor k from a anchor group.nearest here in
    let place : first / 2 ^ a ≡ from / 2 ^ a = ap (λ m. m / 2 ^ a) group.starts ∙ mul-div_cancel (from / 2 ^ a) (pow_pos a) in
    let digests = map (claimed_digest dig k.file_length) rs in
    let behind = replicate (2 ^ a - length rs) (padding_digest dig 0) in
    let own : length digests ≡ length rs = length-map rs (claimed_digest dig k.file_length) in
    let rest = length-replicate {A = List ℕ} (2 ^ a - length rs) (padding_digest dig 0) in
    let few : length rs ≡ count = sym (length-map rs block_of) ∙ ap length whole.blocks ∙ length-range_with_len first count in
    let size : length (digests ++ behind) ≡ 2 ^ a = length-append digests behind ∙ omega (arith, own, rest, few, group.counts) in
    subst (λ b. IsAnchor g p b) same
    (anchor_kept dig k g first a p (digests ++ behind) size (λ e. apart (subst (λ b. p / 2 ^ b ≡ from / 2 ^ b) same (e ∙ place))) accepts
    (subst (λ b. IsAnchor k p b) (sym same) is))
anchors_kept dig k grown from anchor p old new reads adopted here apart is (refused a first count rs error group whole why other) = is
anchors_kept dig k grown from anchor p old new reads adopted here apart is (short a first count rs group order sound few) = is
anchors_kept dig k grown from anchor p old new reads adopted here apart is (unread a first count rs group order some) = is

-- ---- the places of groups of two blocks or of four

record IsPlaced (size blocks at count first m : ℕ) : Type 0 where
  pub some : 0 < count
  pub starts : at % size ≡ 0
  pub inside : at + count ≤ blocks
  pub ends : (at + count ≡ blocks) ⊎ ((at + count) % size ≡ 0)
  pub first_is : first ≡ at / size * size
  pub count_is : m ≡ min size (blocks - first)

pub record IsNext (size at count first m : ℕ) : Type 0 where
  pub begins : first ≡ at
  pub some : 0 < m
  pub fits : m ≤ count
  pub whole : m < count → (at + m) % size ≡ 0
  pub apart : (p : ℕ) → at + m ≤ p → p < at + count → p / size ≡ at / size → ⊥

next_of_two : (blocks at count first m : ℕ) → IsPlaced 2 blocks at count first m → IsNext 2 at count first m
next_of_two blocks at count first m is =
    let begins : first ≡ at = omega (arith, is.first_is, is.starts) in
    elim is.ends [
      | inl last ↦ record {
        begins = begins;
        some = omega (arith, begins, is.count_is, is.some, last);
        fits = omega (arith, begins, is.count_is, is.inside, last);
        whole = λ lt. omega (arith, begins, is.count_is, is.starts, last, lt);
        apart = λ p low high e. omega (arith, begins, is.count_is, is.starts, last, low, high, e);
      }
      | inr whole ↦ record {
        begins = begins;
        some = omega (arith, begins, is.count_is, is.some, is.inside);
        fits = omega (arith, begins, is.count_is, is.starts, is.some, whole);
        whole = λ lt. omega (arith, begins, is.count_is, is.starts, is.inside, lt);
        apart = λ p low high e. omega (arith, begins, is.count_is, is.starts, is.inside, low, high, e);
      }
    ]

next_of_four : (blocks at count first m : ℕ) → IsPlaced 4 blocks at count first m → IsNext 4 at count first m
next_of_four blocks at count first m is =
    let begins : first ≡ at = omega (arith, is.first_is, is.starts) in
    elim is.ends [
      | inl last ↦ record {
        begins = begins;
        some = omega (arith, begins, is.count_is, is.some, last);
        fits = omega (arith, begins, is.count_is, is.inside, last);
        whole = λ lt. omega (arith, begins, is.count_is, is.starts, last, lt);
        apart = λ p low high e. omega (arith, begins, is.count_is, is.starts, last, low, high, e);
      }
      | inr whole ↦ record {
        begins = begins;
        some = omega (arith, begins, is.count_is, is.some, is.inside);
        fits = omega (arith, begins, is.count_is, is.starts, is.some, whole);
        whole = λ lt. omega (arith, begins, is.count_is, is.starts, is.inside, lt);
        apart = λ p low high e. omega (arith, begins, is.count_is, is.starts, is.inside, low, high, e);
      }
    ]

next_of : (size blocks at count first m : ℕ) → (size ≡ 2) ⊎ (size ≡ 4) → IsPlaced size blocks at count first m → IsNext size at count first m
next_of size blocks at count first m (inl e) is =
    subst (λ s. IsNext s at count first m) (sym e) (next_of_two blocks at count first m (subst (λ s. IsPlaced s blocks at count first m) e is))
next_of size blocks at count first m (inr e) is =
    subst (λ s. IsNext s at count first m) (sym e) (next_of_four blocks at count first m (subst (λ s. IsPlaced s blocks at count first m) e is))

pub size_is : (anchor : ℕ) → (anchor ≡ 1) ⊎ (anchor ≡ 2) → (2 ^ anchor ≡ 2) ⊎ (2 ^ anchor ≡ 4)
size_is anchor (inl e) = inl (ap (λ a. 2 ^ a) e)
size_is anchor (inr e) = inr (ap (λ a. 2 ^ a) e)

pub small_anchor : (anchor : ℕ) → 0 < anchor → anchor ≤ 2 → (anchor ≡ 1) ⊎ (anchor ≡ 2)
small_anchor anchor above low = elim (cases_lt anchor 2) [ inl lt ↦ inl (omega (arith, above, lt)) | inr ge ↦ inr (omega (arith, low, ge)) ]

whole_sum : (size a b : ℕ) → (size ≡ 2) ⊎ (size ≡ 4) → a % size ≡ 0 → b % size ≡ 0 → (a + b) % size ≡ 0
whole_sum size a b (inl e) = subst (λ s. a % s ≡ 0 → b % s ≡ 0 → (a + b) % s ≡ 0) (sym e) (λ p q. omega (arith, p, q))
whole_sum size a b (inr e) = subst (λ s. a % s ≡ 0 → b % s ≡ 0 → (a + b) % s ≡ 0) (sym e) (λ p q. omega (arith, p, q))

pub batch_ahead : (k : Facts) (from anchor size count : ℕ) → (anchor ≡ 1) ⊎ (anchor ≡ 2) → size ≡ 2 ^ anchor → from % size ≡ 0 → count ≤ 8
    → from + count ≤ blocks_of k → ((j : ℕ) → j < count → IsAnchor k (from + j) anchor)
    → ((size ≡ 2) ⊎ (size ≡ 4) → (from + count ≡ blocks_of k) ⊎ (count % size ≡ 0)) → IsBatch k from anchor count
batch_ahead k from anchor size count small size_of starts few inside nearest whole =
    let sizes : (2 ^ anchor ≡ 2) ⊎ (2 ^ anchor ≡ 4) = size_is anchor small in
    let begins : from % 2 ^ anchor ≡ 0 = subst (λ s. from % s ≡ 0) size_of starts in
    record {
      few = few;
      inside = inside;
      small = small;
      nearest = nearest;
      starts = λ _. begins;
      ends = elim (subst (λ s. (s ≡ 2) ⊎ (s ≡ 4) → (from + count ≡ blocks_of k) ⊎ (count % s ≡ 0)) size_of whole sizes) [
        | inl last ↦ inl last
        | inr even ↦ inr (whole_sum (2 ^ anchor) from count sizes begins even)
      ];
    }

-- ---- one group of a batch

module _ (k : Facts) (at anchor count first m : ℕ) (batch : IsBatch k at anchor count) (some : 0 < count) (group : IsUnknownGroup k at anchor first m) where
  pub next_is : IsNext (2 ^ anchor) at count first m
  next_is = next_of (2 ^ anchor) (blocks_of k) at count first m (size_is anchor batch.small) (record {
    some = some;
    starts = batch.starts some;
    inside = batch.inside;
    ends = batch.ends;
    first_is = group.starts;
    count_is = group.counts;
  })

  pub batch_rest : (dig : List ℕ → List ℕ) (grown : Facts) (old new : List BlockState) (reads : List BlockRead) (adopted : Adopted)
      → Adopts dig k at old reads adopted grown new → IsBatch grown (at + m) anchor (count - m)
  batch_rest dig grown old new reads adopted adopts =
      let blocks : blocks_of grown ≡ blocks_of k = ap block_count (adopt_extends dig k grown at old new reads adopted adopts).file_length in
      let sum : at + count ≡ at + m + (count - m) = omega (arith, next_is.fits) in
      record {
        few = omega (arith, batch.few);
        inside = omega (arith, sum, blocks, batch.inside);
        small = batch.small;
        nearest = λ j lt.
            let place : at + (m + j) ≡ at + m + j = omega arith in
            let is : IsAnchor k (at + m + j) anchor = subst (λ p. IsAnchor k p anchor) place (batch.nearest (m + j) (omega (arith, lt))) in
            anchors_kept dig k grown at anchor (at + m + j) old new reads adopted group.nearest
            (next_is.apart (at + m + j) (omega arith) (omega (arith, lt, next_is.fits))) is adopts;
        starts = λ left. next_is.whole (omega (arith, left));
        ends = elim batch.ends [
          | inl last ↦ inl (sym sum ∙ last ∙ sym blocks)
          | inr whole ↦ inr (ap (λ p. p % 2 ^ anchor) (sym sum) ∙ whole)
        ];
      }

-- ---- the groups of a batch, one after the other

module _ (dig : List ℕ → List ℕ) (n : ℕ) (k mid : Facts) (from count : ℕ) (old between : List BlockState) (blocks_found : List BlockFound) (counts : List (Option ℕ)) (buffer : List ℕ)
    (before : AdoptedGroups) (anchor first m : ℕ) (are : AreRead dig n from blocks_found count counts buffer) (low : from ≤ before.next)
    (group : IsUnknownGroup mid before.next anchor first m) (begins : first ≡ before.next) where
  place : from + (before.next - from) ≡ first
  place = omega (arith, low, begins)

  group_adopts : (grown : Facts) (after : List BlockState) (one : Adopted) → before.next - from + m ≤ count
      → AdoptsFound dig n mid anchor first m between (drop (before.next - from) blocks_found) one grown after
      → Adopts dig mid before.next between (batch_reads first (drop (before.next - from) counts) (drop (16384 * (before.next - from)) buffer) m) one grown after
  group_adopts grown after one fits found =
      found before.next (drop (before.next - from) counts) (drop (16384 * (before.next - from)) buffer) group
      (subst (λ f. AreRead dig n f (drop (before.next - from) blocks_found) m (drop (before.next - from) counts) (drop (16384 * (before.next - from)) buffer)) place
      (are_behind dig n from count (before.next - from) m blocks_found counts buffer are fits))

  turn_more : AdoptsInTurn dig k from old (batch_reads from counts buffer (before.next - from)) before mid between → (grown : Facts) (after : List BlockState) (one : Adopted)
      → before.next - from + m ≤ count → one.next ≡ first + m
      → AdoptsFound dig n mid anchor first m between (drop (before.next - from) blocks_found) one grown after
      → AdoptsInTurn dig k from old (batch_reads from counts buffer (one.next - from)) (with_group before one) grown after
  turn_more turn grown after one fits next found =
      let reads = batch_reads from counts buffer (before.next - from) in
      let last = batch_reads first (drop (before.next - from) counts) (drop (16384 * (before.next - from)) buffer) m in
      let size : before.next - from + m ≡ one.next - from = omega (arith, next, begins, low) in
      let all : reads ++ last ≡ batch_reads from counts buffer (one.next - from) =
      ap (λ f. reads ++ batch_reads f (drop (before.next - from) counts) (drop (16384 * (before.next - from)) buffer) m) (sym place)
      ∙ sym (batch_split from (before.next - from) m counts buffer) ∙ ap (batch_reads from counts buffer) size in
      subst (λ l. AdoptsInTurn dig k from old l (with_group before one) grown after) all
      (more reads last before one mid grown between after turn group.inside (group_adopts grown after one fits found))

  -- memory was refused at the group
  turn_stops : AdoptsInTurn dig k from old (batch_reads from counts buffer (before.next - from)) before mid between → before.next ≤ from + count
      → StopsAmong dig k from old (batch_reads from counts buffer count) mid between
  turn_stops turn high =
      let size : count ≡ before.next - from + (count - (before.next - from)) = omega (arith, high, low) in
      record {
        before = batch_reads from counts buffer (before.next - from);
        others = batch_reads (from + (before.next - from)) (drop (before.next - from) counts) (drop (16384 * (before.next - from)) buffer) (count - (before.next - from));
        all = ap (batch_reads from counts buffer) size ∙ batch_split from (before.next - from) (count - (before.next - from)) counts buffer;
        adopted = before;
        adopts = turn;
        anchor = anchor;
        first = first;
        count = m;
        group = group;
        size = count - (before.next - from);
        in_order = blocks_of_batch (from + (before.next - from)) (drop (before.next - from) counts) (drop (16384 * (before.next - from)) buffer) (count - (before.next - from))
            ∙ ap (λ f. range_with_len f (count - (before.next - from))) place;
      }

-- Some groups were adopted, and the blocks after them are still a batch.
pub record IsUnderWay {D : Type 0} (dig : List ℕ → List ℕ) (k : Facts) (from anchor count : ℕ) (blocks_found : List BlockFound) (old : StoreView D)
    (mid : Facts) (total : AdoptedGroups) (now : StoreView D) : Type 0 where
  pub low : from ≤ total.next
  pub high : total.next ≤ from + count
  pub batch : IsBatch mid total.next anchor (from + count - total.next)
  pub turn : (counts : List (Option ℕ)) (buffer : List ℕ) → AreRead dig old.file_length from blocks_found count counts buffer
      → AdoptsInTurn dig k from old.states (batch_reads from counts buffer (total.next - from)) total mid now.states
  pub marked : total.marked + from ≤ total.next
  pub faults : total.faults + from ≤ total.next
  pub others : now ≡ record old { states = now.states }
  pub same_tree : mid.file_length ≡ k.file_length

module _ {D : Type 0} (dig : List ℕ → List ℕ) (k : Facts) (from anchor count : ℕ) (blocks_found : List BlockFound) (old : StoreView D) where
  pub way_begun : IsBatch k from anchor count → IsUnderWay dig k from anchor count blocks_found old k (record { next = from; marked = 0; faults = 0 }) old
  way_begun batch =
      let all : from + count - from ≡ count = omega arith in
      let none_yet : from - from ≡ 0 = omega arith in
      record {
        low = omega arith;
        high = omega arith;
        batch = subst (IsBatch k from anchor) (sym all) batch;
        turn = λ counts buffer are.
            subst (λ l. AdoptsInTurn dig k from old.states l (record { next = from; marked = 0; faults = 0 }) k old.states)
            (sym (ap (batch_reads from counts buffer) none_yet ∙ reads_none from counts buffer)) none;
        marked = omega arith;
        faults = omega arith;
        others = refl;
        same_tree = refl;
      }

  pub way_nearest : (mid : Facts) (before : AdoptedGroups) (now : StoreView D) → IsUnderWay dig k from anchor count blocks_found old mid before now → before.next < from + count
      → IsAnchor mid before.next anchor
  way_nearest mid before now way left =
      let here : before.next + 0 ≡ before.next = omega arith in
      subst (λ p. IsAnchor mid p anchor) here (way.batch.nearest 0 (omega (arith, left)))

  module _ (mid : Facts) (before : AdoptedGroups) (now : StoreView D) (way : IsUnderWay dig k from anchor count blocks_found old mid before now) (left : before.next < from + count)
      (first m : ℕ) (group : IsUnknownGroup mid before.next anchor first m) where
    pub next_group : IsNext (2 ^ anchor) before.next (from + count - before.next) first m
    next_group = next_is mid before.next anchor (from + count - before.next) first m way.batch (omega (arith, left)) group

    fits : before.next - from + m ≤ count
    fits = omega (arith, next_group.fits, way.low, left)

    pub way_more : ReadSomehow dig old.file_length from blocks_found count → (grown : Facts) (one : Adopted) (after : StoreView D)
        → AdoptsFound dig now.file_length mid anchor first m now.states (drop (before.next - from) blocks_found) one grown after.states
        → one.next ≡ first + m → one.marked ≤ m → one.faults ≤ m → after ≡ record now { states = after.states }
        → IsUnderWay dig k from anchor count blocks_found old grown (with_group before one) after
    way_more (counts0, buffer0, are0) grown one after found next marked faults claimed =
        let same : now.file_length ≡ old.file_length = ap (λ s. s.file_length) way.others in
        let here : AdoptsFound dig old.file_length mid anchor first m now.states (drop (before.next - from) blocks_found) one grown after.states =
        subst (λ n. AdoptsFound dig n mid anchor first m now.states (drop (before.next - from) blocks_found) one grown after.states) same found in
        let some = group_adopts dig old.file_length k mid from count old.states now.states blocks_found counts0 buffer0 before anchor first m are0 way.low group next_group.begins
        grown after.states one fits here in
        let rest = batch_rest mid before.next anchor (from + count - before.next) first m way.batch (omega (arith, left)) group dig grown now.states after.states _ one some in
        let at : before.next + m ≡ one.next = omega (arith, next, next_group.begins) in
        let behind : from + count - before.next - m ≡ from + count - one.next = omega (arith, at) in
        let after_states : StoreView D → StoreView D = λ s. record s { states = after.states } in
        record {
          low = omega (arith, way.low, at);
          high = omega (arith, at, next_group.fits, left);
          batch = subst (λ c. IsBatch grown one.next anchor c) behind (subst (λ p. IsBatch grown p anchor (from + count - before.next - m)) at rest);
          turn = λ counts buffer are.
              turn_more dig old.file_length k mid from count old.states now.states blocks_found counts buffer before anchor first m are way.low group next_group.begins
              (way.turn counts buffer are) grown after.states one fits next here;
          marked = omega (arith, way.marked, marked, at);
          faults = omega (arith, way.faults, faults, at);
          others = claimed ∙ ap after_states way.others;
          same_tree = (adopt_extends dig mid grown before.next now.states after.states _ one some).file_length ∙ way.same_tree;
        }

    pub way_stops : StopsBatch dig old.file_length k from count old.states blocks_found mid now.states
    way_stops = λ counts buffer are.
        turn_stops dig old.file_length k mid from count old.states now.states blocks_found counts buffer before anchor first m are way.low group next_group.begins
        (way.turn counts buffer are) way.high

-- ---- a batch as a whole

module _ {D : Type 0} (conduct : Conduct D) (dig : List ℕ → List ℕ) (k grown : Facts) (from count : ℕ) (old mid new : StoreView D)
    (blocks_found : List BlockFound) (read : IsBatchRead conduct dig old.file_length from blocks_found count old.disk mid.disk)
    (others : mid ≡ record old { disk = mid.disk }) (after : new ≡ record mid { states = new.states }) where
  made : HasCalls conduct old.disk (map (call_of old.file_length) (batch_reads from read.counts read.buffer count)) new.disk
  made = subst (HasCalls conduct old.disk (map (call_of old.file_length) (batch_reads from read.counts read.buffer count))) (sym (ap (λ s. s.disk) after)) read.calls

  are_here : AreRead dig mid.file_length from blocks_found count read.counts read.buffer
  are_here = subst (λ n. AreRead dig n from blocks_found count read.counts read.buffer) (sym (ap (λ s. s.file_length) others)) read.are

  same : new.file_length ≡ old.file_length
  same = ap (λ s. s.file_length) after ∙ ap (λ s. s.file_length) others

  pub batch_adopted : (adopted : AdoptedGroups) → AdoptsBatch dig mid.file_length k from count mid.states blocks_found adopted grown new.states
      → AreAdopted conduct dig k from old (batch_reads from read.counts read.buffer count) adopted grown new
  batch_adopted adopted adopts = record {
    calls = made;
    adopts = subst (λ s. AdoptsInTurn dig k from s (batch_reads from read.counts read.buffer count) adopted grown new.states) (ap (λ s. s.states) others)
        (adopts read.counts read.buffer are_here);
    same_file = same;
  }

  pub batch_stopped : StopsBatch dig mid.file_length k from count mid.states blocks_found grown new.states
      → StopsInTurn conduct dig k from old (batch_reads from read.counts read.buffer count) grown new
  batch_stopped stops = record {
    calls = made;
    stops = subst (λ s. StopsAmong dig k from s (batch_reads from read.counts read.buffer count) grown new.states) (ap (λ s. s.states) others)
        (stops read.counts read.buffer are_here);
    same_file = same;
  }

-- ---- one group alone

module _ {D : Type 0} (conduct : Conduct D) (dig : List ℕ → List ℕ) (k grown : Facts) (from : ℕ) (old new : StoreView D) (reads : List BlockRead) where
  pub alone_adopted : (one : Adopted) → from < blocks_of k → IsAdopted conduct dig k from old reads one grown new
      → AreAdopted conduct dig k from old reads (record { next = one.next; marked = one.marked; faults = one.faults }) grown new
  alone_adopted one real is =
      let marked : 0 + one.marked ≡ one.marked = omega arith in
      let faulty : 0 + one.faults ≡ one.faults = omega arith in
      record {
        calls = is.calls;
        adopts = subst (λ m. AdoptsInTurn dig k from old.states reads (record { next = one.next; marked = m; faults = one.faults }) grown new.states) marked
            (subst (λ f. AdoptsInTurn dig k from old.states reads (record { next = one.next; marked = 0 + one.marked; faults = f }) grown new.states) faulty
            (more [] reads (record { next = from; marked = 0; faults = 0 }) one k grown old.states new.states none real is.adopts));
        same_file = is.same_file;
      }

  pub alone_stopped : StopsAdopting conduct dig k from old reads new → StopsInTurn conduct dig k from old reads k new
  alone_stopped is = record {
    calls = is.calls;
    stops = record {
      before = [];
      others = reads;
      all = refl;
      adopted = record { next = from; marked = 0; faults = 0 };
      adopts = subst (λ s. AdoptsInTurn dig k from old.states [] (record { next = from; marked = 0; faults = 0 }) k s) (sym (ap (λ s. s.states) is.others)) none;
      anchor = is.anchor;
      first = is.first;
      count = is.count;
      group = is.group;
      size = length reads;
      in_order = elim is.in_order [
        | inl empty ↦ rw empty refl
        | inr order ↦ order ∙ ap (range_with_len is.first) (sym (length-range_with_len is.first is.count) ∙ ap length (sym order) ∙ length-map reads block_of)
      ];
    };
    same_file = ap (λ s. s.file_length) is.others;
  }
