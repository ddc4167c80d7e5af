-- The nodes of a run's layers that cover a block, and after them the padding.
use Rattle.std.proofs.Common.{◌≡◌, ℕ, ◌+◌, ◌-◌, ◌*◌, ◌/◌, ◌%◌, ◌^◌, ◌<◌, ◌≤◌, inl, inr, List, [], length, take, sym, ap, ◌∙◌, arith}
use Rattle.std.proofs.lemmas.Bool.{cases_lt}
use Rattle.std.proofs.lemmas.List.{length-take-le, get_or-take}
use Rattle.bt_tree.specs.TreeShape.{real_width}
use Rattle.bt_tree.specs.Tree.{padding_digest}
use Rattle.bt_tree.specs.Peaks.{row_node}
use Rattle.bt_sparse.specs.declared.claim.Claim.{Claim}
use Rattle.bt_sparse.specs.Claim.{run_height, run_node, run_digest}
use Rattle.bt_sparse.specs.ExpansionSteps.{covered_count, AreRunNodes, IsCompleted, IsShort}
use Rattle.bt_sparse.specs.PaddingSteps.{HasPaddedRun}
use Rattle.bt_sparse.proofs.Covered.{half_width, covered_limit, covered_past, covered_next}
use Rattle.bt_sparse.proofs.Expansions.{in_row, run_nodes}
use Rattle.bt_sparse.proofs.Paddings.{padded_run}

-- after an odd number of nodes that cover a block there is one that covers none
record HasOdd (n : ℕ) (c : Claim) (above : ℕ) : Type 0 where
  less : covered_count n c above < 2 ^ (run_height c - above)
  past : real_width n (c.base + above) ≤ run_node c * 2 ^ (run_height c - above) + covered_count n c above

odd_past : (n : ℕ) (c : Claim) (above : ℕ) → above < run_height c → covered_count n c above % 2 ≡ 1 → HasOdd n c above
odd_past n c above low odd =
    let less : covered_count n c above < 2 ^ (run_height c - above) =
    apart (covered_count n c above) (2 ^ (run_height c - above)) (2 ^ (run_height c - (above + 1))) odd (half_width c above low) (covered_limit n c above) in
    record { less = less; past = covered_past n c above less }
  where
    apart : (k p q : ℕ) → k % 2 ≡ 1 → p ≡ q * 2 → k ≤ p → k < p
    apart k p q odd even le = omega arith

-- the nodes of a layer, when they are completed
pub record IsWholeLayer (dig : List ℕ → List ℕ) (n : ℕ) (c : Claim) (above first : ℕ) (row : List (List ℕ)) : Type 0 where
  pub nodes : AreRunNodes dig c above first row
  pub limit : length row ≤ 2 ^ (run_height c - above)
  pub pairs : length row / 2 ≡ covered_count n c (above + 1)

pub whole_layer : (dig : List ℕ → List ℕ) (n : ℕ) (c : Claim) (above first layer : ℕ) (row new : List (List ℕ)) → IsShort c → HasPaddedRun dig n c
    → above < run_height c → layer ≡ c.base + above → first ≡ run_node c * 2 ^ (run_height c - above) → length row ≡ covered_count n c above
    → AreRunNodes dig c above first row → IsCompleted (padding_digest dig layer) row new → IsWholeLayer dig n c above first new
whole_layer dig n c above first layer row new short run low here from size nodes done = record {
  nodes = λ i lt. elim (cases_lt i (length row)) [
    | inl inside ↦ done.kept i inside ∙ nodes i inside
    | inr le ↦
        let odd = odd_past n c above low (omega (arith, size, done.size, le, lt)) in
        let last : i ≡ covered_count n c above = omega (arith, size, done.size, le, lt) in
        let under : (first + i) / 2 ^ (run_height c - above) ≡ run_node c =
        in_row (run_node c) (2 ^ (run_height c - above)) (first + i) (omega (arith, from)) (omega (arith, from, last, odd.less)) in
        done.added i le lt ∙ ap (padding_digest dig) here
        ∙ sym (padded_run dig n c short run above (first + i) (omega arith) under (omega (arith, odd.past, from, last)))
  ];
  limit = limit (covered_count n c above) (length row) (length new) (2 ^ (run_height c - above)) (2 ^ (run_height c - (above + 1))) size done.size (half_width c above low) (covered_limit n c above);
  pairs = half (covered_count n c above) (length row) (length new) size done.size ∙ sym (covered_next n c above low);
}
  where
    limit : (k a b p q : ℕ) → a ≡ k → b ≡ a + a % 2 → p ≡ q * 2 → k ≤ p → b ≤ p
    limit k a b p q e f g le = omega arith

    half : (k a b : ℕ) → a ≡ k → b ≡ a + a % 2 → b / 2 ≡ (k + 1) / 2
    half k a b e f = omega arith

-- the nodes of the run
pub run_room : (n : ℕ) (c : Claim) (count : ℕ) → IsShort c → count ≡ (covered_count n c 0 + 1) / 2 → 2 * count ≤ length c.run
run_room n c count short half =
    let flat : run_height c - 0 ≡ run_height c = omega arith in
    let power : 2 ^ (run_height c - 0) ≡ length c.run = ap (λ k. 2 ^ k) flat ∙ sym short.power in
    within (covered_count n c 0) count (length c.run) (2 ^ (run_height c - (0 + 1))) half (sym power ∙ half_width c 0 (omega (arith, short.some))) (omega (arith, covered_limit n c 0, power))
  where
    within : (k count p q : ℕ) → count ≡ (k + 1) / 2 → p ≡ q * 2 → k ≤ p → 2 * count ≤ p
    within k count p q e f le = omega arith

pub run_layer : (dig : List ℕ → List ℕ) (n : ℕ) (c : Claim) (count : ℕ) → IsShort c → count ≡ (covered_count n c 0 + 1) / 2
    → IsWholeLayer dig n c 0 c.index (take (2 * count) c.run)
run_layer dig n c count short half =
    let flat : run_height c - 0 ≡ run_height c = omega arith in
    let power : 2 ^ (run_height c - 0) ≡ length c.run = ap (λ k. 2 ^ k) flat ∙ sym short.power in
    let limit = run_room n c count short half in
    let size : length (take (2 * count) c.run) ≡ 2 * count = length-take-le (2 * count) c.run limit in
    record {
      nodes = λ i lt. get_or-take (2 * count) c.run i [] (omega (arith, lt, size)) ∙ run_nodes dig c i (omega (arith, lt, size, limit));
      limit = omega (arith, size, limit, power);
      pairs = omega (arith, size, half, covered_next n c 0 (omega (arith, short.some)));
    }

-- the run's top, where it covers no block
pub padded_top : (dig : List ℕ → List ℕ) (n : ℕ) (c : Claim) (layers layer : ℕ) → IsShort c → HasPaddedRun dig n c → layers ≡ run_height c
    → layer ≡ c.base + layers → covered_count n c layers ≡ 0 → padding_digest dig layer ≡ row_node dig (run_digest c) layers (run_node c)
padded_top dig n c layers layer short run all here none =
    let flat : run_height c - layers ≡ 0 = omega arith in
    let one : 2 ^ (run_height c - layers) ≡ 1 = ap (λ k. 2 ^ k) flat in
    let past = covered_past n c layers (omega (arith, one, none)) in
    let under : run_node c / 2 ^ (run_height c - layers) ≡ run_node c = ap (λ p. run_node c / p) one ∙ whole (run_node c) in
    let real : real_width n (c.base + layers) ≤ run_node c = omega (arith, past, none, ap (λ p. run_node c * p) one) in
    ap (padding_digest dig) here ∙ sym (padded_run dig n c short run layers (run_node c) (omega arith) under real)
  where
    whole : (k : ℕ) → k / 1 ≡ k
    whole k = omega arith
