-- One more digest on the peaks: the step of `add`.
use Rattle.std.proofs.Common.{◌≡◌, ℕ, suc, ◌+◌, ◌-◌, ◌/◌, ◌%◌, ◌^◌, ◌<◌, List, [], ◌∷◌, ◌++◌, refl, sym, ap, ◌∙◌, arith}
use Rattle.std.proofs.lemmas.List.{same_from_push}
use Rattle.bt_tree.specs.Peaks.{row_node, peaks_from, peaks_of, peak_count}
use Rattle.bt_tree.proofs.TreeNodes.{row_parent}
use Rattle.bt_tree.proofs.PeaksList.{peak_count_room, peak_count_even, peak_count_odd, peak_count_odd_next, peaks_even, peaks_odd, peaks_odd_next, above_is, half_fits}

-- The digest is that of node `rest` of the layer `level`, which has `above` layers above it, and the peaks are those
-- over the nodes before it.
pub record IsCarryStep (dig : List ℕ → List ℕ) (old : List (List ℕ)) (count : ℕ) (leaf : List ℕ) (items : List (List ℕ)) (len rest : ℕ)
    (digest : List ℕ) : Type 0 where
  pub level : ℕ
  pub above : ℕ
  pub sum : level + above ≡ 26
  pub room : rest < 2 ^ above
  pub size : len ≡ peak_count above rest
  pub size_after : peak_count 26 (count + 1) ≡ peak_count above (rest + 1)
  pub holds : (row : ℕ → List ℕ) → old ≡ peaks_of dig row count → leaf ≡ row count
      → (items ≡ peaks_from (row_node dig row) level above rest) × (digest ≡ row_node dig row level rest)
      × (peaks_of dig row (count + 1) ≡ peaks_from (row_node dig row) level above (rest + 1))

pub carry_none : (dig : List ℕ → List ℕ) (old : List (List ℕ)) (count : ℕ) (leaf : List ℕ) (len : ℕ) → count < 2 ^ 26 → len ≡ peak_count 26 count
    → IsCarryStep dig old count leaf old len count leaf
unfolding row_node
carry_none dig old count leaf len room size =
    record { level = 0; above = 26; sum = refl; room = room; size = size; size_after = refl; holds = λ row held here. (held, here, refl) }

pub carry_more : (dig : List ℕ → List ℕ) (old : List (List ℕ)) (count : ℕ) (leaf : List ℕ) (items popped : List (List ℕ)) (len fewer rest : ℕ)
    (left digest : List ℕ)
    → rest % 2 ≡ 1 → items ≡ popped ++ left ∷ [] → fewer + 1 ≡ len → IsCarryStep dig old count leaf items len rest digest
    → IsCarryStep dig old count leaf popped fewer (rest / 2) (dig (left ++ digest))
carry_more dig old count leaf items popped len fewer rest left digest odd split one h =
    let n : ℕ = h.above - 1 in
    let up : h.above ≡ suc n = above_is h.above rest odd h.room in
    record {
      level = suc h.level;
      above = n;
      sum = omega (arith, h.sum);
      room = half_fits h.above n rest up h.room;
      size = omega (arith, h.size, peak_count_odd h.above n rest up odd);
      size_after = h.size_after ∙ peak_count_odd_next h.above n rest up odd;
      holds = λ row held here.
          let before = h.holds row held here in
          let node = row_node dig row in
          let parts = same_from_push popped (peaks_from node (suc h.level) n (rest / 2)) left (node h.level (rest - 1))
          (sym split ∙ before.0 ∙ peaks_odd node h.level h.above n rest up odd) in (
            parts.0,
            ap (λ d. dig (d ++ digest)) parts.1 ∙ ap (λ d. dig (node h.level (rest - 1) ++ d)) before.1
                ∙ row_parent dig row h.level (rest / 2) (rest - 1) rest (omega arith) (omega arith),
            before.2 ∙ peaks_odd_next node h.level h.above n rest up odd,
          );
    }

pub carry_room : (dig : List ℕ → List ℕ) (old : List (List ℕ)) (count : ℕ) (leaf : List ℕ) (items : List (List ℕ)) (len rest : ℕ) (digest : List ℕ)
    → rest % 2 ≡ 0 → IsCarryStep dig old count leaf items len rest digest → len < 27
carry_room dig old count leaf items len rest digest even h =
    omega (arith, h.sum, h.size, peak_count_room h.above rest even h.room)

pub carry_size : (dig : List ℕ → List ℕ) (old : List (List ℕ)) (count : ℕ) (leaf : List ℕ) (items : List (List ℕ)) (len rest : ℕ) (digest : List ℕ)
    → rest % 2 ≡ 0 → IsCarryStep dig old count leaf items len rest digest → len + 1 ≡ peak_count 26 (count + 1)
carry_size dig old count leaf items len rest digest even h =
    omega (arith, h.size, h.size_after, peak_count_even h.above rest even h.room)

pub carry_done : (dig : List ℕ → List ℕ) (old : List (List ℕ)) (count : ℕ) (leaf : List ℕ) (items : List (List ℕ)) (len rest : ℕ) (digest : List ℕ)
    → rest % 2 ≡ 0 → IsCarryStep dig old count leaf items len rest digest
    → (row : ℕ → List ℕ) → old ≡ peaks_of dig row count → leaf ≡ row count → items ++ digest ∷ [] ≡ peaks_of dig row (count + 1)
carry_done dig old count leaf items len rest digest even h row held here =
    let after = h.holds row held here in
    let node = row_node dig row in
    ap (λ xs. xs ++ digest ∷ []) after.0 ∙ ap (λ d. peaks_from node h.level h.above rest ++ d ∷ []) after.1
    ∙ sym (after.2 ∙ peaks_even node h.level h.above rest even h.room)

pub carry_left : (dig : List ℕ → List ℕ) (old : List (List ℕ)) (count : ℕ) (leaf : List ℕ) (items : List (List ℕ)) (len rest : ℕ) (digest : List ℕ)
    → rest % 2 ≡ 1 → IsCarryStep dig old count leaf items len rest digest → 0 < len
carry_left dig old count leaf items len rest digest odd h =
    omega (arith, h.size, peak_count_odd h.above (h.above - 1) rest (above_is h.above rest odd h.room) odd)
