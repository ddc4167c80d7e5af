-- The tree over the peaks and the padding after them: the steps of `close`.
use Rattle.std.proofs.Common.{◌≡◌, ℕ, suc, ◌+◌, ◌-◌, ◌*◌, ◌/◌, ◌%◌, ◌^◌, ◌<◌, ◌≤◌, List, [], ◌∷◌, ◌++◌, length, take, get_or, refl, sym, ap, ◌∙◌, arith}
use Rattle.std.proofs.Math.Nat.{pow-suc}
use Rattle.std.proofs.lemmas.List.{same_from_push, take_more}
use Rattle.bt_tree.specs.Peaks.{row_node, peaks_from, peaks_of}
use Rattle.bt_tree.proofs.TreeNodes.{row_parent}
use Rattle.bt_tree.proofs.PeaksList.{peaks_odd, peaks_half, peaks_whole}

-- Of the peaks those from layer k up are left. Below 2 ^ m, node c of layer k is open, and those after it are padding.
pub record IsCloseStep (dig : List ℕ → List ℕ) (row : ℕ → List ℕ) (k n m c : ℕ) (left : List (List ℕ)) (padding open_node : List ℕ) : Type 0 where
  pub peaks : left ≡ peaks_from (row_node dig row) k n c
  pub past : (i : ℕ) → c < i → i < 2 ^ m → row_node dig row k i ≡ padding
  pub here : open_node ≡ row_node dig row k c

pub closing_none : (dig : List ℕ → List ℕ) (row : ℕ → List ℕ) (m c : ℕ) (left : List (List ℕ)) (padding : List ℕ) → c < 2 ^ m → left ≡ peaks_of dig row c
    → ((i : ℕ) → c ≤ i → i < 2 ^ m → row i ≡ padding) → IsCloseStep dig row 0 26 m c left padding padding
unfolding row_node
closing_none dig row m c left padding room held past =
    record { peaks = held; past = λ i low high. past i (omega arith) high; here = sym (past c (omega arith) room) }

past_parent : (dig : List ℕ → List ℕ) (row : ℕ → List ℕ) (k m l c : ℕ) (padding : List ℕ) → m ≡ suc l
    → ((i : ℕ) → c < i → i < 2 ^ m → row_node dig row k i ≡ padding)
    → (i : ℕ) → c / 2 < i → i < 2 ^ l → row_node dig row (suc k) i ≡ dig (padding ++ padding)
past_parent dig row k m l c padding e past i low high =
    let wide : 2 ^ m ≡ 2 ^ l * 2 = ap (λ j. 2 ^ j) e ∙ pow-suc 2 l in
    sym (row_parent dig row k i (2 * i) (2 * i + 1) refl refl)
    ∙ ap (λ d. dig (d ++ row_node dig row k (2 * i + 1))) (past (2 * i) (omega arith) (omega arith))
    ∙ ap (λ d. dig (padding ++ d)) (past (2 * i + 1) (omega arith) (omega arith))

pub closing_odd : (dig : List ℕ → List ℕ) (row : ℕ → List ℕ) (k n j m l c a at : ℕ) (stack : List (List ℕ)) (x padding open_node d : List ℕ)
    → n ≡ suc j → m ≡ suc l → c % 2 ≡ 1 → at ≡ a + 1 → at ≤ length stack → x ≡ get_or stack a d
    → IsCloseStep dig row k n m c (take at stack) padding open_node
    → IsCloseStep dig row (suc k) j l (c / 2) (take a stack) (dig (padding ++ padding)) (dig (x ++ open_node))
closing_odd dig row k n j m l c a at stack x padding open_node d up down odd next within read h =
    let node = row_node dig row in
    let parts = same_from_push (take a stack) (peaks_from node (suc k) j (c / 2)) (get_or stack a d) (node k (c - 1))
    (sym (take_more stack a d (omega arith)) ∙ ap (λ i. take i stack) (sym next) ∙ h.peaks ∙ peaks_odd node k n j c up odd) in
    record {
      peaks = parts.0;
      past = past_parent dig row k m l c padding down h.past;
      here = ap (λ y. dig (y ++ open_node)) (read ∙ parts.1) ∙ ap (λ y. dig (node k (c - 1) ++ y)) h.here
          ∙ row_parent dig row k (c / 2) (c - 1) c (omega arith) (omega arith);
    }

pub closing_even : (dig : List ℕ → List ℕ) (row : ℕ → List ℕ) (k n j m l c : ℕ) (left : List (List ℕ)) (padding open_node : List ℕ)
    → n ≡ suc j → m ≡ suc l → c % 2 ≡ 0 → c < 2 ^ m → IsCloseStep dig row k n m c left padding open_node
    → IsCloseStep dig row (suc k) j l (c / 2) left (dig (padding ++ padding)) (dig (open_node ++ padding))
closing_even dig row k n j m l c left padding open_node up down even room h =
    let node = row_node dig row in
    let wide : 2 ^ m ≡ 2 ^ l * 2 = ap (λ i. 2 ^ i) down ∙ pow-suc 2 l in
    record {
      peaks = h.peaks ∙ peaks_half node k n j c up even;
      past = past_parent dig row k m l c padding down h.past;
      here = ap (λ y. dig (y ++ padding)) h.here ∙ ap (λ y. dig (node k c ++ y)) (sym (h.past (c + 1) (omega arith) (omega arith)))
          ∙ row_parent dig row k (c / 2) c (c + 1) (omega arith) (omega arith);
    }

-- where every node is whole
pub closing_whole : (dig : List ℕ → List ℕ) (row : ℕ → List ℕ) (layers count : ℕ) (peaks : List (List ℕ)) → layers ≤ 26 → count ≡ 2 ^ layers
    → peaks ≡ peaks_of dig row count → get_or peaks 0 [] ≡ row_node dig row layers 0
closing_whole dig row layers count peaks high e held =
    let none : 0 + layers ≡ layers = omega arith in
    let one : peaks ≡ row_node dig row layers 0 ∷ [] =
    held ∙ ap (λ c. peaks_of dig row c) e ∙ peaks_whole (row_node dig row) 0 26 layers high ∙ ap (λ k. row_node dig row k 0 ∷ []) none in
    ap (λ xs. get_or xs 0 []) one

-- where none is left
pub closing_done : (dig : List ℕ → List ℕ) (row : ℕ → List ℕ) (k n m layers c : ℕ) (left : List (List ℕ)) (padding open_node : List ℕ) → k ≡ layers
    → m ≡ 0 → c < 2 ^ m
    → IsCloseStep dig row k n m c left padding open_node → open_node ≡ row_node dig row layers 0
closing_done dig row k n m layers c left padding open_node top down room h =
    let power : 2 ^ m ≡ 1 = ap (λ i. 2 ^ i) down in
    let none : c ≡ 0 = omega arith in
    h.here ∙ ap (row_node dig row k) none ∙ ap (λ l. row_node dig row l 0) top
