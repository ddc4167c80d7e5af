-- Eight nodes over a row of digests, and what the whole row folds to.
use Rattle.std.proofs.Common.{◌≡◌, ℕ, zero, suc, ◌+◌, ◌-◌, ◌*◌, ◌^◌, ◌<◌, ◌≤◌, List, [], ◌++◌, length, take, drop, get_or, replicate, inl, inr, refl, sym, ap, ◌∙◌, arith, append-nil}
use Rattle.std.proofs.Math.Nat.{mul-le-mul_right}
use Rattle.std.proofs.lemmas.Bool.{cases_lt}
use Rattle.std.proofs.lemmas.List.{take_at, drop_at, drop_all, get_or_append_left}
use borrow.Rule.Slice.PartMut.{put_mid, post_of}
use Rattle.bt_tree.specs.Tree.{padding_digest}
use Rattle.bt_tree.specs.Peaks.{row_node}
use Rattle.bt_tree.specs.Layers.{fold_of}
use Rattle.bt_tree.proofs.TreeNodes.{row_parent, row_node_same, row_node_shift, padding_suc, fold_is}

-- two parts that are written one after the other
pub two_parts : (l r a b rest : List ℕ) → length l ≡ 32 → length rest ≡ 32 → a ≡ l → b ≡ r → put_mid 32 32 (a ++ rest) b ≡ l ++ r
two_parts l r a b rest ll lr ea eb =
    let front : take 32 (l ++ rest) ≡ l = take_at l rest 32 ll in
    let back : post_of 32 32 (l ++ rest) ≡ [] = ap (drop 32) (drop_at l rest 32 ll) ∙ drop_all 32 rest (omega arith) in
    rw (ea, eb) (rw (front, back, append-nil) refl)

pub row_zero : (dig : List ℕ → List ℕ) (row : ℕ → List ℕ) (i : ℕ) → row_node dig row 0 i ≡ row i
unfolding row_node
row_zero dig row i = refl

-- a node over the padding of a layer
padding_over : (dig : List ℕ → List ℕ) (layer k j : ℕ) → row_node dig (λ i. padding_digest dig layer) k j ≡ padding_digest dig (layer + k)
unfolding row_node
padding_over dig layer zero j = let e : layer + 0 ≡ layer = omega arith in ap (padding_digest dig) (sym e)
padding_over dig layer (suc k) j =
    let up : layer + suc k ≡ suc (layer + k) = omega arith in
    ap (λ d. dig (d ++ row_node dig (λ i. padding_digest dig layer) k (2 * j + 1))) (padding_over dig layer k (2 * j))
    ∙ ap (λ d. dig (padding_digest dig (layer + k) ++ d)) (padding_over dig layer k (2 * j + 1))
    ∙ padding_suc dig (layer + k) ∙ ap (padding_digest dig) (sym up)

-- one of eight nodes of which every digest below is the padding's
pub padding_node : (dig : List ℕ → List ℕ) (row : ℕ → List ℕ) (layer k j : ℕ) → j < 8
    → ((i : ℕ) → i < 8 * 2 ^ k → row i ≡ padding_digest dig layer) → row_node dig row k j ≡ padding_digest dig (layer + k)
padding_node dig row layer k j lt same =
    row_node_same dig row (λ i. padding_digest dig layer) k j
    (λ i low high. same i (omega (arith, mul-le-mul_right (2 ^ k) (next j lt)))) ∙ padding_over dig layer k j
  where
    next : (j : ℕ) → j < 8 → j + 1 ≤ 8
    next j lt = omega arith

-- the parents of sixteen nodes
pub nodes_up : (dig : List ℕ → List ℕ) (row : ℕ → List ℕ) (k j : ℕ) (nodes : List (List ℕ)) (d : List ℕ) → j < 8
    → ((i : ℕ) → i < 16 → get_or nodes i [] ≡ row_node dig row k i)
    → d ≡ dig (get_or nodes (2 * j) [] ++ get_or nodes (2 * j + 1) []) → d ≡ row_node dig row (k + 1) j
nodes_up dig row k j nodes d lt same e =
    let up : suc k ≡ k + 1 = omega arith in
    e ∙ ap (λ x. dig (x ++ get_or nodes (2 * j + 1) [])) (same (2 * j) (omega arith))
    ∙ ap (λ x. dig (row_node dig row k (2 * j) ++ x)) (same (2 * j + 1) (omega arith))
    ∙ row_parent dig row k j (2 * j) (2 * j + 1) refl refl ∙ ap (λ l. row_node dig row l j) up

-- eight nodes and the eight after them
pub nodes_beside : (dig : List ℕ → List ℕ) (row : ℕ → List ℕ) (k s : ℕ) (nodes left right : List (List ℕ)) → s ≡ 8 * 2 ^ k
    → ((i : ℕ) → i < 8 → get_or nodes i [] ≡ get_or left i []) → ((i : ℕ) → i < 8 → get_or nodes (8 + i) [] ≡ get_or right i [])
    → ((i : ℕ) → i < 8 → get_or left i [] ≡ row_node dig row k i) → ((i : ℕ) → i < 8 → get_or right i [] ≡ row_node dig (λ q. row (s + q)) k i)
    → (i : ℕ) → i < 16 → get_or nodes i [] ≡ row_node dig row k i
nodes_beside dig row k s nodes left right size first second lows highs i lt = elim (cases_lt i 8) [
  | inl low ↦ first i low ∙ lows i low
  | inr high ↦
      let q : ℕ = i - 8 in
      let e : 8 + (i - 8) ≡ i = omega arith in
      ap (λ n. get_or nodes n []) (sym e) ∙ second (i - 8) (omega arith) ∙ highs (i - 8) (omega arith)
      ∙ row_node_shift dig row k 8 s (i - 8) size ∙ ap (row_node dig row k) e
]

-- nodes over nodes
row_node_over : (dig : List ℕ → List ℕ) (row : ℕ → List ℕ) (a k i : ℕ) → row_node dig (λ q. row_node dig row a q) k i ≡ row_node dig row (k + a) i
unfolding row_node
row_node_over dig row a zero i = let e : 0 + a ≡ a = omega arith in ap (λ l. row_node dig row l i) (sym e)
row_node_over dig row a (suc k) i =
    let up : suc k + a ≡ suc (k + a) = omega arith in
    ap (λ d. dig (d ++ row_node dig (λ q. row_node dig row a q) k (2 * i + 1))) (row_node_over dig row a k (2 * i))
    ∙ ap (λ d. dig (row_node dig row (k + a) (2 * i) ++ d)) (row_node_over dig row a k (2 * i + 1))
    ∙ ap (λ l. row_node dig row l i) (sym up)

-- what the eight nodes three layers below the top fold to is what the whole row folds to
pub top_fold : (dig : List ℕ → List ℕ) (whole nodes : List (List ℕ)) (none layers : ℕ) (padding : List ℕ) → length nodes ≡ 8 → 3 ≤ layers
    → ((j : ℕ) → j < 8 → get_or nodes j [] ≡ row_node dig (λ i. get_or whole i []) (layers - 3) j)
    → fold_of dig 3 (nodes ++ replicate none padding) ≡ fold_of dig layers whole
top_fold dig whole nodes none layers padding eight high same =
    let row : ℕ → List ℕ = λ i. get_or whole i [] in
    let e : 3 + (layers - 3) ≡ layers = omega arith in
    fold_is dig 3 (nodes ++ replicate none padding)
    ∙ row_node_same dig (λ i. get_or (nodes ++ replicate none padding) i []) (λ q. row_node dig row (layers - 3) q) 3 0
    (λ j low lt. get_or_append_left nodes (replicate none padding) [] j (omega arith) ∙ same j (omega arith))
    ∙ row_node_over dig row (layers - 3) 3 0 ∙ ap (λ l. row_node dig row l 0) e ∙ sym (fold_is dig layers whole)
