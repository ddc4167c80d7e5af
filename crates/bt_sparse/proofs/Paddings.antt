-- The padding of a claim shows in its run and its uncles: what lies below a node without blocks has none.
use Rattle.std.proofs.Common.{◌≡◌, ℕ, zero, suc, ◌+◌, ◌-◌, ◌*◌, ◌/◌, ◌^◌, ◌<◌, ◌≤◌, inl, inr, List, [], ◌++◌, length, take, drop, get_or, Option, Some, None, refl, sym, ap, ◌∙◌, subst, length-drop, add-one, arith}
use Rattle.std.specs.Option.{ok_or}
use Rattle.std.specs.Result.{IfOk, IfErr}
use Rattle.std.proofs.Math.Nat.{div-mul-le_self, lt-div-mul-add}
use Rattle.std.proofs.lemmas.Nat.{pow_pos}
use Rattle.std.proofs.lemmas.List.{length-take-le, get_or-take, get_or-drop}
use Rattle.bt_tree.specs.Peaks.{row_node}
use Rattle.bt_tree.specs.TreeShape.{real_width}
use Rattle.bt_tree.specs.Tree.{padding_digest}
use Rattle.bt_tree.proofs.TreeNodes.{padding_suc}
use Rattle.bt_sparse.specs.declared.claim.Claim.{Claim}
use Rattle.bt_sparse.specs.SparseTree.{Facts, blocks_of, height, held_at}
use Rattle.bt_sparse.specs.Claim.{Claims, in_run, on_path, uncle, run_height, run_top, run_node, run_digest, path_node, path_digest, parent_digest, sibling_of, top_layer, top_node, HasShape}
use Rattle.bt_sparse.specs.declared.claim.ProofError.TheVariants.{NoAnchor}
use Rattle.bt_sparse.specs.Acceptance.{HasPadding, IsRefused, no_anchor}
use Rattle.bt_sparse.specs.AcceptanceSteps.{HangsFrom}
use Rattle.bt_sparse.specs.ExpansionSteps.{IsShort}
use Rattle.bt_sparse.specs.PaddingSteps.{HasPaddedRun, HasPaddedUncles}
use Rattle.bt_sparse.proofs.Halves.{parity}
use Rattle.bt_sparse.proofs.Claims.{double_div, claimed_inside}
use Rattle.bt_sparse.proofs.Expansions.{in_row, path_first, path_up, path_digest_more}
use Rattle.bt_sparse.proofs.Acceptances.{real_below}

-- the end of a list
pub tail_length : (xs : List (List ℕ)) (k : ℕ) → length (take (length xs - k) (drop k xs)) ≡ length xs - k
tail_length xs k =
    let rest : length (drop k xs) ≡ length xs - k = length-drop k xs in
    length-take-le (length xs - k) (drop k xs) (omega (arith, rest))

pub tail_at : (xs : List (List ℕ)) (k j : ℕ) → j < length xs - k → get_or (take (length xs - k) (drop k xs)) j [] ≡ get_or xs (k + j) []
tail_at xs k j lt = get_or-take (length xs - k) (drop k xs) j [] lt ∙ get_or-drop k xs j []

-- where a node of the run stands in it
record IsRunIndex (c : Claim) (i : ℕ) : Type 0 where
  from : c.index ≤ i
  to : i - c.index < length c.run

run_index : (c : Claim) (i : ℕ) → IsShort c → i / 2 ^ run_height c ≡ run_node c → IsRunIndex c i
run_index c i short under =
    let floor : i / 2 ^ run_height c * 2 ^ run_height c ≤ i = div-mul-le_self i (2 ^ run_height c) in
    let next : i < i / 2 ^ run_height c * 2 ^ run_height c + 2 ^ run_height c = lt-div-mul-add {a = i} {b = 2 ^ run_height c} (pow_pos (run_height c)) in
    let times = ap (λ q. q * 2 ^ run_height c) under in
    record { from = omega (arith, floor, times, short.start); to = omega (arith, floor, next, times, short.start, short.power) }

-- two padded children make a padded node
padded_parent : (dig : List ℕ → List ℕ) (layer : ℕ) (left right : List ℕ) → left ≡ padding_digest dig layer → right ≡ padding_digest dig layer
    → dig (left ++ right) ≡ padding_digest dig (suc layer)
padded_parent dig layer left right l r = rw (l, r) (padding_suc dig layer)

pub padded_run : (dig : List ℕ → List ℕ) (n : ℕ) (c : Claim) → IsShort c → HasPaddedRun dig n c → (above i : ℕ) → above ≤ run_height c
    → i / 2 ^ (run_height c - above) ≡ run_node c → real_width n (c.base + above) ≤ i → row_node dig (run_digest c) above i ≡ padding_digest dig (c.base + above)
unfolding row_node
padded_run dig n c short run zero i low under past =
    let flat : run_height c ≡ run_height c - 0 = omega arith in
    let at = run_index c i short (ap (λ m. i / 2 ^ m) flat ∙ under) in
    let here : c.index + (i - c.index) ≡ i = omega (arith, at.from) in
    let base : c.base + 0 ≡ c.base = omega arith in
    let real : real_width n c.base ≤ i = subst (λ l. real_width n l ≤ i) base past in
    run (i - c.index) at.to (rw here real) ∙ ap (padding_digest dig) (sym base)
padded_run dig n c short run (suc above) i low under past =
    let wide : 2 ^ (run_height c - above) ≡ 2 ^ suc (run_height c - suc above) = ap (λ m. 2 ^ m) (let up : run_height c - above ≡ suc (run_height c - suc above) = omega arith in up) in
    let left : 2 * i / 2 ^ (run_height c - above) ≡ run_node c =
    ap (λ p. 2 * i / p) wide ∙ double_div (2 * i) i (run_height c - suc above) (omega arith) ∙ under in
    let right : (2 * i + 1) / 2 ^ (run_height c - above) ≡ run_node c =
    ap (λ p. (2 * i + 1) / p) wide ∙ double_div (2 * i + 1) i (run_height c - suc above) (omega arith) ∙ under in
    let next : c.base + suc above ≡ c.base + above + 1 = omega arith in
    let below : real_width n (c.base + above) ≤ 2 * i = real_below n (c.base + above) i (rw (sym next) past) in
    let level : suc (c.base + above) ≡ c.base + suc above = omega arith in
    padded_parent dig (c.base + above) (row_node dig (run_digest c) above (2 * i)) (row_node dig (run_digest c) above (2 * i + 1))
    (padded_run dig n c short run above (2 * i) (omega arith) left below)
    (padded_run dig n c short run above (2 * i + 1) (omega arith) right (omega (arith, below)))
    ∙ ap (padding_digest dig) level

padded_path : (dig : List ℕ → List ℕ) (n : ℕ) (c : Claim) → IsShort c → HasPaddedRun dig n c → HasPaddedUncles dig n c → (t : ℕ) → t ≤ length c.uncles
    → real_width n (run_top c + t) ≤ path_node c t → path_digest dig c t ≡ padding_digest dig (run_top c + t)
padded_path dig n c short run uncles zero within past =
    let none : run_height c - run_height c ≡ 0 = omega arith in
    let whole : run_node c / 1 ≡ run_node c = omega arith in
    let flat : run_top c + 0 ≡ c.base + run_height c = omega arith in
    path_first dig c
    ∙ padded_run dig n c short run (run_height c) (run_node c) (omega arith) (ap (λ m. run_node c / 2 ^ m) none ∙ whole) (rw (sym flat, sym whole) past)
    ∙ ap (padding_digest dig) (sym flat)
padded_path dig n c short run uncles (suc t) within past =
    let e : ℕ = path_node c t in
    let next : run_top c + suc t ≡ run_top c + t + 1 = omega arith in
    let up : path_node c (suc t) ≡ path_node c t / 2 = ap (path_node c) (sym (add-one t)) ∙ sym (path_up c t) in
    let real : real_width n (run_top c + t + 1) ≤ path_node c t / 2 = rw (sym next, sym up) past in
    let below : real_width n (run_top c + t) ≤ 2 * (path_node c t / 2) = real_below n (run_top c + t) (path_node c t / 2) real in
    let own : path_digest dig c t ≡ padding_digest dig (run_top c + t) = padded_path dig n c short run uncles t (omega arith) (omega (arith, below)) in
    let beside : real_width n (run_top c + t) ≤ sibling_of (path_node c t) = elim (parity (path_node c t)) [
      | inl p ↦ rw p.1 (omega (arith, below))
      | inr p ↦ rw p.1 (omega (arith, below, p.0))
    ] in
    let other : get_or c.uncles t [] ≡ padding_digest dig (run_top c + t) = uncles t (omega arith) beside in
    let level : suc (run_top c + t) ≡ run_top c + suc t = omega arith in
    ap (path_digest dig c) (sym (add-one t)) ∙ path_digest_more dig c t
    ∙ both (path_node c t) (path_digest dig c t) (get_or c.uncles t []) (run_top c + t) own other ∙ ap (padding_digest dig) level
  where
    both : (i : ℕ) (own other : List ℕ) (layer : ℕ) → own ≡ padding_digest dig layer → other ≡ padding_digest dig layer
        → parent_digest dig i own other ≡ padding_digest dig (suc layer)
    both i own other layer a b = elim (parity i) [
      | inl p ↦ rw p.1 (padded_parent dig layer own other a b)
      | inr p ↦ rw p.1 (padded_parent dig layer other own b a)
    ]

pub has_padding : (dig : List ℕ → List ℕ) (k : Facts) (c : Claim) → IsShort c → HasPaddedRun dig (blocks_of k) c
    → HasPaddedUncles dig (blocks_of k) c → HasPadding dig k c
has_padding dig k c short run uncles layer i d (in_run h) past =
    h.digest ∙ padded_run dig (blocks_of k) c short run h.above i h.low h.under (rw (sym h.here) past.past) ∙ ap (padding_digest dig) (sym h.here)
has_padding dig k c short run uncles layer i d (on_path h) past =
    h.digest ∙ padded_path dig (blocks_of k) c short run uncles h.above h.within (rw (sym h.here, sym h.node) past.past) ∙ ap (padding_digest dig) (sym h.here)
has_padding dig k c short run uncles layer i d (uncle h) past =
    h.digest ∙ uncles h.above h.within (rw (sym h.here, sym h.node) past.past) ∙ ap (padding_digest dig) (sym h.here)

-- and where it is right, so are these two
pub run_padded : (dig : List ℕ → List ℕ) (k : Facts) (c : Claim) → HasShape (height k) c → IsShort c → HasPadding dig k c → HasPaddedRun dig (blocks_of k) c
unfolding row_node
run_padded dig k c shape short padding j within past =
    let flat : run_height c - 0 ≡ run_height c = omega arith in
    let under : (c.index + j) / 2 ^ run_height c ≡ run_node c =
    in_row (run_node c) (2 ^ run_height c) (c.index + j) (omega (arith, short.start)) (omega (arith, short.start, short.power, within)) in
    let place : j ≡ c.index + j - c.index = omega arith in
    let claim : Claims dig c c.base (c.index + j) (get_or c.run j []) = in_run record {
      above = 0;
      here = omega arith;
      low = omega arith;
      under = ap (λ m. (c.index + j) / 2 ^ m) flat ∙ under;
      digest = ap (λ m. get_or c.run m []) place;
    } in
    let at = claimed_inside dig (height k) c c.base (c.index + j) (get_or c.run j []) shape claim in
    padding c.base (c.index + j) (get_or c.run j []) claim record { inside = record { in_height = at.0; in_width = at.1 }; past = past }

pub uncles_padded : (dig : List ℕ → List ℕ) (k : Facts) (c : Claim) → HasShape (height k) c → HasPadding dig k c → HasPaddedUncles dig (blocks_of k) c
uncles_padded dig k c shape padding t within past =
    let claim : Claims dig c (run_top c + t) (sibling_of (path_node c t)) (get_or c.uncles t []) = uncle record { above = t; here = refl; within = within; node = refl; digest = refl } in
    let at = claimed_inside dig (height k) c (run_top c + t) (sibling_of (path_node c t)) (get_or c.uncles t []) shape claim in
    padding (run_top c + t) (sibling_of (path_node c t)) (get_or c.uncles t []) claim record { inside = record { in_height = at.0; in_width = at.1 }; past = past }

-- what is held at the top of a claim of the right shape and padding, or that nothing is
pub top_held : (dig : List ℕ → List ℕ) (k : Facts) (c : Claim) (o : Option (List ℕ)) → HasShape (height k) c → HasPadding dig k c
    → held_at k (top_layer c) (top_node c) ≡ o → IfOk (ok_or o NoAnchor) (HangsFrom dig k c)
top_held dig k c (Some d) shape padding e = record { shape = shape; padding = padding; held = e }
top_held dig k c None shape padding e = tt

pub top_unheld : (dig : List ℕ → List ℕ) (k : Facts) (c : Claim) (o : Option (List ℕ)) → HasShape (height k) c → HasPadding dig k c
    → held_at k (top_layer c) (top_node c) ≡ o → IfErr (ok_or o NoAnchor) (IsRefused dig k c)
top_unheld dig k c (Some d) shape padding e = tt
top_unheld dig k c None shape padding e = no_anchor shape padding e
