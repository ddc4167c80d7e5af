-- The digests of pairs, one or eight more.
use Rattle.std.proofs.Common.{◌≡◌, ℕ, zero, suc, ◌+◌, ◌-◌, ◌*◌, ◌<◌, inl, inr, List, [], ◌∷◌, ◌++◌, length, take, drop, get_or, sym, ap, ◌∙◌, subst, length-append, arith}
use Rattle.std.proofs.lemmas.Bool.{cases_lt}
use Rattle.std.proofs.lemmas.List.{get_or_append_left, get_or-append_right, get_or_push, get_or-take, get_or-drop, drop-drop}
use Rattle.std.specs.Simd.{first_chunks}
use Rattle.bt_sparse.specs.ExpansionSteps.{AreParents}

pub no_parents : (dig : List ℕ → List ℕ) (nodes above : List (List ℕ)) → above ≡ [] → AreParents dig nodes above 0
no_parents dig nodes above e = record { size = ap length e; digests = λ i lt. absurd (omega arith) }

pub parent_more : (dig : List ℕ → List ℕ) (nodes above new : List (List ℕ)) (d : List ℕ) (n : ℕ) → AreParents dig nodes above n → new ≡ above ++ d ∷ []
    → d ≡ dig (get_or nodes (2 * n) [] ++ get_or nodes (2 * n + 1) []) → AreParents dig nodes new (n + 1)
parent_more dig nodes above new d n h e is = record {
  size = omega (arith, ap length e, length-append above (d ∷ []), h.size);
  digests = λ i lt. ap (λ xs. get_or xs i []) e ∙ elim (cases_lt i n) [
    | inl low ↦ get_or_append_left above (d ∷ []) [] i (omega (arith, h.size)) ∙ h.digests i low
    | inr le ↦
        let last : i ≡ n = omega arith in
        subst (λ (k : ℕ). get_or (above ++ d ∷ []) k [] ≡ dig (get_or nodes (2 * k) [] ++ get_or nodes (2 * k + 1) [])) (sym last) (get_or_push above d [] n h.size ∙ is)
  ];
}

-- chunk k of a list
pub chunk_at : {X : Type 0} (size count : ℕ) (xs : List X) (k : ℕ) → k < count → get_or (first_chunks size count xs) k [] ≡ take size (drop (size * k) xs)
chunk_at size zero xs k lt = absurd (omega arith)
chunk_at size (suc count) xs zero lt = let start : size * 0 ≡ 0 = omega arith in ap (λ (n : ℕ). take size (drop n xs)) (sym start)
chunk_at size (suc count) xs (suc k) lt =
    let start : size + size * k ≡ size * suc k = omega arith in
    chunk_at size count (drop size xs) k (omega arith) ∙ ap (take size) (drop-drop (size * k) size xs) ∙ ap (λ (n : ℕ). take size (drop n xs)) start

pub eight_more : (dig : List ℕ → List ℕ) (nodes above new digests sixteen : List (List ℕ)) (count n : ℕ) → AreParents dig nodes above (n * 8)
    → new ≡ above ++ digests → length digests ≡ 8 → n < count → sixteen ≡ get_or (first_chunks 16 count nodes) n []
    → ((j : ℕ) → j < 8 → get_or digests j [] ≡ dig (get_or sixteen (2 * j) [] ++ get_or sixteen (2 * j + 1) [])) → AreParents dig nodes new ((n + 1) * 8)
eight_more dig nodes above new digests sixteen count n h e eight lt is are = record {
  size = omega (arith, ap length e, length-append above digests, h.size, eight);
  digests = λ i within. ap (λ xs. get_or xs i []) e ∙ elim (cases_lt i (n * 8)) [
    | inl low ↦ get_or_append_left above digests [] i (omega (arith, h.size)) ∙ h.digests i low
    | inr le ↦
        let left : 16 * n + 2 * (i - n * 8) ≡ 2 * i = omega arith in
        let right : 16 * n + (2 * (i - n * 8) + 1) ≡ 2 * i + 1 = omega arith in
        get_or-append_right above digests (n * 8) i [] h.size le ∙ are (i - n * 8) (omega arith)
        ∙ ap (λ d. dig (d ++ get_or sixteen (2 * (i - n * 8) + 1) [])) (node (2 * (i - n * 8)) (2 * i) (omega arith) left)
        ∙ ap (λ d. dig (get_or nodes (2 * i) [] ++ d)) (node (2 * (i - n * 8) + 1) (2 * i + 1) (omega arith) right)
  ];
}
  where
    node : (k i : ℕ) → k < 16 → 16 * n + k ≡ i → get_or sixteen k [] ≡ get_or nodes i []
    node k i low at = ap (λ (xs : List (List ℕ)). get_or xs k []) (is ∙ chunk_at 16 count nodes n lt)
        ∙ get_or-take 16 (drop (16 * n) nodes) k [] low ∙ get_or-drop (16 * n) nodes k [] ∙ ap (λ m. get_or nodes m []) at
