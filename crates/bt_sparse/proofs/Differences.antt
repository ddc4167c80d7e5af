-- What the pairs of a claim show of a tree: whether their padding is right, and the highest difference.
use Rattle.std.proofs.Common.{◌≡◌, ℕ, ◌+◌, ◌-◌, ◌*◌, ◌/◌, ◌<◌, ◌≤◌, ◌⊎◌, inl, inr, Bool, true, false, eqb, ltb, cond, ◌||◌, ◌&&◌, List, [], ◌∷◌, length, take, get_or, Option, Some, None, refl, sym, ◌∙◌, subst, arith}
use Rattle.std.specs.List.{All}
use Rattle.std.specs.Option.{unwrap_or, MatchOption, IfSome}
use Rattle.std.proofs.lemmas.Bool.Decides.{nat_tests}
use Rattle.std.proofs.lemmas.List.Elements.{All-more, All-weaker, Contains-append_left, Contains-push}
use Rattle.std.proofs.lemmas.List.{take_more}
use Rattle.bt_tree.specs.TreeShape.{real_width, IsPadding}
use Rattle.bt_sparse.specs.declared.expansion.ClaimedPair.{ClaimedPair}
use Rattle.bt_sparse.specs.declared.acceptance.Difference.{Difference}
use Rattle.bt_sparse.specs.SparseTree.{Facts, blocks_of, height, held_at, value_at, IsRooted}
use Rattle.bt_sparse.specs.AcceptanceSteps.{IsPairIn, IsPadded, HasNoDifference, IsDifference, IsNotHigher, IsHighestIn, IsHighestOf, higher_of}
use Rattle.bt_sparse.proofs.Halves.{power_split}
use Rattle.bt_sparse.proofs.Values.{value_covers, value_padding, value_inside, cases_node}

-- what a list has past its end, in goals
abbrev pub no_pair : ClaimedPair
no_pair = record { layer = 0; index = 0; left = []; right = [] }

-- ---- one pair
pub no_left : (dig : List ℕ → List ℕ) (k : Facts) (p : ClaimedPair) → IsPairIn (height k) p → IsPadded dig (blocks_of k) p
    → held_at k p.layer (2 * p.index) ≡ None → HasNoDifference dig k p
no_left dig k p h padded none l r left right = elim (cases_node (blocks_of k) p.layer (2 * p.index) (value_inside _ _ _ _ _ left)) [
  | inl covers ↦ absurd (cc (value_covers dig k p.layer (2 * p.index) covers))
  | inr past ↦
      let beyond : real_width (blocks_of k) p.layer ≤ 2 * p.index + 1 = omega (arith, past.past) in
      let right_padding = value_padding dig k p.layer (2 * p.index + 1) record { inside = value_inside _ _ _ _ _ right; past = beyond } in
      (cc (value_padding dig k p.layer (2 * p.index) past, padded.left past.past), cc (padded.right beyond))
]

pub left_value : (dig : List ℕ → List ℕ) (k : Facts) (layer i : ℕ) (d : List ℕ) → IsRooted dig k → held_at k layer i ≡ Some d → value_at dig k layer i ≡ Some d
left_value dig k layer i d rooted held = value_covers dig k layer i (rooted.covers layer i d held) ∙ held

-- a held node's right sibling is held, or is padding
pub right_value : (dig : List ℕ → List ℕ) (k : Facts) (p : ClaimedPair) (left : List ℕ) → IsRooted dig k → IsPairIn (height k) p → IsPadded dig (blocks_of k) p
    → held_at k p.layer (2 * p.index) ≡ Some left
    → value_at dig k p.layer (2 * p.index + 1) ≡ Some (unwrap_or (held_at k p.layer (2 * p.index + 1)) p.right)
right_value dig k p left rooted h padded held =
    let room = power_split (height k - p.layer) (height k - (p.layer + 1)) 1 (omega (arith, h.low)) in
    elim (cases_node (blocks_of k) p.layer (2 * p.index + 1) record { in_height = omega (arith, h.low); in_width = omega (arith, h.narrow) }) [
      | inl covers ↦
          let parent = rooted.below p.layer (2 * p.index) left held h.low in
          let half : 2 * p.index / 2 ≡ p.index = omega arith in
          let value : value_at dig k p.layer (2 * p.index + 1) ≡ Some parent.right = cc in
          rw (sym (value_covers dig k p.layer (2 * p.index + 1) covers) ∙ value) value
      | inr past ↦ go (held_at k p.layer (2 * p.index + 1)) refl past
    ]
  where
    go : (o : Option (List ℕ)) → held_at k p.layer (2 * p.index + 1) ≡ o → IsPadding (blocks_of k) p.layer (2 * p.index + 1)
        → value_at dig k p.layer (2 * p.index + 1) ≡ Some (unwrap_or (held_at k p.layer (2 * p.index + 1)) p.right)
    go None e past = rw e (cc (value_padding dig k p.layer (2 * p.index + 1) past, padded.right past.past))
    go (Some d) e past = absurd (omega (arith, (rooted.covers _ _ d e).real, past.past))

pub no_other : (dig : List ℕ → List ℕ) (k : Facts) (p : ClaimedPair) (left right : List ℕ) → value_at dig k p.layer (2 * p.index) ≡ Some left
    → value_at dig k p.layer (2 * p.index + 1) ≡ Some right → left ≡ p.left → right ≡ p.right → HasNoDifference dig k p
no_other dig k p left right a b same_left same_right l r x y = (cc, cc)

-- ---- the highest of several
-- what the search says of one more pair
abbrev pub IsNext : (List ℕ → List ℕ) → Facts → ClaimedPair → Option Difference → Type 0
IsNext dig k p next = MatchOption next (HasNoDifference dig k p) (λ d. IsDifference dig k d × (d.pair ≡ p))

pub next_is : (dig : List ℕ → List ℕ) (k : Facts) (p : ClaimedPair) (next : Option Difference) → IfSome next (λ d. d.pair ≡ p)
    → MatchOption next (HasNoDifference dig k p) (IsDifference dig k) → IsNext dig k p next
next_is dig k p None same h = h
next_is dig k p (Some d) same h = (h, same)

module _ (dig : List ℕ → List ℕ) (k : Facts) (ps : List ClaimedPair) (i : ℕ) (d : ClaimedPair) (lt : i < length ps) where
  -- the highest so far is as high as one more pair
  stays : (f : Difference) → IsHighestIn dig k (take i ps) f → HasNoDifference dig k (get_or ps i d) ⊎ IsNotHigher (get_or ps i d) f.pair
      → IsHighestIn dig k (take (i + 1) ps) f
  stays f h here = record {
    among = rw (take_more ps i d lt) (Contains-append_left (take i ps) (get_or ps i d ∷ []) f.pair h.among);
    differs = h.differs;
    highest = All-more (λ p. HasNoDifference dig k p ⊎ IsNotHigher p f.pair) ps i d lt h.highest here;
  }

  -- or that pair is the highest
  comes : (P : ClaimedPair → Type 0) (e : Difference) → All P (take i ps) → ((p : ClaimedPair) → P p → HasNoDifference dig k p ⊎ IsNotHigher p e.pair)
      → IsDifference dig k e × (e.pair ≡ get_or ps i d) → IsHighestIn dig k (take (i + 1) ps) e
  comes P e all below here = record {
    among = rw (take_more ps i d lt, here.1) (Contains-push (take i ps) (get_or ps i d));
    differs = here.0;
    highest = All-more (λ p. HasNoDifference dig k p ⊎ IsNotHigher p e.pair) ps i d lt (All-weaker P _ below (take i ps) all)
        (inr (rw here.1 (inr (refl, omega arith))));
  }

-- the second pair lies in a higher layer, or in the same one to the left
abbrev is_higher : ClaimedPair → ClaimedPair → Bool
is_higher p q = ltb p.layer q.layer || (eqb q.layer p.layer && ltb q.index p.index)

pub highest_more : (dig : List ℕ → List ℕ) (k : Facts) (ps : List ClaimedPair) (i : ℕ) (d : ClaimedPair) (found next : Option Difference) → i < length ps
    → IsHighestOf dig k (take i ps) found → IsNext dig k (get_or ps i d) next → IsHighestOf dig k (take (i + 1) ps) (higher_of found next)
highest_more dig k ps i d None None lt h n = All-more (HasNoDifference dig k) ps i d lt h n
highest_more dig k ps i d None (Some e) lt h n = comes dig k ps i d lt (HasNoDifference dig k) e h (λ p x. inl x) n
highest_more dig k ps i d (Some f) None lt h n = stays dig k ps i d lt f h (inl n)
highest_more dig k ps i d (Some f) (Some e) lt h n = go (is_higher f.pair e.pair) refl
  where
    above : (p : ClaimedPair) → is_higher f.pair e.pair ≡ true → IsNotHigher p f.pair → IsNotHigher p e.pair
    above p is lower = grind (arith, nat_tests)

    below : is_higher f.pair e.pair ≡ false → IsNotHigher e.pair f.pair
    below is = grind (arith, nat_tests)

    go : (b : Bool) → is_higher f.pair e.pair ≡ b → IsHighestOf dig k (take (i + 1) ps) (cond b (Some e) (Some f))
    go true is = comes dig k ps i d lt (λ p. HasNoDifference dig k p ⊎ IsNotHigher p f.pair) e h.highest
        (λ p x. elim x [ inl none ↦ inl none | inr lower ↦ inr (above p is lower) ]) n
    go false is = stays dig k ps i d lt f h (inr (subst (λ p. IsNotHigher p f.pair) n.1 (below is)))
