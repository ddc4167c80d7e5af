-- Requests, and the claims that their answers make.
use Rattle.std.proofs.Common.{◌≡◌, ℕ, ◌+◌, ◌-◌, ◌/◌, ◌^◌, ◌<◌, ◌≤◌, inl, inr, List, [], length, take, drop, replicate, get_or, set, Option, Some, None, ◌≢◌, refl, sym, ap, ◌∙◌, length-drop, get_or-set_same, get_or-set_other, arith}
use Rattle.std.specs.Option.{unwrap_or, IsSome}
use Rattle.std.proofs.lemmas.Bool.{cases_lt, lt-ltb, le-ltb, false≢true}
use Rattle.std.proofs.lemmas.Bool.Decides.{nat_tests}
use Rattle.std.proofs.lemmas.List.{length-take-le, get_or-take, get_or-drop, length-replicate}
use Rattle.bt_tree.specs.TreeShape.{height_of, IsInside, CoversBlock, IsPadding}
use Rattle.bt_tree.specs.Tree.{padding_digest}
use Rattle.bt_sparse.specs.SparseTree.{Facts, blocks_of, height, held_at, value_at, IsRooted}
use Rattle.bt_sparse.specs.Claim.{uncle, HasShape, sibling_of}
use Rattle.bt_sparse.specs.Answer.{IsRequest, IsAnswer, IsMadeOf, claim_of, answer_size, answer_layer, answer_index, uncle_count}
use Rattle.bt_sparse.proofs.Values.{value_covers, value_padding, cases_node}
use Rattle.bt_sparse.proofs.Claims.{claimed_inside}
use Rattle.bt_sparse.proofs.Differences.{left_value}

run_length : (count layers : ℕ) (ds : List (List ℕ)) → length ds ≡ answer_size count layers → length (take count ds) ≡ count
run_length count layers ds size = length-take-le count ds (omega (arith, size))

uncles_length : (count layers : ℕ) (ds : List (List ℕ)) → length ds ≡ answer_size count layers → length (drop count ds) ≡ uncle_count (height_of count) layers
uncles_length count layers ds size = length-drop count ds ∙ omega (arith, size)

-- a claim of an answer's size has the right shape
pub request_shape : {h base index count layers : ℕ} → IsRequest h base index count layers → (ds : List (List ℕ)) → length ds ≡ answer_size count layers
    → HasShape h (claim_of base index count ds)
request_shape {h} {base} {index} {count} {layers} r ds size =
    let run = run_length count layers ds size in
    let uncles = uncles_length count layers ds size in
    record {
      some = rw run r.some;
      power = rw run r.power;
      aligned = rw run r.aligned;
      in_width = rw run r.in_width;
      in_height = rw (uncles, run) (omega (arith, r.low, r.proof));
    }

-- the layers of an answer's nodes go up
pub layers_rise : (base count t : ℕ) → answer_layer base count t ≤ answer_layer base count (t + 1)
layers_rise base count t = grind (arith, nat_tests)

-- and its digests are those of the nodes that it names
pub made_of : {dig : List ℕ → List ℕ} {k : Facts} {base index count layers : ℕ} {ds : List (List ℕ)} → IsAnswer dig k base index count layers ds
    → IsMadeOf dig k (claim_of base index count ds)
made_of {dig} {k} {base} {index} {count} {layers} {ds} answer =
    let run = run_length count layers ds answer.size in
    let rest = length-drop count ds in
    record {
      run = λ j within.
          let lt : j < count = omega arith in
          let value = rw (lt-ltb j count lt) at (answer.values j (omega (arith, answer.size))) in
          cc (get_or-take count ds j [] lt);
      uncles = λ t within.
          let same : count + t - count ≡ t = omega arith in
          let value = rw (le-ltb (count + t) count (omega arith), same) at (answer.values (count + t) (omega arith)) in
          cc (get_or-drop count ds t []);
    }

-- a node of an answer lies in the tree
pub record IsWithin (h layer index : ℕ) : Type 0 where
  pub in_height : layer ≤ h
  pub in_width : index < 2 ^ (h - layer)

pub answer_inside : (h base index count layers t : ℕ) → IsRequest h base index count layers → t < answer_size count layers
    → IsWithin h (answer_layer base count t) (answer_index index count t)
answer_inside h base index count layers t r within = elim (cases_lt t count) [
  | inl lt ↦ rw lt-ltb record { in_height = omega (arith, r.low); in_width = omega (arith, r.in_width) }
  | inr le ↦ rw le-ltb (beside (replicate (answer_size count layers) []) (length-replicate (answer_size count layers) []) (t - count) (omega arith))
]
  where
    beside : (ds : List (List ℕ)) → length ds ≡ answer_size count layers → (up : ℕ) → up < uncle_count (height_of count) layers
        → IsWithin h (base + height_of count + up) (sibling_of (index / 2 ^ height_of count / 2 ^ up))
    beside ds size up lt =
        let level : height_of (length (take count ds)) ≡ height_of count = ap height_of (run_length count layers ds size) in
        let at = claimed_inside (λ x. x) h (claim_of base index count ds) (base + height_of count + up) (sibling_of (index / 2 ^ height_of count / 2 ^ up))
        (get_or (drop count ds) up []) (request_shape r ds size)
        (uncle record { above = up; here = rw level refl; within = omega (arith, uncles_length count layers ds size); node = rw level refl; digest = refl }) in
        record { in_height = at.0; in_width = at.1 }

-- ---- what is known of a node of the tree
pub known_padding : (dig : List ℕ → List ℕ) (k : Facts) (layer i : ℕ) → IsPadding (blocks_of k) layer i → value_at dig k layer i ≢ None
known_padding dig k layer i past e = cc (value_padding dig k layer i past)

pub known_held : (dig : List ℕ → List ℕ) (k : Facts) (layer i : ℕ) → CoversBlock (blocks_of k) layer i → IsSome (held_at k layer i)
    → value_at dig k layer i ≢ None
known_held dig k layer i covers some e = go (held_at k layer i) (sym (value_covers dig k layer i covers) ∙ e) some
  where
    go : (o : Option (List ℕ)) → o ≡ None → IsSome o → ⊥
    go None h s = absurd (false≢true s)
    go (Some d) h s = cc

-- the value of a node that is known: what is held, or the padding
pub known_value : (dig : List ℕ → List ℕ) (k : Facts) (layer i : ℕ) (pad : List ℕ) → IsRooted dig k → IsInside (blocks_of k) layer i
    → pad ≡ padding_digest dig layer → value_at dig k layer i ≢ None → value_at dig k layer i ≡ Some (unwrap_or (held_at k layer i) pad)
known_value dig k layer i pad rooted inside e known = go (held_at k layer i) refl
  where
    go : (o : Option (List ℕ)) → held_at k layer i ≡ o → value_at dig k layer i ≡ Some (unwrap_or (held_at k layer i) pad)
    go None h = elim (cases_node (blocks_of k) layer i inside) [
      | inl covers ↦ absurd (known (value_covers dig k layer i covers ∙ h))
      | inr past ↦ rw h (cc (value_padding dig k layer i past))
    ]
    go (Some d) h = rw h (cc (left_value _ _ _ _ _ rooted h))

pub held_known : (dig : List ℕ → List ℕ) (k : Facts) (layer i : ℕ) → CoversBlock (blocks_of k) layer i → value_at dig k layer i ≢ None
    → IsSome (held_at k layer i)
held_known dig k layer i covers known = go (held_at k layer i) (λ h. known (value_covers dig k layer i covers ∙ h))
  where
    go : (o : Option (List ℕ)) → o ≢ None → IsSome o
    go None h = absurd (h refl)
    go (Some d) h = refl

-- one more value
pub one_more_set : (f : ℕ → Option (List ℕ)) (t : ℕ) (xs : List (List ℕ)) (d : List ℕ) → t < length xs → ((s : ℕ) → s < t → f s ≡ Some (get_or xs s []))
    → f t ≡ Some d → (s : ℕ) → s < t + 1 → f s ≡ Some (get_or (set xs t d) s [])
one_more_set f t xs d inside all here s lt = elim (cases_lt s t) [
  | inl below ↦ all s below ∙ ap (λ x. Some x) (sym (get_or-set_other xs t s d [] (omega arith)))
  | inr le ↦ let last : s ≡ t = omega arith in ap f last ∙ here ∙ ap (λ x. Some x) (sym (ap (λ i. get_or (set xs t d) i []) last ∙ get_or-set_same xs t d [] inside))
]

pub value_option : {X : Type 0} (o : Option X) → ((o ≢ None) → ⊥) → o ≡ None
value_option None h = refl
value_option (Some x) h = absurd (h (λ e. cc))

pub within_inside : (k : Facts) (h layer index : ℕ) → h ≡ height k → IsWithin h layer index → IsInside (blocks_of k) layer index
within_inside k h layer index e w = record { in_height = rw e at w.in_height; in_width = rw e at w.in_width }
