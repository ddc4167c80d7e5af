-- The tree after a group answers the keys that ask for what the group taught.
use Rattle.bt_machine.proofs.Base.{[], ◌≡◌, ℕ, zero, suc, ◌+◌, ◌-◌, ◌*◌, ◌/◌, ◌%◌, ◌^◌, ◌<◌, ◌≤◌, inl, inr, min, Bool, true, false, List, ◌∷◌, length, map, replicate, get_or, Option, Some, refl, sym, ap, ◌∙◌, arith, length-append, Contains, ◌&&◌, ◌==◌, if◌then◌else◌, div-add-mod, mul_assoc, add-mul, div-div-eq-div-mul, mul-mod_left, lt_of_mul-lt-mul_right, mul-le-mul_right, cases_lt, lt-ltb, le-ltb, eqb-true, div-mul-add, pow-add, pow_pos, length-map, length-replicate, length-range_with_len, padding_digest, HeightsAreLeast, height_of, IsInside, row_node, pow_mono, Facts, blocks_of, height, value_at, in_run, run_digest, sibling_of, Claim, IsRequest, answer_size, answer_layer, answer_index, Accepts, value_covers, value_padding, cases_node, below_node, double_div, half_sibling, max_run_height, planned_key, HashKey, height_of-pow, BlockRead, block_of, IsUnknownGroup, claimed_digest, claim_of_reads, none, known, accepted, not_accepted as refused, short, unread}
use Rattle.bt_machine.proofs.Machine.{Digest, group_blocks, run_starts, HasAnswer, ProofKeysAreAnswered}
use Rattle.bt_store.specs.Adoption.{AreWhole}
use Rattle.bt_machine.proofs.Lists.{range_limits, contains_none, contains_map, contains_filter}

-- ---- numbers

-- a node of a layer, and the node far above it
far_div : (i a b : ℕ) → i / 2 ^ a / 2 ^ b ≡ i / 2 ^ (a + b)
far_div i a b = div-div-eq-div-mul i (2 ^ a) (2 ^ b) ∙ ap (λ p. i / p) (sym (pow-add 2 a b))

-- ---- what was claimed of a group is known

module _ (dig : Digest) (heights : HeightsAreLeast) (k grown : Facts) (anchor first count : ℕ) (reads : List BlockRead) where
  abbrev group_claim : Claim
  group_claim = claim_of_reads dig k.file_length anchor first reads

  run_size : AreWhole k.file_length first count reads → count ≤ 2 ^ anchor → length group_claim.run ≡ 2 ^ anchor
  run_size whole few =
      let digests = map (claimed_digest dig k.file_length) reads in
      let rest = replicate (2 ^ anchor - length reads) (padding_digest dig 0) in
      let size = sym (length-map reads block_of) ∙ ap length whole.blocks ∙ length-range_with_len first count in
      omega (arith, length-append digests rest, length-map reads (claimed_digest dig k.file_length), length-replicate (2 ^ anchor - length reads) (padding_digest dig 0))

  -- a node below the one that the group hangs from
  known_below : AreWhole k.file_length first count reads → count ≤ 2 ^ anchor → Accepts dig k group_claim grown
      → (layer i : ℕ) → layer ≤ anchor → i / 2 ^ (anchor - layer) ≡ first / 2 ^ anchor → (d : List ℕ) × (value_at dig grown layer i ≡ Some d)
  known_below whole few accepts layer i low under =
      let size = run_size whole few in
      let height_is = height_of-pow heights (length group_claim.run) anchor size in
      let d = row_node dig (run_digest group_claim) layer i in
      let claim = in_run record {
        above = layer;
        here = omega arith;
        low = omega arith;
        under = cc;
        digest = refl;
      } in
      let blocks : blocks_of grown ≡ blocks_of k = cc in
      let shape = accepts.conditions.shape in
      let high : anchor ≤ height k = omega (arith, shape.in_height, height_is) in
      let room : first + length group_claim.run ≤ 2 ^ (height k - 0) = shape.in_width in
      let flat : height k - 0 ≡ height k = omega arith in
      let wide : 2 ^ (height k - 0) ≡ 2 ^ height k = ap (λ n. 2 ^ n) flat in
      let inside : IsInside (blocks_of k) layer i = record {
        in_height = omega arith;
        in_width = below_node (height k) anchor layer first i high low (omega (arith, room, wide, size)) under;
      } in
      elim (cases_node (blocks_of k) layer i inside) [
        | inl covers ↦ (d, value_covers dig grown layer i (rw blocks covers) ∙ accepts.joins.added layer i d claim covers)
        | inr past ↦ (padding_digest dig layer, value_padding dig grown layer i (rw blocks past))
      ]

-- ---- answers

-- a list of what is known of each node
listed : (n : ℕ) (f : ℕ → Option (List ℕ)) → ((t : ℕ) → t < n → (d : List ℕ) × (f t ≡ Some d))
    → (ds : List (List ℕ)) × (length ds ≡ n) × ((t : ℕ) → t < n → f t ≡ Some (get_or ds t []))
listed zero f each = ([], refl, λ t lt. absurd (omega arith))
listed (suc n) f each =
    let first = each 0 (omega arith) in
    let more = listed n (λ t. f (suc t)) (λ t lt. each (suc t) (omega arith)) in
    (first.0 ∷ more.0, omega arith, by _ first.1 more.2)
  where
    by : {d : _} (ds : _) → f 0 ≡ Some d → ((t : ℕ) → t < n → f (suc t) ≡ Some (get_or ds t [])) → (t : ℕ) → t < suc n → f t ≡ Some (get_or (d ∷ ds) t [])
    by ds e more zero lt = e
    by ds e more (suc t) lt = more t (omega arith)

-- a group of which nothing was marked taught nothing
none_taught : (b : Bool) (keys : List HashKey) {key : _} → Contains (if b && false then keys else []) key → ⊥
none_taught true keys c = contains_none c
none_taught false keys c = contains_none c

-- the node of a digest of an answer: one of the run, or an uncle

layer_run : (count t : ℕ) → t < count → answer_layer 0 count t ≡ 0
layer_run count t lt = rw lt-ltb refl

index_run : (index count t : ℕ) → t < count → answer_index index count t ≡ index + t
index_run index count t lt = rw lt-ltb refl

layer_uncle : (count t : ℕ) → answer_layer 0 count (count + t) ≡ height_of count + t
layer_uncle count t = let le : count ≤ count + t = omega arith in rw le-ltb (omega arith)

index_uncle : (index count t : ℕ) → answer_index index count (count + t) ≡ sibling_of (index / 2 ^ height_of count / 2 ^ t)
index_uncle index count t =
    let le : count ≤ count + t = omega arith in
    let same : count + t - count ≡ t = omega arith in
    rw (le-ltb, same) refl

-- ---- the key of a run below the group's node

module _ (dig : Digest) (heights : HeightsAreLeast) (k grown : Facts) (from anchor first count : ℕ) (reads : List BlockRead) where
  few_blocks : IsUnknownGroup k from anchor first count → count ≤ 2 ^ anchor
  few_blocks group = omega arith

  -- a run of 2 ^ m leaves ends where the node's blocks do, or before
  run_end : (m i : ℕ) → m ≤ anchor → i % 2 ^ m ≡ 0 → i < (from / 2 ^ anchor + 1) * 2 ^ anchor → i + 2 ^ m ≤ (from / 2 ^ anchor + 1) * 2 ^ anchor
  run_end m i low aligned below =
      let width : ℕ = 2 ^ m in
      let split : anchor ≡ anchor - m + m = omega arith in
      let power : 2 ^ anchor ≡ 2 ^ (anchor - m) * 2 ^ m = ap (λ n. 2 ^ n) split ∙ pow-add 2 (anchor - m) m in
      let all : (from / 2 ^ anchor + 1) * 2 ^ anchor ≡ (from / 2 ^ anchor + 1) * 2 ^ (anchor - m) * 2 ^ m =
      ap (λ n. (from / 2 ^ anchor + 1) * n) power ∙ sym (mul_assoc (from / 2 ^ anchor + 1) (2 ^ (anchor - m)) (2 ^ m)) in
      let start : i ≡ i / 2 ^ m * 2 ^ m = omega (arith, div-add-mod i (2 ^ m)) in
      let before : i / 2 ^ m < (from / 2 ^ anchor + 1) * 2 ^ (anchor - m) = lt_of_mul-lt-mul_right (2 ^ m) (omega arith) in
      let next : (i / 2 ^ m + 1) * 2 ^ m ≤ (from / 2 ^ anchor + 1) * 2 ^ (anchor - m) * 2 ^ m = mul-le-mul_right (2 ^ m) (omega arith) in
      omega arith

  -- leaves of the group's node
  leaf_under : (i : ℕ) → from / 2 ^ anchor * 2 ^ anchor ≤ i → i < (from / 2 ^ anchor + 1) * 2 ^ anchor → i / 2 ^ anchor ≡ from / 2 ^ anchor
  leaf_under i low high =
      let place : i ≡ from / 2 ^ anchor * 2 ^ anchor + (i - from / 2 ^ anchor * 2 ^ anchor) = omega arith in
      ap (λ n. n / 2 ^ anchor) place ∙ div-mul-add (from / 2 ^ anchor) (2 ^ anchor) (i - from / 2 ^ anchor * 2 ^ anchor) (omega arith)

  key_answer : {m : ℕ} (i : ℕ) → IsUnknownGroup k from anchor first count → AreWhole k.file_length first count reads
      → Accepts dig k (claim_of_reads dig k.file_length anchor first reads) grown → m ≡ min anchor max_run_height → i % 2 ^ m ≡ 0 → first ≤ i
      → i < first + count
      → HasAnswer dig grown (record { root = grown.root; base = 0; index = i / 2 ^ m * 2 ^ m; length = 2 ^ m; layers = anchor - 1 })
  key_answer {m} i group whole accepts m_is aligned low high = record { request = request; digests = answers.0; answer = record { size = answers.1; values = λ t lt. answers.2 t (omega (arith, lt, answers.1)) } }
    where
      least : 1 ≤ m
      least = omega arith

      under : m ≤ anchor
      under = omega (arith, m_is)

      most : m ≤ 9
      most = omega (arith, m_is)

      start : first ≡ from / 2 ^ anchor * 2 ^ anchor
      start = group.starts

      index : i / 2 ^ m * 2 ^ m ≡ i
      index = omega (arith, div-add-mod i (2 ^ m), aligned)

      top : height_of (2 ^ m) ≡ m
      top = height_of-pow heights (2 ^ m) m refl

      same_height : height grown ≡ height k
      same_height = cc

      below : i < (from / 2 ^ anchor + 1) * 2 ^ anchor
      below = omega arith

      ends : i + 2 ^ m ≤ (from / 2 ^ anchor + 1) * 2 ^ anchor
      ends = run_end m i under aligned below

      request : IsRequest (height grown) 0 (i / 2 ^ m * 2 ^ m) (2 ^ m) (anchor - 1)
      request = record {
        some = pow_mono least;
        power = ap (λ h. 2 ^ h) (sym top);
        limit = pow_mono most;
        aligned = mul-mod_left (i / 2 ^ m) (2 ^ m);
        low = omega (arith, top, under, same_height);
        in_width = rw same_height (omega (arith, run_size dig heights k grown _ first count reads whole (few_blocks group), index, ends, start, add-mul (from / 2 ^ anchor) 1 (2 ^ anchor)));
        proof = omega (arith, same_height);
      }

      over : first / 2 ^ anchor ≡ from / 2 ^ anchor
      over = leaf_under first (omega (arith, start)) (let some = pow_pos anchor in omega (arith, start, add-mul (from / 2 ^ anchor) 1 (2 ^ anchor)))

      leaf_over : (j : ℕ) → i ≤ j → j < i + 2 ^ m → j / 2 ^ anchor ≡ first / 2 ^ anchor
      leaf_over j le lt = leaf_under j (omega (arith, start, low)) (omega (arith, ends)) ∙ sym over

      known_at : (layer j : ℕ) → layer ≤ anchor → j / 2 ^ (anchor - layer) ≡ first / 2 ^ anchor → (d : List ℕ) × (value_at dig grown layer j ≡ Some d)
      known_at = known_below dig heights k grown _ first count reads whole (few_blocks group) accepts

      at_node : (t : ℕ) {layer j : ℕ} → answer_layer 0 (2 ^ m) t ≡ layer → answer_index (i / 2 ^ m * 2 ^ m) (2 ^ m) t ≡ j
          → (d : List ℕ) × (value_at dig grown layer j ≡ Some d)
          → (d : List ℕ) × (value_at dig grown (answer_layer 0 (2 ^ m) t) (answer_index (i / 2 ^ m * 2 ^ m) (2 ^ m) t) ≡ Some d)
      at_node t {layer} e f v = (v.0, ap (λ l. value_at dig grown l (answer_index (i / 2 ^ m * 2 ^ m) (2 ^ m) t)) e ∙ ap (value_at dig grown layer) f ∙ v.1)

      -- a sibling on the path lies below the node too
      beside : (u : ℕ) → m + u < anchor → sibling_of (i / 2 ^ m / 2 ^ u) / 2 ^ (anchor - (m + u)) ≡ first / 2 ^ anchor
      beside u lt =
          let n = anchor - (m + u) - 1 in
          let y = i / 2 ^ m / 2 ^ u in
          let up : anchor - (m + u) ≡ suc (anchor - (m + u) - 1) = omega arith in
          let all : m + u + (anchor - (m + u)) ≡ anchor = omega arith in
          let some : i < i + 2 ^ m = (let w = pow_pos m in omega arith) in
          ap (λ h. sibling_of y / 2 ^ h) up ∙ double_div (sibling_of y) (y / 2) n (half_sibling y) ∙ sym (double_div y (y / 2) n refl) ∙ ap (λ h. y / 2 ^ h) (sym up)
          ∙ ap (λ h. h / 2 ^ (anchor - (m + u))) (far_div i m u) ∙ far_div i _ _ ∙ ap (λ h. i / 2 ^ h) all ∙ leaf_over i (omega arith) some

      each : (t : ℕ) → t < answer_size (2 ^ m) (anchor - 1)
          → (d : List ℕ) × (value_at dig grown (answer_layer 0 (2 ^ m) t) (answer_index (i / 2 ^ m * 2 ^ m) (2 ^ m) t) ≡ Some d)
      each t within = elim (cases_lt t (2 ^ m)) [
        | inl lt ↦
            let whole_path : anchor - 0 ≡ anchor = omega arith in
            at_node t (layer_run _ t lt) (index_run _ _ t lt)
            (known_at 0 _ (omega arith) (ap (λ h. (i / 2 ^ m * 2 ^ m + t) / 2 ^ h) whole_path ∙ leaf_over _ (omega (arith, index)) (omega (arith, index))))
        | inr le ↦
            let u = t - 2 ^ m in
            let split : t ≡ 2 ^ m + (t - 2 ^ m) = omega arith in
            let high_node : m + (t - 2 ^ m) < anchor = omega (arith, top, least) in
            let layer = ap (answer_layer 0 (2 ^ m)) split ∙ layer_uncle _ u ∙ ap (λ h. h + u) top in
            let node =
            ap (answer_index (i / 2 ^ m * 2 ^ m) (2 ^ m)) split ∙ index_uncle _ _ u ∙ ap (λ h. sibling_of (i / 2 ^ m * 2 ^ m / 2 ^ h / 2 ^ u)) top
            ∙ ap (λ x. sibling_of (x / 2 ^ m / 2 ^ u)) index in
            at_node t layer node (known_at _ _ (omega arith) (beside u high_node))
      ]

      answers : (ds : List (List ℕ)) × (length ds ≡ answer_size (2 ^ m) (anchor - 1)) × ((t : ℕ) → t < answer_size (2 ^ m) (anchor - 1)
          → value_at dig grown (answer_layer 0 (2 ^ m) t) (answer_index (i / 2 ^ m * 2 ^ m) (2 ^ m) t) ≡ Some (get_or ds t []))
      answers = listed _ (λ t. value_at dig grown (answer_layer 0 (2 ^ m) t) (answer_index (i / 2 ^ m * 2 ^ m) (2 ^ m) t)) each

pub proof_keys_answered : (dig : Digest) → HeightsAreLeast → ProofKeysAreAnswered dig
proof_keys_answered dig heights k grown from old new reads adopted key (none end) c = absurd (contains_none c)
proof_keys_answered dig heights k grown from old new reads adopted key (known count rs group order) c = absurd (contains_none c)
proof_keys_answered dig heights k grown from old new reads adopted key (accepted anchor first count rs g group whole accepts) c = by _ c
  where
    by : (b : Bool)
        → Contains (if b then map (λ i. planned_key g i anchor) (run_starts anchor (group_blocks from (record { next = first + count; anchor = anchor; marked = count; faults = 0 }))) else []) key
        → HasAnswer dig g key
    by false c = absurd (contains_none c)
    by true c =
        let m = contains_map (λ i. planned_key g i anchor) _ c in
        let run = contains_filter (λ i. i % 2 ^ min anchor max_run_height == 0) _ m.1 in
        let start = group.starts in
        let inside = range_limits _ _ run.0 in
        rw (← m.2) (key_answer dig heights k g from _ first count rs m.0 group whole accepts refl (eqb-true (m.0 % 2 ^ min anchor max_run_height) 0 run.1)
        (omega arith) (omega arith))
proof_keys_answered dig heights k grown from old new reads adopted key (refused anchor first count rs error group whole why other) c = absurd (none_taught _ _ c)
proof_keys_answered dig heights k grown from old new reads adopted key (short anchor first count rs group order faults few) c = absurd (none_taught _ _ c)
proof_keys_answered dig heights k grown from old new reads adopted key (unread anchor first count rs group order some) c = absurd (contains_none c)
