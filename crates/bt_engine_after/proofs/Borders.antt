-- Groups that are taken in one after the other, from the first block on, do not overlap.
use Rattle.bt_machine.proofs.Base.{◌≡◌, ℕ, zero, suc, ◌+◌, ◌-◌, ◌*◌, ◌/◌, ◌%◌, ◌^◌, ◌<◌, ◌≤◌, ◌⊎◌, inl, inr, List, ◌++◌, Option, Some, None, is_some, IsSome, refl, sym, ap, ◌∙◌, subst, arith, length, map, length-map, length-range_with_len, div-add-mod, mul-mod_left, mul_assoc, div-div-eq-div-mul, div-mul-add, pow-add, pow_pos, height_of, block_count, cases_lt, count_by-le-length, Facts, blocks_of, height, held_at, value_at, IsRooted, value_covers, BlockRead, block_of, is_fault, IsUnknownGroup, Adopts, none, known, accepted, not_accepted as refused, short, unread, Adopted, BlockState}
use Rattle.std.specs.List.{range_with_len}
use Rattle.std.proofs.Math.Nat.{zero-div, mod-lt}
use Rattle.std.proofs.lemmas.Bool.{cases_eq}
use Rattle.bt_sparse.specs.SparseTree.{HasParent}
use Rattle.bt_sparse.proofs.Anchors.{known_above, covers_above}
use Rattle.bt_store.specs.BlockReads.{is_right_read}
use Rattle.bt_store.specs.Adoption.{IsKnownGroup}

-- A group may begin at the first block, after the blocks below a node that is held, or at the file's end.
pub data IsBorder (k : Facts) (from : ℕ) : Type 0 where
  at_start : from ≡ 0 → IsBorder k from
  behind : (layer : ℕ) → layer ≤ height k → IsSome (held_at k layer ((from - 1) / 2 ^ layer)) → from % 2 ^ layer ≡ 0
      → IsBorder k from
  at_end : blocks_of k ≤ from → IsBorder k from

some_of : {X : Type 0} (o : Option X) → IsSome o → (x : X) × (o ≡ Some x)
some_of None some = absurd cc
some_of (Some x) some = (x, refl)

half_pow : (i layer : ℕ) → i / 2 ^ layer / 2 ≡ i / 2 ^ (layer + 1)
half_pow i layer = div-div-eq-div-mul i (2 ^ layer) 2 ∙ ap (λ p. i / p) (sym (pow-add 2 layer 1))

two_halves : (y z : ℕ) → y / 2 ≡ z / 2 → (z ≡ 2 * (y / 2)) ⊎ (z ≡ 2 * (y / 2) + 1)
two_halves y z same = elim (cases_eq (z % 2) 0) [
  | inl even ↦ inl (omega arith)
  | inr odd ↦ inr (omega arith)
]

divides_less : (n low high : ℕ) → low ≤ high → n % 2 ^ high ≡ 0 → n % 2 ^ low ≡ 0
divides_less n low high le even =
    let split : high ≡ (high - low) + low = omega arith in
    let power : 2 ^ high ≡ 2 ^ (high - low) * 2 ^ low = ap (λ h. 2 ^ h) split ∙ pow-add 2 (high - low) low in
    let times : n / 2 ^ high * 2 ^ high ≡ n / 2 ^ high * 2 ^ (high - low) * 2 ^ low =
    ap (λ p. n / 2 ^ high * p) power ∙ sym (mul_assoc (n / 2 ^ high) (2 ^ (high - low)) (2 ^ low)) in
    let whole : n ≡ n / 2 ^ high * 2 ^ (high - low) * 2 ^ low = omega (arith, div-add-mod n (2 ^ high), even, times) in
    ap (λ m. m % 2 ^ low) whole ∙ mul-mod_left (n / 2 ^ high * 2 ^ (high - low)) (2 ^ low)

module _ {dig : List ℕ → List ℕ} {k : Facts} (rooted : IsRooted dig k) where
  parent_at : (layer i : ℕ) → layer < height k → IsSome (held_at k layer i) → HasParent dig k layer (i / 2)
  parent_at layer i low held =
      let d = some_of (held_at k layer i) held in
      rooted.below layer i d.0 d.1 low

  -- above a held node each node is held
  held_up : (n layer i : ℕ) → layer + n ≤ height k → IsSome (held_at k layer (i / 2 ^ layer)) → IsSome (held_at k (layer + n) (i / 2 ^ (layer + n)))
  held_up zero layer i low held = (let same : layer + 0 ≡ layer = omega arith in subst (λ l. IsSome (held_at k l (i / 2 ^ l))) (sym same) held)
  held_up (suc n) layer i low held =
      let up = parent_at layer (i / 2 ^ layer) (omega arith) held in
      let next : held_at k (layer + 1) (i / 2 ^ (layer + 1)) ≡ Some (dig (up.left ++ up.right)) = ap (held_at k (layer + 1)) (sym (half_pow i layer)) ∙ up.parent in
      let same : layer + 1 + n ≡ layer + suc n = omega arith in
      subst (λ l. IsSome (held_at k l (i / 2 ^ l))) same (held_up n (layer + 1) i (omega arith) (ap (λ o. is_some o) next))

  -- so is the sibling of a held node, where a block lies below it
  beside : (layer leaf y : ℕ) → layer < height k → leaf < blocks_of k → y / 2 ≡ leaf / 2 ^ layer / 2 → IsSome (held_at k layer y)
      → IsSome (held_at k layer (leaf / 2 ^ layer))
  beside layer leaf y low inside same held =
      let up = parent_at layer y low held in
      let known = known_above dig k leaf layer inside (omega arith) in
      elim (two_halves y (leaf / 2 ^ layer) same) [
        | inl left ↦ ap (λ o. is_some o) (sym known ∙ ap (value_at dig k layer) left ∙ up.left_value)
        | inr right ↦ ap (λ o. is_some o) (sym known ∙ ap (value_at dig k layer) right ∙ up.right_value)
      ]

  module _ {from anchor first count : ℕ} (inside : from < blocks_of k) (group : IsUnknownGroup k from anchor first count) where
    none_below : (layer : ℕ) → layer < anchor → IsSome (held_at k layer (from / 2 ^ layer)) → ⊥
    none_below layer low held = absurd (let none = group.nearest.nearest layer low in cc)

    same_node : 0 < from % 2 ^ anchor → (from - 1) / 2 ^ anchor ≡ from / 2 ^ anchor
    same_node odd =
        let some = pow_pos anchor in
        let place : from - 1 ≡ from / 2 ^ anchor * 2 ^ anchor + (from % 2 ^ anchor - 1) = omega (arith, div-add-mod from (2 ^ anchor), odd) in
        ap (λ n. n / 2 ^ anchor) place ∙ div-mul-add (from / 2 ^ anchor) (2 ^ anchor) (from % 2 ^ anchor - 1) (rest some)
      where
        rest : 0 < 2 ^ anchor → from % 2 ^ anchor - 1 < 2 ^ anchor
        rest some = (let lt = mod-lt from some in omega (arith, lt, some))

    -- a held node after which the group begins lies in the group's node, so one of its children would be held
    not_inside : (layer : ℕ) → layer ≤ height k → IsSome (held_at k layer ((from - 1) / 2 ^ layer)) → from % 2 ^ layer ≡ 0 → 0 < from % 2 ^ anchor → ⊥
    not_inside layer low held even odd = elim (cases_lt layer anchor) [
      | inr le ↦ absurd (let none = divides_less from anchor layer le even in omega (arith, none, odd))
      | inl lt ↦
          let above = group.above in
          let most = group.nearest.inside in
          let up : layer + (anchor - 1 - layer) ≡ anchor - 1 = omega arith in
          let next : anchor - 1 + 1 ≡ anchor = omega arith in
          let y = (from - 1) / 2 ^ (anchor - 1) in
          let there : IsSome (held_at k (anchor - 1) ((from - 1) / 2 ^ (anchor - 1))) =
          subst (λ l. IsSome (held_at k l ((from - 1) / 2 ^ l))) up (held_up (anchor - 1 - layer) layer (from - 1) (omega arith) held) in
          let same : (from - 1) / 2 ^ (anchor - 1) / 2 ≡ from / 2 ^ (anchor - 1) / 2 =
          half_pow (from - 1) (anchor - 1) ∙ ap (λ l. (from - 1) / 2 ^ l) next ∙ same_node odd
          ∙ ap (λ l. from / 2 ^ l) (sym next) ∙ sym (half_pow from (anchor - 1)) in
          none_below (anchor - 1) (omega arith) (beside (anchor - 1) from ((from - 1) / 2 ^ (anchor - 1)) (omega arith) inside same there)
    ]

    begins : IsBorder k from → first ≡ from
    begins (at_start zero_is) =
        let none : 0 / 2 ^ anchor * 2 ^ anchor ≡ 0 = ap (λ q. q * 2 ^ anchor) (zero-div (2 ^ anchor)) ∙ omega arith in
        group.starts ∙ ap (λ n. n / 2 ^ anchor * 2 ^ anchor) zero_is ∙ none ∙ sym zero_is
    begins (behind layer low held even) = elim (cases_lt 0 (from % 2 ^ anchor)) [
      | inl odd ↦ absurd (not_inside layer low held even odd)
      | inr le ↦ group.starts ∙ omega (arith, div-add-mod from (2 ^ anchor), le)
    ]
    begins (at_end past) = absurd (omega arith)

    -- after the group is a border again, also in a tree that holds more
    behind_group : (grown : Facts) → blocks_of grown ≡ blocks_of k → ((layer i : ℕ) → IsSome (held_at k layer i) → IsSome (held_at grown layer i))
        → IsBorder grown (first + count)
    behind_group grown same kept =
        let starts = group.starts in
        let counts = group.counts in
        elim (cases_lt (first + count) (blocks_of k)) [
          | inr past ↦ at_end (omega arith)
          | inl lt ↦
              let width : count ≡ 2 ^ anchor = omega arith in
              let some = pow_pos anchor in
              let last : first + count - 1 ≡ from / 2 ^ anchor * 2 ^ anchor + (2 ^ anchor - 1) = omega (arith, width, starts, some) in
              let next : first + count ≡ (from / 2 ^ anchor + 1) * 2 ^ anchor = omega (arith, width, starts) in
              let node : (first + count - 1) / 2 ^ anchor ≡ from / 2 ^ anchor =
              ap (λ n. n / 2 ^ anchor) last ∙ div-mul-add (from / 2 ^ anchor) (2 ^ anchor) (2 ^ anchor - 1) (omega (arith, some)) in
              let high : height grown ≡ height k = ap height_of same in
              behind anchor (omega (arith, high, group.nearest.inside))
              (kept anchor ((first + count - 1) / 2 ^ anchor) (subst (λ i. IsSome (held_at k anchor i)) (sym node) group.nearest.held))
              (ap (λ n. n % 2 ^ anchor) next ∙ mul-mod_left (from / 2 ^ anchor + 1) (2 ^ anchor))
        ]

  behind_known : {from count : ℕ} → IsKnownGroup dig k from count → IsBorder k (from + count)
  behind_known {from} {count} group =
      let some = group.some in
      let inside = group.inside in
      let leaf = from + (count - 1) in
      let known_leaf : IsSome (value_at dig k 0 (from + (count - 1))) = group.known (count - 1) (omega arith) in
      let zeroth : (from + count - 1) / 2 ^ 0 ≡ from + (count - 1) = omega arith in
      let covers = covers_above (blocks_of k) (from + count - 1) 0 (omega arith) (omega arith) in
      let same : value_at dig k 0 ((from + count - 1) / 2 ^ 0) ≡ held_at k 0 ((from + count - 1) / 2 ^ 0) =
      value_covers dig k 0 ((from + count - 1) / 2 ^ 0) covers in
      behind 0 (omega arith)
      (ap (λ o. is_some o) (sym same ∙ ap (value_at dig k 0) zeroth) ∙ known_leaf)
      (omega arith)

-- what a group adds to the sums, and where the next one begins
pub record IsBehind (from : ℕ) (adopted : Adopted) (grown : Facts) : Type 0 where
  pub marked : from + adopted.marked ≤ adopted.next
  pub faults : from + adopted.faults ≤ adopted.next
  pub border : IsBorder grown adopted.next

reads_size : (first count : ℕ) (reads : List BlockRead) → map block_of reads ≡ range_with_len first count → length reads ≡ count
reads_size first count reads each = sym (length-map reads block_of) ∙ ap length each ∙ length-range_with_len first count

pub behind_group_of : {dig : List ℕ → List ℕ} {k grown : Facts} {from : ℕ} {old new : List BlockState} {reads : List BlockRead} {adopted : Adopted} → IsRooted dig k
    → from < blocks_of k → IsBorder k from → Adopts dig k from old reads adopted grown new → IsBehind from adopted grown
behind_group_of rooted inside border (none end) = absurd (omega arith)
behind_group_of {dig} {k} {grown} {from} rooted inside border (known count rs group each) = record {
  marked = omega (arith, reads_size from count rs each, count_by-le-length (is_right_read dig k) rs);
  faults = omega (arith, reads_size from count rs each, count_by-le-length is_fault rs);
  border = behind_known rooted group;
}
behind_group_of {dig} {k} rooted inside border (accepted anchor first count rs g group whole accepts) =
    let at = begins rooted inside group border in
    record {
      marked = omega (arith, at);
      faults = omega (arith, at);
      border = behind_group rooted inside group g (ap block_count accepts.joins.file_length)
          (λ layer i held. (let d = some_of (held_at k layer i) held in ap (λ o. is_some o) (accepts.joins.kept layer i d.0 d.1)));
    }
behind_group_of {dig} {k} rooted inside border (refused anchor first count rs error group whole why other) =
    let at = begins rooted inside group border in
    record { marked = omega (arith, at); faults = omega (arith, at); border = behind_group rooted inside group k refl (λ layer i held. held) }
behind_group_of {dig} {k} rooted inside border (short anchor first count rs group each sound few) =
    let at = begins rooted inside group border in
    record { marked = omega (arith, at); faults = omega (arith, at); border = behind_group rooted inside group k refl (λ layer i held. held) }
behind_group_of {dig} {k} rooted inside border (unread anchor first count rs group each some) =
    let at = begins rooted inside group border in
    record {
      marked = omega (arith, at);
      faults = omega (arith, at, reads_size first count rs each, count_by-le-length is_fault rs);
      border = behind_group rooted inside group k refl (λ layer i held. held);
    }
