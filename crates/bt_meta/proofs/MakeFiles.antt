-- The files that a torrent is made of: their order, of which no path begins another, and their first refusal.
use Rattle.bt_meta.proofs.Base.{inl, inr, unlawful, ◌≡◌, ℕ, ◌+◌, ◌<◌, ◌≤◌, Bool, false, List, [], ◌∷◌, length, map, refl, sym, ap, ◌∙◌, arith, ◌-◌, true, string_bytes, ◌&&◌, ◌||◌, ◌==◌, get_or, length-map, get_or-map, Bor, ordering_then, nat_cmp, is_lt, ordering_reverse, slice_cmp, nat_list_cmp_total, IsSortedBy, Ordering, Less, Equal, Greater, true≢false, or_parts, false_from_ne_true, nat_tests, bytes_eq-Decides, pointwise, nat_eq, is_eq-slice_cmp, cases_Bool, first_of, is_piece_length, with_earlier, Given, given_of, path_order, IsInTreeOrder, begins, HaveTreePaths, file_refusal, Made, given_at}
use Rattle.std.proofs.Common.{◌↔◌}
use Rattle.std.specs.Prelude.{String}
use Rattle.std.specs.Global.{Global}
use Rattle.std.specs.List.{AllAdjacentBelow, IsDistinct, starts_with}
use Rattle.std.proofs.lemmas.List.Elements.{All-from_recursion, recursion_from_All}
use Rattle.std.proofs.lemmas.List.Folds.{list_any_none}
use Rattle.std.proofs.lemmas.Cmp.{nat_list_eq_equiv}
use Rattle.std.proofs.Math.Bool.{or_comm}
use Rattle.std.specs.String.{string_cmp, string_eq}
use Rattle.std.specs.Cmp.Lexicographic.{lists_total}
use Rattle.std.specs.List.Sorted.{IsPermutation}
use Rattle.std.proofs.lemmas.List.Sorted.{IsPermutation-sym, all_adjacent_more, sorted_far}
use Rattle.std.proofs.lemmas.List.MinMax.{ranks_by}
use Rattle.std.proofs.lemmas.Bool.{or_from, or_left, true_from_ne_false}
use Rattle.std.proofs.lemmas.Map.Keys.{IsDistinct-IsPermutation, IsDistinct-from_apart, apart_from_distinct}
use Rattle.bt_meta.specs.GivenFiles.{is_before}
use Rattle.bt_meta.specs.WriterRefusals.{refusal_of_files}
use Rattle.bt_meta.proofs.Lists.{none_of}
use Rattle.bt_meta.specs.Writer.{is_overlap, have_overlap, IsNotMade, no_memory}
use Rattle.bt_meta.specs.WriterSteps.{Refuses}
use Rattle.bt_meta.specs.declared.writer.MakeError.{MakeError}
use Rattle.bt_meta.specs.declared.writer.MakeError.TheVariants.{OutOfMemory}

-- ==== the files in tree order

pub order_by_bytes : (path other : List (String Global)) → slice_cmp string_cmp path other ≡ path_order (map string_bytes path) (map string_bytes other)
order_by_bytes [] [] = refl
order_by_bytes [] (y ∷ ys) = refl
order_by_bytes (x ∷ xs) [] = refl
order_by_bytes (x ∷ xs) (y ∷ ys) = ap (ordering_then (string_cmp x y)) (order_by_bytes xs ys)

pub sorted_map : {A B : Type 0} (key : A → B) (lt : B → B → Bool) (xs : List A) → IsSortedBy (λ x y. lt (key x) (key y)) xs → IsSortedBy lt (map key xs)
sorted_map key lt [] h k d low next = absurd (omega arith)
sorted_map key lt (x ∷ xs) h k d low next =
    let within : k + 1 < length (x ∷ xs) = rw (← length-map _ key) next in
    rw (get_or-map key (x ∷ xs) (k + 1) x d within, get_or-map key (x ∷ xs) k x d (omega arith)) (h k x low within)

-- ==== of files in tree order two overlap just where a path begins the next one

-- ---- two paths

-- the first elements of three paths that stand in order, where the first and the last are one
level : (o a b : Ordering) → is_lt (ordering_then (ordering_reverse o) a) ≡ false → is_lt (ordering_then o b) ≡ false
    → (o ≡ Equal) × (is_lt a ≡ false) × (is_lt b ≡ false)
level Less a b h k = cc
level Equal a b h k = (refl, h, k)
level Greater a b h k = cc

-- the first elements of two paths that overlap
one_first : (same b c : Bool) → (same && b || same && c) ≡ true → (same ≡ true) × ((b || c) ≡ true)
one_first true b c h = (refl, h)
one_first false b c h = cc

-- where two paths overlap, the first begins each between them
begins_between : (p q r : List (List ℕ)) → is_lt (path_order q p) ≡ false → is_lt (path_order r q) ≡ false → (begins p r || begins r p) ≡ true
    → begins p q ≡ true
begins_between [] q r first second h = refl
begins_between (n ∷ p) [] r first second h = cc
begins_between (n ∷ p) (k ∷ q) [] first second h = cc
begins_between (n ∷ p) (k ∷ q) (m ∷ r) first second h =
    let one = one_first (pointwise nat_eq n m) (begins p r) (begins r p) (rw (nat_list_eq_equiv.symm m n) at h) in
    let on = level (slice_cmp nat_cmp n k) _ _ (rw (nat_list_cmp_total.antisymm k n) at first) (rw (← (bytes_eq-Decides n m).0 one.0) at second) in
    rw (← is_eq-slice_cmp n k, on.0) (begins_between p q r on.1 on.2 one.1)

begins_itself : (p : List (List ℕ)) → begins p p ≡ true
begins_itself [] = refl
begins_itself (n ∷ p) = rw ((bytes_eq-Decides n n).1 refl) (begins_itself p)

less_unless : (o : Ordering) → (is_lt o ≡ false → ⊥) → o ≡ Less
less_unless Less h = refl
less_unless Equal h = absurd (h refl)
less_unless Greater h = absurd (h refl)

-- ---- pairs of files

none_apart : (files : List Given) → (have_overlap files ≡ false) ↔ IsDistinct is_overlap files
unfolding IsDistinct
none_apart [] = ((λ h. tt), λ h. refl)
none_apart (f ∷ files) =
    let rest = none_apart files in (
      (λ h. let p = or_parts _ _ h in (recursion_from_All (λ g. is_overlap f g ≡ false) files (none_of _ _ p.0), rest.0 p.1)),
      λ h. or_from _ _ (list_any_none _ _ (All-from_recursion (λ g. is_overlap f g ≡ false) files h.0)) (rest.1 h.1),
    )

-- in another order no other files overlap
none_in : (files ordered : List Given) → IsPermutation files ordered → have_overlap files ≡ false → have_overlap ordered ≡ false
none_in files ordered same h = (none_apart ordered).1
    (IsDistinct-IsPermutation _ (λ f g. or_comm (begins f.path g.path) (begins g.path f.path)) files _ same ((none_apart files).0 h))

pub same_overlap : {files ordered : List Given} {b : Bool} → IsInTreeOrder files ordered → b ≡ have_overlap ordered → have_overlap files ≡ b
same_overlap {files} {ordered} order is = grind (
  arith,
  none_in _ _ order.same,
  none_in _ _ (IsPermutation-sym _ _ order.same),
  cases_Bool (have_overlap files),
  cases_Bool (have_overlap ordered),
)

earlier_apart : (files : List Given) (i j : ℕ) (d : Given) → have_overlap files ≡ false → i < j → j < length files
    → begins (get_or files i d).path (get_or files j d).path ≡ false
earlier_apart files i j d none lt within = (or_parts _ _ (apart_from_distinct is_overlap files i j d ((none_apart files).0 none) lt within)).0

-- ---- in tree order

abbrev DoesNotBegin : Given → Given → Type 0
DoesNotBegin f g = begins f.path g.path ≡ false

-- none of the first i paths begins the next one
abbrev pub AreApartTo : List Given → ℕ → Type 0
AreApartTo = AllAdjacentBelow DoesNotBegin

module _ (files : List Given) (up : IsSortedBy is_before files) where
  far : (i j : ℕ) (d : Given) → i ≤ j → j < length files → is_lt (path_order (get_or files j d).path (get_or files i d).path) ≡ false
  far = sorted_far is_before (ranks_by (lists_total nat_list_cmp_total) (λ (f : Given). f.path)) files up

  pub none_overlap : AreApartTo files (length files) → false ≡ have_overlap files
  none_overlap apart = sym ((none_apart files).1 (IsDistinct-from_apart is_overlap files (λ i j d lt within.
      let path = λ (k : ℕ). (get_or files k d).path in
      false_from_ne_true _ (λ overlap. true≢false (sym (begins_between (path i) (path (i + 1)) (path j)
      (far i (i + 1) d (omega arith) (omega arith)) (far (i + 1) j d (omega arith) within) overlap) ∙ apart i d (omega arith))))))

pub tree_paths : {files ordered : List Given} → IsInTreeOrder files ordered → false ≡ have_overlap ordered → HaveTreePaths ordered
tree_paths {files} {ordered} h none k d lt =
    let apart = earlier_apart ordered k (k + 1) d (sym none) (omega arith) lt in
    let p = (get_or ordered k d).path in (
      less_unless _ (λ level. true≢false
          (sym (begins_between p _ p (h.ascending k d (omega arith) lt) level (or_left _ _ (begins_itself p))) ∙ apart)),
      apart,
    )

-- ---- of references: whether a path begins the next one

pub begins_by_bytes : (path other : List (String Global)) → starts_with string_eq other path ≡ begins (map string_bytes path) (map string_bytes other)
begins_by_bytes [] other = refl
begins_by_bytes (x ∷ xs) [] = refl
begins_by_bytes (x ∷ xs) (y ∷ ys) = ap (λ b. string_eq x y && b) (begins_by_bytes xs ys)

module _ (files : List (Bor Made)) (i : ℕ) (m n : Bor Made) (some : 1 ≤ i) (lt : i < length files)
    (first : m ≡ get_or files (i - 1) m) (second : n ≡ get_or files i n) where
  -- what is said of the two references is said of the files at their places
  two : (R : Given → Given → Type 0) → R (given_at m) (given_at n) → (d : Given) → R (get_or (map given_at files) (i - 1) d) (get_or (map given_at files) i d)
  two R h d = rw (get_or-map given_at files (i - 1) m d (omega arith), get_or-map given_at files i n d lt, ← first, ← second) h

  pub overlap_found : begins (given_at m).path (given_at n).path ≡ true → true ≡ have_overlap (map given_at files)
  overlap_found h = sym (true_from_ne_false _ (λ none. true≢false (sym (two (λ f g. begins f.path g.path ≡ true) h (given_at m))
      ∙ earlier_apart (map given_at files) (i - 1) i (given_at m) none (omega arith) (rw length-map lt))))

  pub apart_more : begins (given_at m).path (given_at n).path ≡ false → AreApartTo (map given_at files) i → AreApartTo (map given_at files) (i + 1)
  apart_more apart h = all_adjacent_more (map given_at files) DoesNotBegin i some h (two DoesNotBegin apart)

-- ---- the first refusal

pub memory_short : {name : List ℕ} {piece_length : ℕ} (files : List Made) → true ≡ is_piece_length piece_length → false ≡ (length files == 0)
    → IsNotMade name piece_length (map given_of files) OutOfMemory
memory_short files lawful some = no_memory (sym lawful) (rw length-map (grind (arith, nat_tests)))

pub files_refused : (piece_length : ℕ) (files : List Made) → true ≡ is_piece_length piece_length → false ≡ (length files == 0)
    → refusal_of_files piece_length (map given_of files) ≡ first_of (with_earlier (file_refusal piece_length) [] (map given_of files))
unfolding refusal_of_files
files_refused piece_length files is some = rw (← is, length-map, ← some) refl

pub files_unlawful : {name : List ℕ} {piece_length : ℕ} (files : List Made) → true ≡ is_piece_length piece_length → false ≡ (length files == 0)
    → {e : MakeError} → Refuses (first_of (with_earlier (file_refusal piece_length) [] (map given_of files))) e
    → IsNotMade name piece_length (map given_of files) e
files_unlawful files lawful some (inl m) = rw m (memory_short files lawful some)
files_unlawful files lawful some (inr k) = unlawful _ (files_refused _ files lawful some ∙ k)
