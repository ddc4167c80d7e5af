-- The files that a torrent is made from.
use Rattle.bt_meta.proofs.Base.{◌≡◌, ℕ, ◌<◌, ◌==◌, false, List, [], ◌∷◌, ◌++◌, length, map, length-map, None, Some, refl, sym, ap, ◌∙◌, arith, inl, Option, All, All-nil, All-cons, All-head, All-tail, All-permutation, nat_tests, Given, File, with_earlier, sha256}
use Rattle.std.proofs.Common.{◌⊎◌, subst, slice_get, IsSomeAnd, MatchOption, zip, swap}
use Rattle.std.specs.List.{AllZip}
use Rattle.std.specs.List.Sorted.{IsPermutation}
use Rattle.std.proofs.Math.ListN.{get_or-map}
use Rattle.std.proofs.lemmas.List.{map-set}
use Rattle.std.proofs.lemmas.List.Sorted.{IsPermutation-refl, IsPermutation-trans, IsPermutation-swap, IsPermutation-map, IsPermutation-keeps}
use Rattle.std.proofs.lemmas.Slice.Zip.{AllZip-left, AllZip-long, firsts-zip, seconds-zip}
use Rattle.bt_tree.specs.Clash.{IsClash}
use Rattle.bt_tree.specs.Law.{RootsTellFiles}
use Rattle.bt_meta.specs.MadeFrom.{Describe, NamedFile, IsGivenOf}
use Rattle.bt_meta.specs.Writer.{file_made}
unfoldable use Rattle.bt_meta.specs.Writer.{torrent_made}
use Rattle.bt_meta.specs.Law.{IsMadeFromGivenFiles, DescribesNoOther}
use Rattle.bt_meta.proofs.LawReadBack.{one_torrent}

-- ==== where one of two lists is put into another order, so can be the other

map-swap : {A B : Type 0} (f : A → B) (xs : List A) (i j : ℕ) → map f (swap xs i j) ≡ swap (map f xs) i j
map-swap f [] i j = refl
map-swap f (d ∷ xs) i j = simp map-set (rw (← get_or-map f (d ∷ xs) i d, ← get_or-map f (d ∷ xs) j d) refl)

module _ {A B : Type 0} (R : A → B → Type 0) where
  abbrev Related : A × B → Type 0
  Related p = R p.0 p.1

  paired : (xs : List A) (ys : List B) → AllZip R xs ys → All Related (zip xs ys)
  paired [] [] h = All-nil Related
  paired [] (y ∷ ys) h = absurd h
  paired (x ∷ xs) [] h = absurd h
  paired (x ∷ xs) (y ∷ ys) h = All-cons Related (x, y) _ h.0 (paired xs ys h.1)

  unpaired : (ps : List (A × B)) → All Related ps → AllZip R (map (λ p. p.0) ps) (map (λ p. p.1) ps)
  unpaired [] h = tt
  unpaired (p ∷ ps) h = (All-head Related p ps h, unpaired ps (All-tail Related p ps h))

  -- the pairs in an order in which the second of each are these
  abbrev HasOrder : List (A × B) → List B → Type 0
  HasOrder ps ys = (qs : List (A × B)) × IsPermutation ps qs × (map (λ p. p.1) qs ≡ ys)

  swapped : (ps : List (A × B)) (ys : List B) (i j : ℕ) → i < length ys → j < length ys → HasOrder ps ys → HasOrder ps (swap ys i j)
  swapped ps ys i j low high h =
      let n : length h.0 ≡ length ys = sym (length-map h.0 (λ p. p.1)) ∙ ap length h.2 in (
        swap h.0 i j,
        IsPermutation-trans ps h.0 _ h.1 (IsPermutation-swap h.0 _ i j (omega arith) (omega arith) refl),
        map-swap _ h.0 i j ∙ ap (λ l. swap l i j) h.2,
      )

  reordered : (xs : List A) (ys ordered : List B) → AllZip R xs ys → IsPermutation ys ordered
      → (zs : List A) × IsPermutation xs zs × AllZip R zs ordered
  reordered xs ys ordered h same =
      let ps = zip xs ys in
      let firsts : map (λ p. p.0) ps ≡ xs = firsts-zip xs ys (AllZip-long R xs ys h) in
      let seconds : map (λ p. p.1) ps ≡ ys = seconds-zip xs ys (AllZip-long R xs ys h) in
      let start : HasOrder ps ys = (ps, IsPermutation-refl ps, seconds) in
      let q : HasOrder ps ordered = IsPermutation-keeps ys (HasOrder ps) start (swapped ps) ordered same in
      let zs : List A = map (λ p. p.0) q.0 in (
        zs,
        subst (λ l. IsPermutation l zs) {x = map (λ p. p.0) ps} firsts (IsPermutation-map (λ p. p.0) ps q.0 q.1),
        subst (AllZip R zs) q.2 (unpaired q.0 (All-permutation Related ps q.0 q.1 (paired xs ys h))),
      )

-- ==== what a torrent says of the files that it was made from

module _ (piece_length : ℕ) (all : List Given) where
  described : (before : List Given) (g : Given) (f : NamedFile) → IsGivenOf f g
      → let entry = file_made piece_length all before g in Describe entry.length entry.root f.bytes
  described before g f h = record {
    size = h.described.size;
    root = λ some. let n = h.described.size in let long : (g.length == 0) ≡ false = grind (arith, nat_tests) in rw long (h.described.root some);
  }

  said : (before given : List Given) (files : List NamedFile) → AllZip IsGivenOf files given
      → AllZip (λ (entry : File) file. Describe entry.length entry.root file) (with_earlier (file_made piece_length all) before given) (map (λ f. f.bytes) files)
  said before [] [] h = tt
  said before [] (f ∷ files) h = absurd h
  said before (g ∷ given) [] h = absurd h
  said before (g ∷ given) (f ∷ files) h = (described before g f h.0, said (before ++ g ∷ []) given files h.1)

  named : (before given : List Given) (files : List NamedFile) → AllZip IsGivenOf files given
      → map (λ (f : File). f.path) (with_earlier (file_made piece_length all) before given) ≡ map (λ f. f.path) files
  named before [] [] h = refl
  named before [] (f ∷ files) h = absurd h
  named before (g ∷ given) [] h = absurd h
  named before (g ∷ given) (f ∷ files) h = let rest = named (before ++ g ∷ []) given files h.1 in let path = h.0.path in cc

pub made_from_given : IsMadeFromGivenFiles
unfolding torrent_made
made_from_given name piece_length given files bytes torrent told made spelled =
    let r = reordered IsGivenOf files given made.ordered told made.in_order.same in
    let same = one_torrent bytes torrent _ spelled made.torrent in
    rw same (record {
      ordered = r.0;
      same = r.1;
      paths = named piece_length made.ordered [] made.ordered r.0 r.2;
      made = said piece_length made.ordered [] made.ordered r.0 r.2;
    })

-- ==== bytes that it describes

-- files that one length and one root describe
one_described : RootsTellFiles sha256 → (count : ℕ) (root a b : List ℕ) → Describe count root a → Describe count root b
    → (a ≡ b) ⊎ ((layer : ℕ) × (index : ℕ) × IsClash sha256 a b layer index)
one_described tell count root [] [] h k = inl refl
one_described tell count root [] (y ∷ b) h k = absurd (omega (arith, h.size, k.size))
one_described tell count root (x ∷ a) [] h k = absurd (omega (arith, h.size, k.size))
one_described tell count root (x ∷ a) (y ∷ b) h k = tell (x ∷ a) (y ∷ b) (sym h.size ∙ k.size) (sym (h.root (omega arith)) ∙ k.root (omega arith))

-- what stands at a place in the other list
at_place : {A B : Type 0} (R : A → B → Type 0) (xs : Option A) (ys : Option B) (x : A) → xs ≡ Some x
    → MatchOption xs (Unit {0}) (λ x. IsSomeAnd ys (R x)) → (y : B) × (ys ≡ Some y) × R x y
at_place R xs None x is h = let k : IsSomeAnd None (R x) = subst (λ o. MatchOption o (Unit {0}) (λ x. IsSomeAnd None (R x))) is h in absurd k
at_place R xs (Some y) x is h = (y, refl, subst (λ o. MatchOption o (Unit {0}) (λ x. R x y)) is h)

abbrev Describes : File → List ℕ → Type 0
Describes entry file = Describe entry.length entry.root file

pub describes_no_other : RootsTellFiles sha256 → DescribesNoOther
describes_no_other tell torrent files j entry bytes made listed fits =
    let found = at_place Describes (slice_get torrent.files j) (slice_get files j) entry listed (AllZip-left Describes torrent.files files made j) in
    (found.0, found.1, one_described tell entry.length entry.root bytes found.0 fits found.2)
