-- Where files lie, and how they are shared.
use Rattle.std.proofs.Common.{◌≡◌, ℕ, zero, suc, ◌+◌, ◌-◌, ◌*◌, ◌/◌, ◌^◌, ◌<◌, ◌≤◌, ◌⊎◌, ◌&&◌, ◌||◌, ◌==◌, Bool, true, false, true≢false, cond, List, [], ◌∷◌, ◌++◌, length, map, take, take_all, get_or, max, inl, inr, Option, None, Some, refl, sym, ap, ◌∙◌, subst, arith, if◌then◌else◌, append-nil, append_assoc}
use Rattle.std.specs.Prelude.{nat_eq}
use Rattle.std.specs.Cmp.Lexicographic.{pointwise}
use Rattle.std.specs.List.{All, AllZip}
use Rattle.std.specs.BTreeMap.{get, is_at}
use Rattle.std.specs.Map.{lookup}
use Rattle.std.specs.Int.{div_ceil}
use Rattle.std.specs.Ordering.{is_eq}
use Rattle.std.proofs.Math.Nat.{mul-div_cancel, mul-le-mul_right}
use Rattle.std.proofs.lemmas.Bool.{cases_lt}
use Rattle.std.proofs.lemmas.List.{get_or-map, length-map, take_more}
use Rattle.std.proofs.lemmas.List.Folds.{list_any-append}
use Rattle.std.proofs.lemmas.Nat.{pow_pos, pow-add}
use Rattle.bt_tree.specs.Blocks.{block_count}
use Rattle.bt_tree.specs.Limits.{full_block_length, max_file_length}
use Rattle.bt_meta.specs.Files.{File, file_of}
use Rattle.bt_meta.specs.declared.torrent.FileEntry.{FileEntry}
use Rattle.bt_sparse.proofs.Values.{none_some}
use Rattle.bt_check.specs.Check.{are_twins}
use Rattle.bt_check.specs.EntryCheck.{IsCheckable}
use Rattle.bt_check.specs.Finding.{KnownLayer, digests_in, known_layer}
use Rattle.bt_check.specs.TreeSteps.{Key, key_cmp, tree_key}
use Rattle.bt_check.proofs.RightBlocks.{cases_bool}
use Rattle.bt_check.proofs.KeptTrees.{key_tells, one_length, one_root, own_twin}
use Rattle.bt_parts.specs.Division.{cut_at, edge_of}
use Rattle.bt_parts.specs.Unit.{unit_of}
use Rattle.bt_parts.proofs.Cuts.{shares_whole}
use Rattle.bt_parts.specs.declared.cut.Cut.{Cut}
use Rattle.bt_parts.specs.declared.cut.Part.{Part}
use Rattle.bt_parts.specs.declared.cut.Share.{Share}
use Rattle.bt_jobs.specs.Plan.{AreShares, IsCutOf, IsShareOf, counted_behind, files_before, has_twin, place_of, total_of}
use Rattle.bt_jobs.specs.PlanSteps.{ArePlacesOf, IsPlanOf, place_in}
use Rattle.bt_jobs.specs.Share.{IsPieceEdge}
use Rattle.bt_jobs.specs.declared.plan.Places.{Places}
use Rattle.bt_jobs.specs.declared.plan.Plan.{Plan}

-- ---- lists, place by place

pub zip_push : {X Y : Type 0} (R : X → Y → Type 0) (xs : List X) (ys : List Y) (x : X) (y : Y) → AllZip R xs ys → R x y
    → AllZip R (xs ++ x ∷ []) (ys ++ y ∷ [])
zip_push R [] [] x y all one = (one, tt)
zip_push R [] (b ∷ ys) x y all one = absurd all
zip_push R (a ∷ xs) [] x y all one = absurd all
zip_push R (a ∷ xs) (b ∷ ys) x y all one = (all.0, zip_push R xs ys x y all.1 one)

pub zip_weaker : {X Y : Type 0} (R Q : X → Y → Type 0) (xs : List X) (ys : List Y) → ((x : X) (y : Y) → R x y → Q x y) → AllZip R xs ys → AllZip Q xs ys
zip_weaker R Q [] [] f all = tt
zip_weaker R Q [] (b ∷ ys) f all = absurd all
zip_weaker R Q (a ∷ xs) [] f all = absurd all
zip_weaker R Q (a ∷ xs) (b ∷ ys) f all = (f a b all.0, zip_weaker R Q xs ys f all.1)

pub zip_length : {X Y : Type 0} (R : X → Y → Type 0) (xs : List X) (ys : List Y) → AllZip R xs ys → length xs ≡ length ys
zip_length R [] [] all = refl
zip_length R [] (b ∷ ys) all = absurd all
zip_length R (a ∷ xs) [] all = absurd all
zip_length R (a ∷ xs) (b ∷ ys) all = omega (arith, zip_length R xs ys all.1)

-- ---- twins

or_true : (b : Bool) → (b || true) ≡ true
or_true true = refl
or_true false = refl

or_false : (b : Bool) → (b || false) ≡ b
or_false true = refl
or_false false = refl

-- twins are twins of the same files
twin_same : (other file twin : File) → are_twins file twin ≡ true → are_twins other file ≡ are_twins other twin
twin_same other file twin e =
    ap (λ r. pointwise nat_eq other.root r && other.length == file.length) (one_root file twin e)
    ∙ ap (λ m. pointwise nat_eq other.root twin.root && other.length == m) (one_length file twin e)

twins_among : (files : List File) (file twin : File) → are_twins file twin ≡ true → has_twin files file ≡ has_twin files twin
twins_among [] file twin e = refl
twins_among (other ∷ files) file twin e =
    ap (λ b. b || has_twin files file) (twin_same other file twin e) ∙ ap (λ b. are_twins other twin || b) (twins_among files file twin e)

-- one file more
twin_push : (files : List File) (x file : File) → has_twin (files ++ x ∷ []) file ≡ (has_twin files file || are_twins x file)
twin_push files x file =
    list_any-append (λ other. are_twins other file) files (x ∷ []) ∙ ap (λ b. has_twin files file || b) (or_false (are_twins x file))

-- a file is among those that it stands between
among : (done files : List File) (file : File) → has_twin (done ++ file ∷ files) file ≡ true
among done files file =
    list_any-append (λ other. are_twins other file) done (file ∷ files) ∙ ap (λ b. has_twin done file || (b || has_twin files file)) (own_twin file)
    ∙ or_true (has_twin done file)

-- ---- where a file lies

-- after those that have a twin of it nothing counts
before_known : (files more : List File) (file : File) → has_twin files file ≡ true → files_before file (files ++ more) ≡ files_before file files
before_known [] more file e = absurd (true≢false (sym e))
before_known (other ∷ files) more file e = elim (cases_bool (are_twins other file)) [
  | inl twin ↦
      ap (λ b. if b then [] else other ∷ files_before file (files ++ more)) twin ∙ sym (ap (λ b. if b then [] else other ∷ files_before file files) twin)
  | inr apart ↦
      ap (λ b. if b then [] else other ∷ files_before file (files ++ more)) apart
      ∙ ap (λ l. other ∷ l) (before_known files more file (sym (ap (λ b. b || has_twin files file) apart) ∙ e))
      ∙ sym (ap (λ b. if b then [] else other ∷ files_before file files) apart)
]

-- the first twin comes after them
before_first : (files : List File) (x file : File) → has_twin files file ≡ false → are_twins x file ≡ true → files_before file (files ++ x ∷ []) ≡ files
before_first [] x file e twin = ap (λ b. if b then [] else x ∷ []) twin
before_first (other ∷ files) x file e twin = elim (cases_bool (are_twins other file)) [
  | inl same ↦ absurd (true≢false (sym (ap (λ b. b || has_twin files file) same) ∙ e))
  | inr apart ↦
      ap (λ b. if b then [] else other ∷ files_before file (files ++ x ∷ [])) apart
      ∙ ap (λ l. other ∷ l) (before_first files x file (sym (ap (λ b. b || has_twin files file) apart) ∙ e) twin)
]

counted_split : (before xs ys : List File) → counted_behind before (xs ++ ys) ≡ counted_behind before xs + counted_behind (before ++ xs) ys
counted_split before [] ys =
    let same : counted_behind (before ++ []) ys ≡ counted_behind before ys = ap (λ l. counted_behind l ys) (append-nil before) in
    omega (arith, same)
counted_split before (x ∷ xs) ys =
    let rest = counted_split (before ++ x ∷ []) xs ys in
    let same : counted_behind ((before ++ x ∷ []) ++ xs) ys ≡ counted_behind (before ++ x ∷ xs) ys = ap (λ l. counted_behind l ys) (append_assoc before (x ∷ []) xs) in
    omega (arith, rest, same)

-- what one file adds to the total
added : List File → File → ℕ
added files x = if has_twin files x then 0 else max 1 x.length

total_push : (files : List File) (x : File) → total_of (files ++ x ∷ []) ≡ total_of files + added files x
unfolding added
total_push files x =
    let split = counted_split [] files (x ∷ []) in
    omega (arith, split)

added_none : (files : List File) (x : File) → has_twin files x ≡ true → added files x ≡ 0
unfolding added
added_none files x e = ap (λ b. if b then 0 else max 1 x.length) e

added_all : (files : List File) (x : File) → has_twin files x ≡ false → added files x ≡ max 1 x.length
unfolding added
added_all files x e = ap (λ b. if b then 0 else max 1 x.length) e

added_few : (files : List File) (x : File) → added files x ≤ max 1 x.length
added_few files x = elim (cases_bool (has_twin files x)) [
  | inl has_one ↦ omega (arith, added_none files x has_one)
  | inr has_none ↦ omega (arith, added_all files x has_none)
]

-- a file lies inside
twin_inside : (before files : List File) (file : File) → has_twin before file ≡ false → has_twin files file ≡ true
    → counted_behind before (files_before file files) + max 1 file.length ≤ counted_behind before files
unfolding added
twin_inside before [] file none some = absurd (true≢false (sym some))
twin_inside before (other ∷ files) file none some = elim (cases_bool (are_twins other file)) [
  | inl twin ↦
      let here : files_before file (other ∷ files) ≡ [] = ap (λ b. if b then [] else other ∷ files_before file files) twin in
      let at : counted_behind before (files_before file (other ∷ files)) ≡ 0 = ap (counted_behind before) here in
      let first : added before other ≡ max 1 other.length = added_all before other (twins_among before other file twin ∙ none) in
      let long : other.length ≡ file.length = one_length other file twin in
      omega (arith, at, first, long)
  | inr apart ↦
      let here : files_before file (other ∷ files) ≡ other ∷ files_before file files =
      ap (λ b. if b then [] else other ∷ files_before file files) apart in
      let at : counted_behind before (files_before file (other ∷ files)) ≡ added before other + counted_behind (before ++ other ∷ []) (files_before file files) =
      ap (counted_behind before) here in
      let deeper = twin_inside (before ++ other ∷ []) files file (twin_push before other file ∙ ap (λ b. b || are_twins other file) none ∙ apart)
      (sym (ap (λ b. b || has_twin files file) apart) ∙ some) in
      omega (arith, at, deeper)
]

-- ---- the places of some files

-- where a file lies, if one of some files has its root and length
abbrev told_place : List File → File → Option ℕ
told_place files file = if has_twin files file then Some (place_of files file) else None

told_yes : (files : List File) (file : File) → has_twin files file ≡ true → told_place files file ≡ Some (place_of files file)
told_yes files file e = ap (λ b. if b then Some (place_of files file) else None) e

told_no : (files : List File) (file : File) → has_twin files file ≡ false → told_place files file ≡ None
told_no files file e = ap (λ b. if b then Some (place_of files file) else None) e

-- one file more leaves the places of others
told_same : (files : List File) (x other : File) → (are_twins x other ≡ true → has_twin files other ≡ true)
    → told_place files other ≡ told_place (files ++ x ∷ []) other
told_same files x other known = elim (cases_bool (has_twin files other)) [
  | inl has_one ↦
      told_yes files other has_one ∙ ap (λ m. Some m) (sym (ap total_of (before_known files (x ∷ []) other has_one)))
      ∙ sym (told_yes (files ++ x ∷ []) other (twin_push files x other ∙ ap (λ b. b || are_twins x other) has_one))
  | inr has_none ↦
      let apart : are_twins x other ≡ false = elim (cases_bool (are_twins x other)) [
        | inl twin ↦ absurd (true≢false (sym (known twin) ∙ has_none))
        | inr e ↦ e
      ] in
      told_no files other has_none ∙ sym (told_no (files ++ x ∷ []) other (twin_push files x other ∙ ap (λ b. b || are_twins x other) has_none ∙ apart))
]

some_is : {x y : ℕ} → Some x ≡ Some y → x ≡ y
some_is e = cc

-- a place is told of files that have a twin, and of no others
known_twin : (files : List File) (places : Places) (file : File) (place : ℕ) → ArePlacesOf files places → place_in places file ≡ Some place
    → has_twin files file ≡ true
known_twin files places file place are at = elim (cases_bool (has_twin files file)) [
  | inl has_one ↦ has_one
  | inr has_none ↦ absurd (none_some place (sym (are.known file ∙ told_no files file has_none) ∙ at))
]

known_place : (files : List File) (places : Places) (file : File) (place : ℕ) → ArePlacesOf files places → place_in places file ≡ Some place
    → place ≡ place_of files file
known_place files places file place are at =
    some_is (sym at ∙ are.known file ∙ told_yes files file (known_twin files places file place are at))

unknown_twin : (files : List File) (places : Places) (file : File) → ArePlacesOf files places → place_in places file ≡ None → has_twin files file ≡ false
unknown_twin files places file are at = elim (cases_bool (has_twin files file)) [
  | inl has_one ↦ absurd (none_some (place_of files file) (sym at ∙ are.known file ∙ told_yes files file has_one))
  | inr has_none ↦ has_none
]

places_begun : (places : Places) → places.known.entries ≡ [] → places.total ≡ 0 → ArePlacesOf [] places
places_begun places empty none = record {
  known = λ file. ap (λ (es : List (Key × ℕ)). lookup (is_at (key_cmp (tree_key file))) es) empty;
  total = none;
}

-- a file has a place
pub place_known : (places : Places) (file : File) (place : ℕ) → place_in places file ≡ Some place
    → (files : List File) → ArePlacesOf files places → ArePlacesOf (files ++ file ∷ []) places
place_known places file place at files are =
    let has_one : has_twin files file ≡ true = known_twin files places file place are at in
    record {
      known = λ other. are.known other ∙ told_same files file other (λ twin. sym (twins_among files file other twin) ∙ has_one);
      total = omega (arith, are.total, total_push files file, added_none files file has_one);
    }

-- it is given one
module _ (old new : Places) (file : File) (key : Key) (same : key ≡ tree_key file) (none : get key_cmp old.known key ≡ None)
    (update : (k : Key) → get key_cmp new.known k ≡ cond (is_eq (key_cmp key k)) (Some old.total) (get key_cmp old.known k))
    (grows : new.total ≡ old.total + max 1 file.length) where
  at : (other : File) (b : Bool) → are_twins file other ≡ b → place_in new other ≡ cond b (Some old.total) (place_in old other)
  at other b e =
      update (tree_key other)
      ∙ ap (λ t. cond t (Some old.total) (place_in old other)) (ap (λ k. is_eq (key_cmp k (tree_key other))) same ∙ key_tells file other ∙ e)

  pub place_here : place_in new file ≡ Some old.total
  place_here = at file true (own_twin file)

  pub place_made : (files : List File) → ArePlacesOf files old → ArePlacesOf (files ++ file ∷ []) new
  place_made files are =
      let has_none : has_twin files file ≡ false = unknown_twin files old file are (ap (get key_cmp old.known) (sym same) ∙ none) in
      record {
        known = λ other. elim (cases_bool (are_twins file other)) [
          | inl twin ↦
              let unknown : has_twin files other ≡ false = sym (twins_among files file other twin) ∙ has_none in
              let known : has_twin (files ++ file ∷ []) other ≡ true =
              twin_push files file other ∙ ap (λ b. has_twin files other || b) twin ∙ or_true (has_twin files other) in
              at other true twin ∙ ap (λ m. Some m) (are.total ∙ sym (ap total_of (before_first files file other unknown twin)))
              ∙ sym (told_yes (files ++ file ∷ []) other known)
          | inr apart ↦ at other false apart ∙ are.known other ∙ told_same files file other (λ twin. absurd (true≢false (sym twin ∙ apart)))
        ];
        total = omega (arith, grows, are.total, total_push files file, added_all files file has_none);
      }

-- ---- all files

-- a file that has a place is cut so
abbrev IsPlacedCut : ℕ → Places → File → Cut → Type 0
IsPlacedCut layer places file cut =
    (cut.blocks ≡ block_count file.length) × (cut.unit ≡ unit_of layer file) × (place_in places file ≡ Some cut.place)

-- The first files were given places.
pub record IsPlacing (layer i : ℕ) (files : List File) (places : Places) (cuts : List Cut) : Type 0 where
  pub each : AllZip (IsPlacedCut layer places) (take i files) cuts
  pub are : ArePlacesOf (take i files) places
  pub few : places.total ≤ i * max_file_length

-- one file more
pub placing_more : (layer i : ℕ) (files : List File) (old new : Places) (cuts : List Cut) (file : File) (cut : Cut) → IsPlacing layer i files old cuts
    → take (i + 1) files ≡ take i files ++ file ∷ [] → file.length ≤ max_file_length → place_in new file ≡ Some cut.place
    → ((done : List File) → ArePlacesOf done old → ArePlacesOf (done ++ file ∷ []) new)
    → cut.blocks ≡ block_count file.length → cut.unit ≡ unit_of layer file → IsPlacing layer (i + 1) files new (cuts ++ cut ∷ [])
placing_more layer i files old new cuts file cut so_far here short at placed blocks unit =
    let done : List File = take i files in
    let made : ArePlacesOf (done ++ file ∷ []) new = placed done so_far.are in
    let kept : (f : File) (p : ℕ) → place_in old f ≡ Some p → place_in new f ≡ Some p = λ f p told.
    made.known f ∙ sym (told_same done file f (λ _. known_twin done old f p so_far.are told)) ∙ sym (so_far.are.known f) ∙ told in
    record {
      each = subst (λ l. AllZip (IsPlacedCut layer new) l (cuts ++ cut ∷ [])) (sym here) (zip_push (IsPlacedCut layer new) done cuts file cut
          (zip_weaker (IsPlacedCut layer old) (IsPlacedCut layer new) done cuts (λ f c told. (told.0, told.1, kept f c.place told.2)) so_far.each)
          (blocks, unit, at));
      are = subst (λ l. ArePlacesOf l new) (sym here) made;
      few = omega (arith, made.total, total_push done file, added_few done file, so_far.are.total, so_far.few, short);
    }

pub placing_begun : (layer : ℕ) (files : List File) (places : Places) (cuts : List Cut) → places.known.entries ≡ [] → places.total ≡ 0 → cuts ≡ []
    → IsPlacing layer 0 files places cuts
placing_begun layer files places cuts empty none begun = record {
  each = subst (AllZip (IsPlacedCut layer places) []) (sym begun) tt;
  are = places_begun places empty none;
  few = omega (arith, none);
}

-- a file that can be checked is no longer than a file may be
pub one_short : (layer : ℕ) (files : List FileEntry) (i : ℕ) (file : FileEntry) → All (IsCheckable layer) (map file_of files) → i < length files
    → file ≡ get_or files i file → (file_of file).length ≤ max_file_length
one_short layer files i file all lt is =
    let short = (all i (file_of file) (omega (arith, lt, length-map files file_of))).short in
    let same : get_or (map file_of files) i (file_of file) ≡ file_of file = get_or-map file_of files i file (file_of file) lt ∙ ap file_of (sym is) in
    omega (arith, short, ap (λ (f : File). f.length) same)

-- what was taken of a list that is mapped
pub taken_more : {X Y : Type 0} (f : X → Y) (xs : List X) (i : ℕ) (x : X) → i < length xs → x ≡ get_or xs i x
    → take (i + 1) (map f xs) ≡ take i (map f xs) ++ f x ∷ []
taken_more f xs i x lt is =
    take_more (map f xs) i (f x) (omega (arith, lt, length-map xs f))
    ∙ ap (λ y. take i (map f xs) ++ y ∷ []) (get_or-map f xs i x (f x) lt ∙ ap f (sym is))

pub taken_all : {X Y : Type 0} (f : X → Y) (xs : List X) (i : ℕ) → length xs ≤ i → take i (map f xs) ≡ map f xs
taken_all f xs i le = take_all i (map f xs) (omega (arith, le, length-map xs f))

-- the files of a plan
pub all_placed : (layer n : ℕ) (files : List File) (places : Places) (cuts : List Cut) (plan : Plan) → IsPlacing layer n files places cuts
    → take n files ≡ files → n ≤ 2 ^ 16 → plan.total ≡ places.total → plan.cuts.items ≡ cuts → IsPlanOf layer files plan
all_placed layer n files places cuts plan p whole few total_is cuts_are =
    let are : ArePlacesOf files places = subst (λ l. ArePlacesOf l places) whole p.are in
    let all : AllZip (IsPlacedCut layer places) files cuts = subst (λ l. AllZip (IsPlacedCut layer places) l cuts) whole p.each in
    record {
      total = total_is ∙ are.total;
      cuts = subst (AllZip (IsCutOf layer files) files) (sym cuts_are) (zip_weaker (IsPlacedCut layer places) (IsCutOf layer files) files cuts
          (λ f c told. record { place = known_place files places f c.place are told.2; blocks = told.0; unit = told.1 }) all);
      few = omega (arith, total_is, p.few, few);
    }

-- one share more
pub shared_more : (total : ℕ) (part : Part) (cuts : List Cut) (i : ℕ) (d : Cut) (shares : List Share) (share : Share) → i < length cuts
    → AllZip (IsShareOf total part) (take i cuts) shares → IsShareOf total part (get_or cuts i d) share
    → AllZip (IsShareOf total part) (take (i + 1) cuts) (shares ++ share ∷ [])
shared_more total part cuts i d shares share lt all is =
    subst (λ l. AllZip (IsShareOf total part) l (shares ++ share ∷ [])) (sym (take_more cuts i d lt))
    (zip_push (IsShareOf total part) (take i cuts) shares (get_or cuts i d) share all is)

-- a file that is cut lies inside
pub record IsInsideCut (layer : ℕ) (files : List File) (file : File) (cut : Cut) : Type 0 where
  pub is : IsCutOf layer files file cut
  pub inside : cut.place + max 1 file.length ≤ total_of files

cuts_inside : (layer : ℕ) (all done files : List File) (cuts : List Cut) → all ≡ done ++ files → AllZip (IsCutOf layer all) files cuts
    → AllZip (IsInsideCut layer all) files cuts
cuts_inside layer all done [] [] same are = tt
cuts_inside layer all done [] (cut ∷ cuts) same are = absurd are
cuts_inside layer all done (file ∷ files) [] same are = absurd are
cuts_inside layer all done (file ∷ files) (cut ∷ cuts) same are =
    let has_one : has_twin all file ≡ true = ap (λ l. has_twin l file) same ∙ among done files file in (
      record { is = are.0; inside = omega (arith, are.0.place, twin_inside [] all file refl has_one) },
      cuts_inside layer all (done ++ file ∷ []) files cuts (same ∙ sym (append_assoc done (file ∷ []) files)) are.1,
    )

pub all_inside : (layer : ℕ) (files : List File) (cuts : List Cut) → AllZip (IsCutOf layer files) files cuts → AllZip (IsInsideCut layer files) files cuts
all_inside layer files cuts are = cuts_inside layer files [] files cuts refl are

cut_begins : (layer : ℕ) (all files : List File) (cuts : List Cut) (i : ℕ) (d : Cut) → AllZip (IsInsideCut layer all) files cuts → i < length cuts
    → (get_or cuts i d).place < total_of all
cut_begins layer all [] [] i d are lt = absurd (omega (arith, lt))
cut_begins layer all [] (cut ∷ cuts) i d are lt = absurd are
cut_begins layer all (file ∷ files) [] i d are lt = absurd are
cut_begins layer all (file ∷ files) (cut ∷ cuts) zero d are lt = omega (arith, are.0.inside)
cut_begins layer all (file ∷ files) (cut ∷ cuts) (suc i) d are lt = cut_begins layer all files cuts i d are.1 (omega (arith, lt))

pub cut_inside : (layer total : ℕ) (files : List File) (cuts : List Cut) (i : ℕ) (d : Cut) → total ≡ total_of files → AllZip (IsCutOf layer files) files cuts
    → i < length cuts → (get_or cuts i d).place < total
cut_inside layer total files cuts i d same are lt = omega (arith, same, cut_begins layer files files cuts i d (all_inside layer files cuts are) lt)

-- ---- what a share is

multiple : (m l x : ℕ) → x ≡ m * 2 ^ l → x ≡ x / 2 ^ l * 2 ^ l
multiple m l x e = e ∙ ap (λ q. q * 2 ^ l) (sym (ap (λ y. y / 2 ^ l) e ∙ mul-div_cancel m (pow_pos l)))

zero_is : (l : ℕ) → 0 ≡ 0 / 2 ^ l * 2 ^ l
zero_is l = multiple 0 l 0 (omega arith)

module _ (layer : ℕ) (files : List File) (file : File) (cut : Cut) (is : IsCutOf layer files file cut) (edge : ℕ) where
  cut_is_few : cut_at cut edge ≤ block_count file.length
  cut_is_few = omega (arith, is.blocks)

  -- a cut is a number of whole units, or the file's end
  cut_whole : (cut_at cut edge ≡ div_ceil (edge - cut.place) (cut.unit * full_block_length) * cut.unit) ⊎ (cut_at cut edge ≡ cut.blocks)
  cut_whole = elim (cases_lt (div_ceil (edge - cut.place) (cut.unit * full_block_length) * cut.unit) cut.blocks) [
    | inl lt ↦ inl (omega (arith, lt))
    | inr le ↦ inr (omega (arith, le))
  ]

  abbrev units_before : ℕ
  units_before = div_ceil (edge - cut.place) (cut.unit * full_block_length)

  -- so it is where a piece begins, or the file's end
  pub cut_edge : IsPieceEdge (known_layer layer file) file.length (cut_at cut edge)
  cut_edge = elim cut_whole [
    | inr end ↦ inr (end ∙ is.blocks)
    | inl units ↦ elim (cases_lt 0 units_before) [
      | inr le ↦ inl (no_unit (omega (arith, units, mul-le-mul_right cut.unit le)))
      | inl some ↦ elim (cases_bool (length file.layer == 0)) [
        | inl none ↦ inr (whole_file none some units)
        | inr layered ↦ inl (unit_edge layered units)
      ]
    ]
  ]
    where
      no_unit : cut_at cut edge ≡ 0 → cut_at cut edge ≡ cut_at cut edge / 2 ^ (known_layer layer file).layer * 2 ^ (known_layer layer file).layer
      no_unit e = subst (λ m. m ≡ m / 2 ^ (known_layer layer file).layer * 2 ^ (known_layer layer file).layer) (sym e) (zero_is (known_layer layer file).layer)

      -- a file that is not parted
      whole_file : (length file.layer == 0) ≡ true → 0 < units_before → cut_at cut edge ≡ units_before * cut.unit → cut_at cut edge ≡ block_count file.length
      whole_file none some units =
          let unit : cut.unit ≡ max 1 (block_count file.length) =
          is.unit ∙ ap (λ b. if b then max 1 (block_count file.length) else 2 ^ max 3 layer) none in
          let more : 1 * cut.unit ≤ units_before * cut.unit = mul-le-mul_right cut.unit (omega (arith, some)) in
          omega (arith, units, more, unit, cut_is_few)

      -- one that is parted into whole pieces
      unit_edge : (length file.layer == 0) ≡ false → cut_at cut edge ≡ units_before * cut.unit
          → cut_at cut edge ≡ cut_at cut edge / 2 ^ (known_layer layer file).layer * 2 ^ (known_layer layer file).layer
      unit_edge layered units =
          let unit : cut.unit ≡ 2 ^ max 3 layer =
          is.unit ∙ ap (λ b. if b then max 1 (block_count file.length) else 2 ^ max 3 layer) layered in
          let known : known_layer layer file ≡ record { layer = layer; digests = digests_in file.layer } = rw layered refl in
          let own : (known_layer layer file).layer ≡ layer = ap (λ (k : KnownLayer). k.layer) known in
          let parts : max 3 layer ≡ (max 3 layer - layer) + layer = omega arith in
          let powers : 2 ^ max 3 layer ≡ 2 ^ (max 3 layer - layer) * 2 ^ layer = ap (λ m. 2 ^ m) parts ∙ pow-add 2 (max 3 layer - layer) layer in
          let regroup : units_before * (2 ^ (max 3 layer - layer) * 2 ^ layer) ≡ units_before * 2 ^ (max 3 layer - layer) * 2 ^ layer = grind arith in
          let at : cut_at cut edge ≡ units_before * 2 ^ (max 3 layer - layer) * 2 ^ layer =
          units ∙ ap (λ u. units_before * u) (unit ∙ powers) ∙ regroup in
          subst (λ l. cut_at cut edge ≡ cut_at cut edge / 2 ^ l * 2 ^ l) (sym own) (multiple (units_before * 2 ^ (max 3 layer - layer)) layer (cut_at cut edge) at)

-- A share is some of a file's blocks, and begins with a piece.
pub record IsReadyShare (layer : ℕ) (file : File) (share : Share) : Type 0 where
  pub forward : share.from ≤ share.to
  pub inside : share.to ≤ block_count file.length
  pub edge : IsPieceEdge (known_layer layer file) file.length share.from

-- the last block of a file begins before its end
pub last_begins : (n : ℕ) → (block_count n - 1) * full_block_length < max 1 n
last_begins n = omega arith

one_ready : (layer : ℕ) (files : List File) (part : Part) (file : File) (cut : Cut) (share : Share) → IsInsideCut layer files file cut
    → IsShareOf (total_of files) part cut share → IsReadyShare layer file share
one_ready layer files part file cut share inside of =
    let total : ℕ = total_of files in
    let last : cut.place + (cut.blocks - 1) * full_block_length < total = omega (arith, inside.inside, inside.is.blocks, last_begins file.length) in
    record {
      forward = omega (arith, of.from, of.to, (shares_whole cut total part.count (omega (arith, part.inside)) last).forward part.index);
      inside = omega (arith, of.to, cut_is_few layer files file cut inside.is (edge_of total part.count (part.index + 1)));
      edge = subst (IsPieceEdge (known_layer layer file) file.length) (sym of.from)
          (cut_edge layer files file cut inside.is (edge_of total part.count part.index));
    }

-- the shares of a part of files that are placed
module _ (layer : ℕ) (part : Part) where
  shares_ready : (all files : List File) (cuts : List Cut) (shares : List Share) → AllZip (IsInsideCut layer all) files cuts
      → AllZip (IsShareOf (total_of all) part) cuts shares → AllZip (IsReadyShare layer) files shares
  shares_ready all [] [] [] placed each = tt
  shares_ready all [] [] (share ∷ shares) placed each = absurd each
  shares_ready all [] (cut ∷ cuts) shares placed each = absurd placed
  shares_ready all (file ∷ files) [] shares placed each = absurd placed
  shares_ready all (file ∷ files) (cut ∷ cuts) [] placed each = absurd each
  shares_ready all (file ∷ files) (cut ∷ cuts) (share ∷ shares) placed each = (
    one_ready layer all part file cut share placed.0 each.0,
    shares_ready all files cuts shares placed.1 each.1,
  )

  pub are_ready : (files : List File) (shares : List Share) → AreShares layer part files shares → AllZip (IsReadyShare layer) files shares
  are_ready files shares are = shares_ready files files are.cuts shares (all_inside layer files are.cuts are.are_cut) are.each
