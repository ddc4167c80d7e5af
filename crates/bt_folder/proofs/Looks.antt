-- Names of a path that are looked at, one after the other.
use Rattle.std.proofs.Common.{◌≡◌, ℕ, zero, suc, ◌+◌, ◌<◌, ◌≤◌, ◌≢◌, ◌⊎◌, inl, inr, Bool, true, false, List, [], ◌∷◌, ◌++◌, String, Global, fold, length, map, take, Option, Some, None, MatchOption, refl, sym, ap, subst, ◌∙◌, vec_len, string_bytes, arith}
use Rattle.std.specs.Prelude.{slice_get}
use Rattle.std.specs.Borrow.{Bor}
use Rattle.std.specs.Path.{path_join}
use Rattle.std.specs.StrCase.Upper.{str_to_uppercase}
use Rattle.std.proofs.lemmas.Bool.{cases_lt, false≢true}
use Rattle.std.proofs.lemmas.List.{length-map, length_push, take-map, take_more}
use Rattle.std.proofs.lemmas.Option.{get_or_from_slice_get, none-some, same_Some, slice_get-get_or, slice_get_past, slice_get_within}
use Rattle.bt_folder.specs.CaseFolders.{IsOwnIn, name_in}
use Rattle.bt_folder.specs.CaseNames.{with_name}
use Rattle.bt_folder.specs.CasePaths.{AreShared, GoesTo, HasNameOfAnother, IsOwnPath, folder_on, last_path, place_of, texts}
use Rattle.bt_folder.specs.CasePathsSteps.{AddsName, KeepsAbove}
use Rattle.bt_folder.specs.Lookup.{Lists}
use Rattle.bt_folder.specs.declared.case_folder.CaseFolder.{CaseFolder}
use Rattle.bt_folder.specs.declared.paths_so_far.CasePaths.{CasePaths}

-- ---- choices

match_option : {X : Type 0} (o : Option X) (P : Type 0) (Q : X → Type 0) → ((x : X) → o ≡ Some x → Q x) → (o ≡ None → P) → MatchOption o P Q
match_option (Some x) P Q some none = some x refl
match_option None P Q some none = none refl

on_match : {X : Type 0} (o : Option X) (P : Type 0) (Q : X → Type 0) (R : Type 0) → MatchOption o P Q → (P → R) → ((x : X) → o ≡ Some x → Q x → R) → R
on_match (Some x) P Q R is none some = some x refl is
on_match None P Q R is none some = none is

-- ---- parts of lists

kept_by_take : {X : Type 0} (n : ℕ) (xs : List X) (i : ℕ) → i < n → slice_get (take n xs) i ≡ slice_get xs i
kept_by_take zero xs i below = absurd (omega (arith, below))
kept_by_take (suc n) [] i below = refl
kept_by_take (suc n) (x ∷ xs) zero below = refl
kept_by_take (suc n) (x ∷ xs) (suc i) below = kept_by_take n xs i (omega (arith, below))

take_next : {X : Type 0} (xs : List X) (n : ℕ) (x : X) → slice_get xs n ≡ Some x → take (n + 1) xs ≡ take n xs ++ x ∷ []
take_next xs n x at = take_more xs n x (slice_get_within xs n x at) ∙ ap (λ y. take n xs ++ y ∷ []) (get_or_from_slice_get xs n x x at)

take_whole : {X : Type 0} (n : ℕ) (xs : List X) → length xs ≤ n → take n xs ≡ xs
take_whole zero [] all = refl
take_whole zero (x ∷ xs) all = absurd (omega (arith, all))
take_whole (suc n) [] all = refl
take_whole (suc n) (x ∷ xs) all = ap (λ rest. x ∷ rest) (take_whole n xs (omega (arith, all)))

-- the elements that two paths begin with, as their texts
pub shared_of : (items : List (String Global)) (elements : List (Bor (List ℕ))) (shared : ℕ) → map string_bytes (take shared items) ≡ texts (take shared elements)
    → (shared < length elements → slice_get (map string_bytes items) shared ≢ slice_get (texts elements) shared)
    → AreShared (map string_bytes items) (texts elements) shared
shared_of items elements shared same apart = record {
  same = take-map string_bytes shared items ∙ same ∙ sym (take-map (λ (e : Bor (List ℕ)). e.now) shared elements);
  apart = λ inside. apart (omega (arith, inside, length-map elements (λ (e : Bor (List ℕ)). e.now)));
}

-- `count` names of a path were looked at, each of which is its own: those after the ones that are shared
pub record HasLookedAt (lists : Lists) (dir : List ℕ) (old new : CasePaths) (path : List (List ℕ))
    (shared count : ℕ) : Type 0 where
  pub way : last_path new ≡ take (shared + count) path
  pub most : vec_len new.folders ≤ shared + count + 1
  pub fewer : 0 < count → vec_len new.folders ≤ shared + count
  pub kept : KeepsAbove old new shared
  pub first : count ≡ 0 → folder_on new shared ≡ folder_on old shared
  pub is_own : 0 < count → (name : List ℕ) → slice_get path shared ≡ Some name
      → IsOwnIn lists (place_of dir path shared) (folder_on old shared) (folder_on new shared) name true
  pub added : 0 < count → (name : List ℕ) → slice_get path shared ≡ Some name → AddsName old new shared name
  pub alone : (depth : ℕ) (name : List ℕ) → shared < depth → depth < shared + count
      → slice_get path depth ≡ Some name → (capitals : List ℕ)
      → name_in (folder_on new depth) capitals ≡ with_name name (λ _. None) capitals

-- ---- one name

-- a name is looked at in the folder at this depth
pub record Step (lists : Lists) (dir : List ℕ) (mid new : CasePaths) (depth : ℕ) (name : List ℕ) (is_own : Bool) : Type 0 where
  pub path : last_path new ≡ last_path mid ++ name ∷ []
  pub folders : vec_len mid.folders ≤ depth + 1 → vec_len new.folders ≤ depth + 1
  pub kept : KeepsAbove mid new depth
  pub added : AddsName mid new depth name
  pub answer : IsOwnIn lists (fold path_join dir (last_path mid)) (folder_on mid depth) (folder_on new depth) name is_own

pub one_longer : (mid new : CasePaths) (name : List ℕ) → last_path new ≡ last_path mid ++ name ∷ [] → vec_len new.path ≡ vec_len mid.path + 1
one_longer mid new name path =
    let now : length new.path.items ≡ length mid.path.items + 1 =
    sym (length-map new.path.items string_bytes) ∙ ap length path ∙ length_push (last_path mid) name ∙ ap (λ n. n + 1) (length-map mid.path.items string_bytes) in
    omega (arith, now, mid.path.ok.0, new.path.ok.0)

module _ (lists : Lists) (dir : List ℕ) (old : CasePaths) (path : List (List ℕ)) (shared : ℕ) where
  abbrev Looked : CasePaths → ℕ → Type 0
  Looked now count = HasLookedAt lists dir old now path shared count

  -- the folders that the last path leads to beyond the first of the others are let go of
  pub starts : (new : CasePaths) (n : ℕ) → n ≡ shared + 1 → last_path new ≡ take shared path → new.folders.items ≡ take n old.folders.items
      → vec_len new.folders ≤ n → Looked new 0
  starts new n first way cut most = record {
    way = way ∙ ap (λ k. take k path) (omega arith);
    most = omega (arith, most, first);
    fewer = λ some. absurd (omega (arith, some));
    kept = λ above below. ap (λ fs. slice_get fs above) cut ∙ kept_by_take n old.folders.items above (omega (arith, below, first));
    first = λ _. ap (λ fs. slice_get fs shared) cut ∙ kept_by_take n old.folders.items shared (omega (arith, first));
    is_own = λ some. absurd (omega (arith, some));
    added = λ some. absurd (omega (arith, some));
    alone = λ depth name later below. absurd (omega (arith, later, below));
  }

  -- the folders after the first are new
  no_folder : (mid : CasePaths) (count : ℕ) → 0 < count → Looked mid count → folder_on mid (shared + count) ≡ None
  no_folder mid count some before =
      slice_get_past mid.folders.items (shared + count) (omega (arith, before.fewer some, mid.folders.ok.0))

  -- a name in the first folder
  first_own : (mid new : CasePaths) (depth : ℕ) (name first_name : List ℕ) (is_own : Bool) → depth ≡ shared → folder_on mid shared ≡ folder_on old shared
      → last_path mid ≡ take depth path → slice_get path depth ≡ Some name → Step lists dir mid new depth name is_own → slice_get path shared ≡ Some first_name
      → IsOwnIn lists (place_of dir path shared) (folder_on old shared) (folder_on new shared) first_name is_own × AddsName old new shared first_name
  first_own mid new depth name first_name is_own at same way here step first =
      let step' : Step lists dir mid new shared name is_own = subst (λ d. Step lists dir mid new d name is_own) at step in
      let way' : last_path mid ≡ take shared path = subst (λ d. last_path mid ≡ take d path) at way in
      let named : name ≡ first_name = same_Some name first_name (sym here ∙ ap (slice_get path) at ∙ first) in
      let answer : IsOwnIn lists (place_of dir path shared) (folder_on mid shared) (folder_on new shared) name is_own =
      subst (λ (w : List (List ℕ)). IsOwnIn lists (fold path_join dir w) (folder_on mid shared) (folder_on new shared) name is_own) way' step'.answer in
      subst (λ (n : List ℕ). IsOwnIn lists (place_of dir path shared) (folder_on old shared) (folder_on new shared) n is_own × AddsName old new shared n) named (
        subst (λ (f : Option CaseFolder). IsOwnIn lists (place_of dir path shared) f (folder_on new shared) name is_own) same answer,
        λ capitals. subst (λ (f : Option CaseFolder). name_in (folder_on new shared) capitals ≡ with_name name (name_in f) capitals) same (step'.added capitals),
      )

  -- what is known of the first name, once one more was looked at
  first_of_more : (mid new : CasePaths) (count : ℕ) (name first_name : List ℕ) → Looked mid count → slice_get path (shared + count) ≡ Some name
      → Step lists dir mid new (shared + count) name true → slice_get path shared ≡ Some first_name
      → IsOwnIn lists (place_of dir path shared) (folder_on old shared) (folder_on new shared) first_name true × AddsName old new shared first_name
  first_of_more mid new zero name first_name before here step first =
      first_own mid new (shared + 0) name first_name true (omega arith) (before.first refl) before.way here step first
  first_of_more mid new (suc count) name first_name before here step first =
      let stays : folder_on mid shared ≡ folder_on new shared = sym (step.kept shared (omega arith)) in (
        subst (λ (f : Option CaseFolder). IsOwnIn lists (place_of dir path shared) (folder_on old shared) f first_name true) stays
            (before.is_own (omega arith) first_name first),
        λ capitals. subst (λ (f : Option CaseFolder). name_in f capitals ≡ with_name first_name (name_in (folder_on old shared)) capitals) stays
            (before.added (omega arith) first_name first capitals),
      )

  -- a name after the first is alone in its folder
  alone_in_more : (mid new : CasePaths) (count : ℕ) (name : List ℕ) → Looked mid count → slice_get path (shared + count) ≡ Some name
      → Step lists dir mid new (shared + count) name true → (depth : ℕ) (other : List ℕ) → shared < depth → (depth < shared + count) ⊎ (depth ≡ shared + count)
      → slice_get path depth ≡ Some other → (capitals : List ℕ) → name_in (folder_on new depth) capitals ≡ with_name other (λ _. None) capitals
  alone_in_more mid new count name before here step depth other later (inl below) at capitals =
      ap (λ f. name_in f capitals) (step.kept depth below) ∙ before.alone depth other later below at capitals
  alone_in_more mid new count name before here step depth other later (inr last) at capitals =
      let named : name ≡ other = same_Some name other (sym here ∙ ap (slice_get path) (sym last) ∙ at) in
      let none : folder_on mid (shared + count) ≡ None = no_folder mid count (omega (arith, later, last)) before in
      ap (λ d. name_in (folder_on new d) capitals) last ∙ step.added capitals
      ∙ ap (λ f. with_name name (name_in f) capitals) none ∙ ap (λ n. with_name n (λ _. None) capitals) named

  step_in : (mid new : CasePaths) (depth place : ℕ) (name : List ℕ) (is_own answer : Bool) → depth ≡ place → is_own ≡ answer
      → Step lists dir mid new depth name is_own → Step lists dir mid new place name answer
  step_in mid new depth place name is_own answer at said step =
      subst (λ (b : Bool). Step lists dir mid new place name b) said (subst (λ d. Step lists dir mid new d name is_own) at step)

  -- one name more was looked at, which is its own
  pub looks_on : (mid new : CasePaths) (count depth : ℕ) (name : List ℕ) (is_own : Bool) → depth ≡ shared + count → Looked mid count
      → slice_get path depth ≡ Some name → is_own ≡ true → Step lists dir mid new depth name is_own → Looked new (count + 1)
  looks_on mid new count depth name is_own at before here_at owned step_at =
      let here : slice_get path (shared + count) ≡ Some name = subst (λ d. slice_get path d ≡ Some name) at here_at in
      let step : Step lists dir mid new (shared + count) name true = step_in mid new depth (shared + count) name is_own true at owned step_at in
      let most : vec_len new.folders ≤ shared + count + 1 = step.folders before.most in
      record {
        way = step.path ∙ ap (λ xs. xs ++ name ∷ []) before.way ∙ sym (take_next path (shared + count) name here) ∙ ap (λ k. take k path) (omega arith);
        most = omega (arith, most);
        fewer = λ _. omega (arith, most);
        kept = λ above below. step.kept above (omega (arith, below)) ∙ before.kept above below;
        first = λ none. absurd (omega (arith, none));
        is_own = λ _ first_name first. (first_of_more mid new count name first_name before here step first).0;
        added = λ _ first_name first. (first_of_more mid new count name first_name before here step first).1;
        alone = λ d other later below. alone_in_more mid new count name before here step d other later (
            elim (cases_lt d (shared + count)) [ inl above ↦ inl above | inr last ↦ inr (omega (arith, last, below)) ]);
      }

  -- ---- answers

  -- the answer is no only of the first name
  own_of_refused : (mid new : CasePaths) (count : ℕ) (name first_name : List ℕ) → Looked mid count → slice_get path (shared + count) ≡ Some name
      → Step lists dir mid new (shared + count) name false → slice_get path shared ≡ Some first_name
      → IsOwnIn lists (place_of dir path shared) (folder_on old shared) (folder_on new shared) first_name false
  own_of_refused mid new zero name first_name before here step first =
      (first_own mid new (shared + 0) name first_name false (omega arith) (before.first refl) before.way here step first).0
  own_of_refused mid new (suc count) name first_name before here step first =
      absurd (false≢true (subst (λ (f : Option CaseFolder). IsOwnIn lists (fold path_join dir (last_path mid)) f (folder_on new (shared + suc count)) name false)
      (no_folder mid (suc count) (omega arith) before) step.answer))

  pub refused : (mid new : CasePaths) (count depth : ℕ) (name : List ℕ) (is_own : Bool) → depth ≡ shared + count → AreShared (last_path old) path shared
      → Looked mid count → slice_get path depth ≡ Some name → is_own ≡ false → Step lists dir mid new depth name is_own → IsOwnPath lists dir old new path false
  refused mid new count depth name is_own at are before here_at denied step_at =
      let here : slice_get path (shared + count) ≡ Some name = subst (λ d. slice_get path d ≡ Some name) at here_at in
      let step : Step lists dir mid new (shared + count) name false = step_in mid new depth (shared + count) name is_own false at denied step_at in
      record {
        shared = shared;
        are_shared = are;
        answer = match_option (slice_get path shared) _ _ (λ first_name first. own_of_refused mid new count name first_name before here step first)
            (λ none. absurd (none-some _ (sym none ∙ slice_get-get_or path shared name (omega (arith, slice_get_within path (shared + count) name here)))));
      }

  module _ (new : CasePaths) (count : ℕ) (looked : Looked new count) (all : length path ≤ shared + count) (are : AreShared (last_path old) path shared) where
    within : (name : List ℕ) → slice_get path shared ≡ Some name → 0 < count
    within name first = omega (arith, all, slice_get_within path shared name first)

    pub all_own : IsOwnPath lists dir old new path true
    all_own = record {
      shared = shared;
      are_shared = are;
      answer = match_option (slice_get path shared) _ _ (λ name first. looked.is_own (within name first) name first) (λ _. refl);
    }

    pub goes : GoesTo old new path
    goes = record {
      is_last = looked.way ∙ take_whole (shared + count) path all;
      shared = shared;
      are_shared = are;
      kept = looked.kept;
      added = λ name first. looked.added (within name first) name first;
      alone = λ depth name later here. looked.alone depth name later (omega (arith, all, slice_get_within path depth name here)) here;
    }

-- ---- a name that is another's

pub another : (lists : Lists) (dir : List ℕ) (old new : CasePaths) (path : List (List ℕ)) → IsOwnPath lists dir old new path false → HasNameOfAnother old new path
another lists dir old new path is =
    on_match (slice_get path is.shared) (false ≡ true) _ (HasNameOfAnother old new path) is.answer (λ bad. absurd (false≢true bad)) (λ name here own.
    on_match (name_in (folder_on old is.shared) (str_to_uppercase name)) (false ≡ true) _ (HasNameOfAnother old new path) own
    (λ bad. absurd (false≢true bad)) (λ twin alike beside. record {
      depth = is.shared;
      way = is.are_shared.same;
      name = name;
      here = here;
      twin = twin;
      alike = alike;
      listing = beside.listing;
      held = beside.held;
      lacks = sym beside.both;
    }))
