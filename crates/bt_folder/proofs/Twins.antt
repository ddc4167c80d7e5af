-- Names of the folders on a path that are one with another but for case.
use Rattle.std.proofs.Common.{◌≡◌, ℕ, zero, suc, ◌+◌, ◌-◌, ◌<◌, ◌≤◌, ◌≢◌, Bool, true, false, List, [], ◌∷◌, ◌++◌, length, map, take, drop, get_or, Some, None, String, Global, sym, ap, ◌∙◌, string_bytes, bytes_eq, arith, length-drop}
use Rattle.std.specs.Prelude.{slice_get}
use Rattle.std.specs.Borrow.{Bor}
use Rattle.std.specs.Option.{option_map}
use Rattle.std.proofs.lemmas.Bool.{false≢true}
use Rattle.std.proofs.lemmas.List.{get_or-drop, get_or-take, length-map, length-take-le, map_more}
use Rattle.std.proofs.lemmas.Option.{none-some, slice_get-get_or, slice_get-map, slice_get_past, same_Some}
use Rattle.std.proofs.lemmas.Slice.Eq.{bytes_eq-Decides}
use Rattle.bt_folder.specs.CasePaths.{texts}

-- ---- elements of a path

text_at : (elements : List (Bor (List ℕ))) (i : ℕ) (d : Bor (List ℕ)) → i < length elements → slice_get (texts elements) i ≡ Some (get_or elements i d).now
text_at elements i d inside =
    slice_get-map (λ (e : Bor (List ℕ)). e.now) elements i ∙ ap (option_map (λ (e : Bor (List ℕ)). e.now)) (slice_get-get_or elements i d inside)

-- one more element that two paths begin with
pub shared_more : (items : List (String Global)) (elements : List (Bor (List ℕ))) (i : ℕ) (last : String Global) (d : Bor (List ℕ)) (r : Bool) (text : List ℕ)
    → i < length items → i < length elements → last ≡ get_or items i last → r ≡ bytes_eq text (get_or elements i d).now → r ≡ true
    → text ≡ string_bytes last → map string_bytes (take i items) ≡ texts (take i elements)
    → map string_bytes (take (i + 1) items) ≡ texts (take (i + 1) elements)
shared_more items elements i last d r text in_items in_elements at tested equal named same =
    let one : string_bytes (get_or items i last) ≡ (get_or elements i d).now =
    ap string_bytes (sym at) ∙ sym named ∙ (bytes_eq-Decides text (get_or elements i d).now).0 (sym tested ∙ equal) in
    map_more string_bytes items i last in_items ∙ ap (λ xs. xs ++ string_bytes (get_or items i last) ∷ []) same
    ∙ ap (λ x. texts (take i elements) ++ x ∷ []) one ∙ sym (map_more (λ (e : Bor (List ℕ)). e.now) elements i d in_elements)

some_at : {X : Type 0} (xs : List X) (i : ℕ) → i < length xs → slice_get xs i ≢ None
some_at [] i inside none = absurd (omega (arith, inside))
some_at (x ∷ xs) zero inside none = none-some x (sym none)
some_at (x ∷ xs) (suc i) inside none = some_at xs i (omega (arith, inside)) none

-- no element more that two paths begin with: the last one has another, or none
pub shared_ends : (items : List (String Global)) (elements : List (Bor (List ℕ))) (i : ℕ) (last : String Global) (d : Bor (List ℕ)) (r : Bool) (text : List ℕ)
    → i < length items → i < length elements → last ≡ get_or items i last → r ≡ bytes_eq text (get_or elements i d).now → r ≡ false
    → text ≡ string_bytes last → slice_get (map string_bytes items) i ≢ slice_get (texts elements) i
shared_ends items elements i last d r text in_items in_elements at tested differs named same =
    let one : string_bytes last ≡ (get_or elements i d).now =
    same_Some _ _ (ap (λ s. Some (string_bytes s)) at ∙ sym (slice_get-map string_bytes items i ∙ ap (option_map string_bytes) (slice_get-get_or items i last in_items))
    ∙ same ∙ text_at elements i d in_elements) in
    false≢true (sym differs ∙ tested ∙ (bytes_eq-Decides text (get_or elements i d).now).1 (named ∙ one))

pub shared_all : (items : List (String Global)) (elements : List (Bor (List ℕ))) (i : ℕ) → length items ≤ i → i < length elements
    → slice_get (map string_bytes items) i ≢ slice_get (texts elements) i
shared_all items elements i past inside same =
    some_at (texts elements) i (omega (arith, inside, length-map elements (λ (e : Bor (List ℕ)). e.now)))
    (sym same ∙ slice_get-map string_bytes items i ∙ ap (option_map string_bytes) (slice_get_past items i past))

pub rest_length : (elements : List (Bor (List ℕ))) (shared : ℕ) → length (take (length elements - shared) (drop shared elements)) ≡ length elements - shared
rest_length elements shared =
    let rest : length (drop shared elements) ≡ length elements - shared = length-drop shared elements in
    length-take-le (length elements - shared) (drop shared elements) (omega (arith, rest))

-- an element after those that are shared
pub element_at : (elements : List (Bor (List ℕ))) (shared i depth : ℕ) (d : Bor (List ℕ)) → depth ≡ shared + i → i < length elements - shared
    → slice_get (texts elements) depth ≡ Some (get_or (take (length elements - shared) (drop shared elements)) i d).now
element_at elements shared i depth d at inside =
    ap (slice_get (texts elements)) at ∙ slice_get-map (λ (e : Bor (List ℕ)). e.now) elements (shared + i)
    ∙ ap (option_map (λ (e : Bor (List ℕ)). e.now)) (slice_get-get_or elements (shared + i) d (omega arith))
    ∙ ap (λ (e : Bor (List ℕ)). Some e.now)
    (sym (get_or-take (length elements - shared) (drop shared elements) i d inside ∙ get_or-drop shared elements i d))
