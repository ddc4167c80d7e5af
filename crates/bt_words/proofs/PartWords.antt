-- Lemmas on words that name parts.
use Rattle.std.proofs.Common.{◌≡◌, ◌≢◌, ℕ, ◌+◌, ◌<◌, ◌≤◌, ◌==◌, ◌++◌, take, drop, take-append-drop, List, [], ◌∷◌, length, get_or, Option, None, Some, IfNone, refl, sym, ap, subst, ◌∙◌, arith, length-append}
use Rattle.std.proofs.Math.Seq.{get_or-append_seam}
use Rattle.std.proofs.lemmas.Str.Parse.{digit_at}
use Rattle.std.proofs.lemmas.Str.Pattern.{NoCharPasses-char, drop_at_char}
use Rattle.std.specs.Str.{NoCharPasses}
use Rattle.std.specs.Str.Parse.{digits_value}
use Rattle.std.specs.Str.Pattern.{HasCharAt}
use Rattle.bt_parts.specs.declared.cut.Part.{Part}
use Rattle.bt_parts.specs.declared.cut.TheConstants.{MAX_PARTS}
use Rattle.bt_words.specs.Values.{IsNumber, IsPartWord}

pub none_then : {X : Type 0} (o : Option X) (P Q : Type 0) → (P → Q) → IfNone o P → IfNone o Q
none_then None P Q f given = f given
none_then (Some x) P Q f given = tt

-- no byte is a slash
abbrev pub HasNoSlash : List ℕ → Type 0
HasNoSlash text = (i : ℕ) → i < length text → get_or text i 0 ≢ 47

digits_have_none : (digits : List ℕ) (n : ℕ) → IsNumber 32 digits n → HasNoSlash digits
digits_have_none digits n is = λ i below slash. let digit = digit_at digits i is.digits.1 below in absurd (omega (arith, digit.0, digit.1, slash))

has_one : (text front back : List ℕ) → text ≡ front ++ 47 ∷ back → ¬ HasNoSlash text
has_one text front back spelled none =
    let long : length text ≡ length front + length (47 ∷ back) = ap length spelled ∙ length-append front (47 ∷ back) in
    let here : get_or text (length front) 0 ≡ 47 = ap (λ t. get_or t (length front) 0) spelled ∙ get_or-append_seam front 47 back 0 in
    none (length front) (omega arith) here

-- a word has one last slash
same_parts : (a x b y : List ℕ) → a ++ 47 ∷ x ≡ b ++ 47 ∷ y → HasNoSlash x → HasNoSlash y → (a ≡ b) × (x ≡ y)
same_parts [] x [] y e none_x none_y = let tails : x ≡ y = cc in (refl, tails)
same_parts [] x (d ∷ b) y e none_x none_y = let tails : x ≡ b ++ 47 ∷ y = cc in absurd (has_one x b y tails none_x)
same_parts (c ∷ a) x [] y e none_x none_y = let tails : y ≡ a ++ 47 ∷ x = cc in absurd (has_one y a x tails none_y)
same_parts (c ∷ a) x (d ∷ b) y e none_x none_y =
    let heads : c ≡ d = cc in
    let tails : a ++ 47 ∷ x ≡ b ++ 47 ∷ y = cc in
    let rest = same_parts a x b y tails none_x none_y in
    (ap (λ h. h ∷ a) heads ∙ ap (λ t. d ∷ t) rest.0, rest.1)

pub no_slash : (word : List ℕ) → HasNoSlash word → (part : Part) → ¬ IsPartWord word part
no_slash word none part is = has_one word is.first is.second is.spelled none

module _ (word first second : List ℕ) (spelled : word ≡ first ++ 47 ∷ second) (lacks : HasNoSlash second) where
  parts_are : (part : Part) (is : IsPartWord word part) → (first ≡ is.first) × (second ≡ is.second)
  parts_are part is = same_parts first second is.first is.second (sym spelled ∙ is.spelled) lacks (digits_have_none is.second part.count is.count)

  pub no_index : ((n : ℕ) → ¬ IsNumber 32 first n) → (part : Part) → ¬ IsPartWord word part
  no_index none part is = none part.index (subst (λ t. IsNumber 32 t part.index) (sym (parts_are part is).0) is.index)

  pub no_count : ((n : ℕ) → ¬ IsNumber 32 second n) → (part : Part) → ¬ IsPartWord word part
  no_count none part is = none part.count (subst (λ t. IsNumber 32 t part.count) (sym (parts_are part is).1) is.count)

  -- two numbers that are those of no part
  pub no_part : (index count : ℕ) → IsNumber 32 first index → IsNumber 32 second count → (index < count → ¬ (count ≤ MAX_PARTS)) → (part : Part)
      → ¬ IsPartWord word part
  no_part index count index_is count_is none part is =
      let same = parts_are part is in
      let at : index ≡ part.index = index_is.value ∙ ap (digits_value 10) same.0 ∙ sym is.index.value in
      let of : count ≡ part.count = count_is.value ∙ ap (digits_value 10) same.1 ∙ sym is.count.value in
      none (omega (arith, at, of, part.inside)) (omega (arith, of, part.few))

-- what `rsplit_once` says of a word, by its bytes
pub cut_at : (word first second : List ℕ) (i j : ℕ) → NoCharPasses (λ d. d == 47) (drop j word) → HasCharAt 47 word i j → first ≡ take i word
    → second ≡ drop j word → (word ≡ first ++ 47 ∷ second) × HasNoSlash second
cut_at word first second i j none at front back = (
  sym (take-append-drop i word) ∙ ap (λ t. take i word ++ t) (drop_at_char 47 word i j at (omega arith)) ∙ ap (λ t. take i word ++ 47 ∷ t) (sym back)
      ∙ ap (λ t. t ++ 47 ∷ second) (sym front),
  λ k below. NoCharPasses-char 47 second k (subst (NoCharPasses (λ d. d == 47)) (sym back) none) (omega arith) below,
)

pub uncut : (word : List ℕ) → NoCharPasses (λ d. d == 47) word → HasNoSlash word
uncut word none = λ k below. NoCharPasses-char 47 word k none (omega arith) below
