-- How long spellings are, and which part of a dictionary's spelling is that of a value.
use Rattle.bt_bencode.proofs.Base.{◌≡◌, ℕ, ◌+◌, ◌-◌, ◌^◌, ◌<◌, ◌≤◌, List, [], ◌∷◌, ◌++◌, length, drop, get_or, refl, sym, ap, ◌∙◌, arith, append_assoc, length-append, length-drop, drop-drop, drop_more, take-append_seam, drop-append_seam, slice_range, decimal, Vec, Value, data_of, items_of, entries_of, string_spelling, spelling_of}
use Rattle.std.proofs.Common.{◌/◌, Some, true, false, nat_eq}
use Rattle.std.specs.Cmp.Lexicographic.{pointwise}
use Rattle.bt_bencode.specs.Dictionary.{first_value_of}
use Rattle.std.proofs.lemmas.Fmt.{decimal_digit, decimal_step, length-decimal-le_succ}
use Rattle.bt_bencode.specs.Spelling.{items_spelling, entries_spelling}

-- ---- numbers

pub one_digit : (n : ℕ) → n < 10 → length (decimal n) ≡ 1
one_digit n small = ap length (decimal_digit n small)

pub digit_more : (n : ℕ) → 10 ≤ n → n < 2 ^ 64 → length (decimal n) ≡ length (decimal (n / 10)) + 1
digit_more n some fits = ap length (decimal_step n some fits) ∙ length-append (decimal (n / 10)) _

pub few_digits : (n : ℕ) → n < 2 ^ 64 → length (decimal n) ≤ n + 1
few_digits = length-decimal-le_succ

-- ---- the parts of a list and of a dictionary, one by one

pub item_next : (vs : List Value) (i : ℕ) (v : Value) → i < length vs → v ≡ get_or vs i v
    → length (items_spelling (items_of (drop i vs))) ≡ length (spelling_of (data_of v)) + length (items_spelling (items_of (drop (i + 1) vs)))
unfolding items_spelling
item_next vs i v lt is = rw (drop_more vs i v lt, ← is) (length-append (spelling_of (data_of v)) _)

pub entry_left : (es : List (Vec ℕ × Value)) (i : ℕ) (e : Vec ℕ × Value) → i < length es → e ≡ get_or es i e
    → entries_spelling (entries_of (drop i es))
    ≡ string_spelling e.0.items ++ (spelling_of (data_of e.1) ++ entries_spelling (entries_of (drop (i + 1) es)))
unfolding entries_spelling
entry_left es i e lt is = rw (drop_more es i e lt, ← is) (append_assoc (string_spelling e.0.items) (spelling_of (data_of e.1)) _)

pub entry_next : (es : List (Vec ℕ × Value)) (i : ℕ) (e : Vec ℕ × Value) → i < length es → e ≡ get_or es i e
    → length (entries_spelling (entries_of (drop i es)))
    ≡ length (string_spelling e.0.items) + length (spelling_of (data_of e.1)) + length (entries_spelling (entries_of (drop (i + 1) es)))
entry_next es i e lt is =
    let rest = entries_spelling (entries_of (drop (i + 1) es)) in
    omega (
      arith,
      ap length (entry_left es i e lt is),
      length-append (string_spelling e.0.items) (spelling_of (data_of e.1) ++ rest),
      length-append (spelling_of (data_of e.1)) rest,
    )

-- ---- the value of a key, entry by entry

pub value_here : (es : List (Vec ℕ × Value)) (i : ℕ) (e : Vec ℕ × Value) (key : List ℕ) → i < length es → e ≡ get_or es i e
    → pointwise nat_eq e.0.items key ≡ true → first_value_of (entries_of (drop i es)) key ≡ Some (data_of e.1)
value_here es i e key lt is same = rw (drop_more es i e lt, ← is, same) refl

pub value_later : (es : List (Vec ℕ × Value)) (i : ℕ) (e : Vec ℕ × Value) (key : List ℕ) → i < length es → e ≡ get_or es i e
    → pointwise nat_eq e.0.items key ≡ false → first_value_of (entries_of (drop i es)) key ≡ first_value_of (entries_of (drop (i + 1) es)) key
value_later es i e key lt is other = rw (drop_more es i e lt, ← is, other) refl

-- ---- a part of a text

pub part_first : (text a b : List ℕ) (at : ℕ) → drop at text ≡ a ++ b → slice_range text at (at + length a) ≡ a
part_first text a b at e = let size : at + length a - at ≡ length a = omega arith in rw (size, e) (take-append_seam a b)

pub part_behind : (text a b : List ℕ) (at : ℕ) → drop at text ≡ a ++ b → drop (at + length a) text ≡ b
part_behind text a b at e = sym (drop-drop (length a) at text) ∙ ap (λ l. drop (length a) l) e ∙ drop-append_seam a b

-- before the byte that ends a dictionary
pub record IsEntryAt (text : List ℕ) (at : ℕ) (key value rest : List ℕ) : Type 0 where
  pub parts : drop at text ≡ key ++ (value ++ (rest ++ 101 ∷ []))

pub entry_at : (es : List (Vec ℕ × Value)) (i : ℕ) (e : Vec ℕ × Value) (text : List ℕ) (at : ℕ) → i < length es → e ≡ get_or es i e
    → drop at text ≡ entries_spelling (entries_of (drop i es)) ++ 101 ∷ []
    → IsEntryAt text at (string_spelling e.0.items) (spelling_of (data_of e.1)) (entries_spelling (entries_of (drop (i + 1) es)))
entry_at es i e text at lt is left = record {
  parts = left ∙ rw (entry_left es i e lt is) (append_assoc (string_spelling e.0.items) _ _ ∙ ap (λ l. string_spelling e.0.items ++ l) (append_assoc (spelling_of (data_of e.1)) _ _));
}

module _ {text : List ℕ} {at : ℕ} {key value rest : List ℕ} (h : IsEntryAt text at key value rest) where
  pub entry_fits : at + length key + length value + length rest + 1 ≡ length text
  entry_fits =
      omega (
        arith,
        ap length h.parts,
        length-drop at text,
        length-append key (value ++ (rest ++ 101 ∷ [])),
        length-append value (rest ++ 101 ∷ []),
        length-append rest (101 ∷ []),
      )

  pub value_text : slice_range text (at + length key) (at + length key + length value) ≡ value
  value_text = part_first text value _ (at + length key) (part_behind text key _ at h.parts)

  pub rest_text : drop (at + length key + length value) text ≡ rest ++ 101 ∷ []
  rest_text = part_behind text value _ (at + length key) (part_behind text key _ at h.parts)
