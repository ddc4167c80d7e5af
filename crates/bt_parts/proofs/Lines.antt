-- The line of a run is read back.
use Rattle.std.proofs.Common.{◌≡◌, ℕ, ◌^◌, ◌<◌, ◌≤◌, false, List, [], ◌∷◌, ◌++◌, append_assoc, get_or, arith, refl, sym, ap, subst, ◌∙◌, codes}
use Rattle.std.specs.Prelude.{◌==◌, OnOk, Result}
use Rattle.std.specs.Fmt.{decimal}
use Rattle.std.specs.List.{All}
use Rattle.std.proofs.lemmas.Bool.Decides.{nat_tests}
use Rattle.std.proofs.lemmas.Fmt.{decimal_is_IsNumeral}
use Rattle.std.proofs.lemmas.List.Elements.{All-from_get_or}
use Rattle.std.proofs.lemmas.List.Splits.{slice_split_at}
use Rattle.std.proofs.lemmas.Str.Parse.{digit_at}
use Rattle.bt_parts.specs.Field.{IsNumber, fields_of}
use Rattle.bt_parts.specs.Law.{LinesAreReadBack}
use Rattle.bt_parts.specs.Line.{run_line, word_text}
use Rattle.bt_parts.specs.declared.run.Met.{Met}
use Rattle.bt_parts.specs.declared.run.Met.TheVariants.{Nothing, Absent, Longer, Unmeasured, Unread}
use Rattle.bt_parts.specs.declared.run.Run.{Run}

other : (byte : ℕ) → 48 ≤ byte → (byte == 32) ≡ false
other byte low = grind (arith, nat_tests)

number : (n : ℕ) → n < 2 ^ 32 → IsNumber (decimal n) n
number n small =
    let is = decimal_is_IsNumeral n (omega (arith, small)) in
    record { digits = is.0; value = sym is.1; fits = small }

digits_alone : (n : ℕ) → n < 2 ^ 32 → All (λ byte. (byte == 32) ≡ false) (decimal n)
digits_alone n small = All-from_get_or (λ byte. (byte == 32) ≡ false) (decimal n) 0 (λ i below.
    other (get_or (decimal n) i 0) (omega (arith, (digit_at (decimal n) i (number n small).digits.1 below).0)))

-- a number, and what stands after the space that ends it
pub after_number : (n : ℕ) (rest : List ℕ) → n < 2 ^ 32 → fields_of (decimal n ++ 32 ∷ rest) ≡ decimal n ∷ fields_of rest
after_number n rest small = slice_split_at (λ byte. byte == 32) (decimal n) 32 rest (digits_alone n small) refl

word_alone : (met : Met) → fields_of (word_text met ++ []) ≡ word_text met ∷ []
word_alone Nothing = refl
word_alone Absent = refl
word_alone Longer = refl
word_alone Unmeasured = refl
word_alone Unread = refl

-- the fields of a line, each after those before it
nested : (a b c d e end : List ℕ)
    → a ++ codes " " ++ b ++ codes " " ++ c ++ codes " " ++ d ++ codes " " ++ e ++ end
    ≡ a ++ (32 ∷ (b ++ (32 ∷ (c ++ (32 ∷ (d ++ (32 ∷ (e ++ end))))))))
nested a b c d e end =
    let s : List ℕ = 32 ∷ [] in
    let e_end : List ℕ = e ++ end in
    let d_end : List ℕ = d ++ (32 ∷ e_end) in
    let c_end : List ℕ = c ++ (32 ∷ d_end) in
    let b_end : List ℕ = b ++ (32 ∷ c_end) in
    append_assoc (a ++ s ++ b ++ s ++ c ++ s ++ d ++ s) e end
    ∙ append_assoc (a ++ s ++ b ++ s ++ c ++ s ++ d) s e_end
    ∙ append_assoc (a ++ s ++ b ++ s ++ c ++ s) d (32 ∷ e_end)
    ∙ append_assoc (a ++ s ++ b ++ s ++ c) s d_end
    ∙ append_assoc (a ++ s ++ b ++ s) c (32 ∷ d_end)
    ∙ append_assoc (a ++ s ++ b) s c_end
    ∙ append_assoc (a ++ s) b (32 ∷ c_end)
    ∙ append_assoc a s b_end

pub read_back : LinesAreReadBack
read_back run small =
    let word : List ℕ = word_text run.met ++ [] in
    let right : List ℕ = decimal run.marked ++ (32 ∷ word) in
    let last : List ℕ = decimal run.to ++ (32 ∷ right) in
    let first : List ℕ = decimal run.from ++ (32 ∷ last) in
    record {
      file = decimal run.file;
      first = decimal run.from;
      last = decimal run.to;
      right = decimal run.marked;
      fields = ap fields_of (nested (decimal run.file) (decimal run.from) (decimal run.to) (decimal run.marked) (word_text run.met) [])
          ∙ after_number run.file first small.file
          ∙ ap (λ l. decimal run.file ∷ l) (after_number run.from last small.first
          ∙ ap (λ l. decimal run.from ∷ l) (after_number run.to right small.last
          ∙ ap (λ l. decimal run.to ∷ l) (after_number run.marked word small.right
          ∙ ap (λ l. decimal run.marked ∷ l) (word_alone run.met))));
      file_number = number run.file small.file;
      first_number = number run.from small.first;
      last_number = number run.to small.last;
      right_number = number run.marked small.right;
    }

-- the line is written with this word for what was met
pub written : {T E : Type 0} (r : Result T E) (old new word : List ℕ) (run : Run) → word ≡ word_text run.met
    → OnOk r (new ≡ old ++ (decimal run.file ++ (32 ∷ (decimal run.from ++ (32 ∷ (decimal run.to ++ (32 ∷ (decimal run.marked ++ (32 ∷ (word ++ 10 ∷ []))))))))))
    → OnOk r (new ≡ old ++ run_line run)
written r old new word run is put =
    let line = nested (decimal run.file) (decimal run.from) (decimal run.to) (decimal run.marked) word (10 ∷ []) in
    subst (λ w. OnOk r (new ≡ old ++ line_with w run)) is (subst (λ (l : List ℕ). OnOk r (new ≡ old ++ l)) (sym line) put)
  where
    line_with : List ℕ → Run → List ℕ
    line_with w run = decimal run.file ++ codes " " ++ decimal run.from ++ codes " " ++ decimal run.to ++ codes " "
        ++ decimal run.marked ++ codes " " ++ w ++ 10 ∷ []
