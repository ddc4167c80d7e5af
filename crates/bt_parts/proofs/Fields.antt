-- Lemmas on the fields of a line.
use Rattle.std.proofs.Common.{[], ◌≡◌, ℕ, true, List, ◌∷◌, Option, Some, None, length, sym, ap, ◌∙◌, arith}
use Rattle.std.specs.Prelude.{◌==◌, is_some}
use Rattle.std.specs.Borrow.{Bor}
use Rattle.std.proofs.lemmas.List.Splits.{length-slice_split}
use Rattle.bt_parts.specs.Field.{fields_in, fields_of}

abbrev tail_of : List (List ℕ) → List (List ℕ)
tail_of [] = []
tail_of (x ∷ xs) = xs

pub some_fields : (text : List ℕ) → fields_of text ≡ [] → ⊥
some_fields text e =
    let count = length-slice_split (λ byte. byte == 32) text in
    let none : length (fields_of text) ≡ 0 = ap length e in
    omega (arith, count, none)

-- one list has one rest after its first field
pub same_rest : (first second : List ℕ) (rest more fields : List (List ℕ)) → fields ≡ first ∷ rest
    → fields ≡ second ∷ more → rest ≡ more
same_rest first second rest more fields a b = ap tail_of (sym a ∙ b)

pub more_follow : (rest : Option (Bor (List ℕ))) → is_some rest ≡ true → fields_in rest ≡ [] → ⊥
more_follow None some e = cc
more_follow (Some text) some e = some_fields text.now e
