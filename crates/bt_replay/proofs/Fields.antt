-- Lemmas on the fields of a line.
use Rattle.std.proofs.Common.{[], ◌≡◌, ℕ, true, List, ◌∷◌, Option, Some, None, Result, Ok, Err, OnErr, length, sym, ap, subst, ◌∙◌, arith}
use Rattle.std.specs.Prelude.{◌==◌, is_some, IfNone}
use Rattle.std.specs.Borrow.{Bor}
use Rattle.std.proofs.lemmas.List.Splits.{length-slice_split}
use Rattle.bt_replay.specs.Field.{fields_in, parts_of}
use Rattle.bt_replay.specs.Line.{IsBytes, IsPeerAndBytes}
use Rattle.bt_book.specs.declared.names.PeerKey.{PeerKey}

-- ---- options

pub none_holds : {A P : Type 0} (r : Option A) → IfNone r P → r ≡ None → P
none_holds {A} {P} r h e = let Q : Option A → Type 0 = λ r. IfNone r P in subst Q e h

pub none_always : {A P : Type 0} (r : Option A) → P → IfNone r P
none_always None p = p
none_always (Some x) p = tt

pub err_always : {A E P : Type 0} (r : Result A E) → P → OnErr r P
err_always (Ok x) p = tt
err_always (Err e) p = p

-- ---- fields

abbrev tail_of : List (List ℕ) → List (List ℕ)
tail_of [] = []
tail_of (x ∷ xs) = xs

pub some_parts : (text : List ℕ) → parts_of 32 text ≡ [] → ⊥
some_parts text e =
    let count = length-slice_split (λ byte. byte == 32) text in
    let none : length (parts_of 32 text) ≡ 0 = ap length e in
    omega (arith, count, none)

-- what stands after a first field is what stands after it
pub same_rest : (first second : List ℕ) (rest more fields : List (List ℕ)) → fields ≡ first ∷ rest
    → fields ≡ second ∷ more → rest ≡ more
same_rest first second rest more fields a b = ap tail_of (sym a ∙ b)

pub more_follow : (rest : Option (Bor (List ℕ))) → is_some rest ≡ true → fields_in rest ≡ [] → ⊥
more_follow None some e = cc
more_follow (Some text) some e = some_parts text.now e

pub no_bytes_follow : (first : List ℕ) (rest fields : List (List ℕ)) (key : PeerKey) (bytes : List ℕ)
    → fields ≡ first ∷ rest → (IsBytes rest bytes → ⊥) → IsPeerAndBytes fields key bytes → ⊥
no_bytes_follow first rest fields key bytes is none h =
    none (subst (λ r. IsBytes r bytes) (sym (same_rest first h.field rest h.rest fields is h.both)) h.bytes_follow)
