-- Lines that were read, byte by byte.
use Rattle.std.proofs.Common.{◌≡◌, ◌≢◌, ℕ, ◌++◌, List, [], ◌∷◌, length, refl, sym, ap, subst, ◌∙◌, append-nil, append_assoc, arith}
use Rattle.std.specs.List.{All, AllZip, flat_map}
use Rattle.std.proofs.lemmas.Grind.{flat_map-append}
use Rattle.std.proofs.lemmas.List.Elements.{All-nil, All-push}
use Rattle.bt_parts.specs.Line.{IsRunLine}
use Rattle.bt_parts.specs.declared.run.Run.{Run}
use Rattle.bt_jobs.specs.Told.{IsToldBy, IsWhollyToldBy, ended}
use Rattle.bt_jobs.specs.declared.told.Told.{Told}
use Rattle.bt_jobs.proofs.Plans.{zip_push}

-- the byte ends no line
abbrev IsOfLine : ℕ → Type 0
IsOfLine byte = byte ≢ 10

-- nothing was read
pub told_begun : (told : Told) → told.rest.items ≡ [] → told.runs.items ≡ [] → IsToldBy [] told
told_begun told rest runs = record {
  lines = [];
  parted = sym rest;
  tell = subst (AllZip IsRunLine []) (sym runs) tt;
  unended = subst (All IsOfLine) (sym rest) (All-nil IsOfLine);
}

-- a byte of a line
pub told_more : (text : List ℕ) (old new : Told) (byte : ℕ) → IsToldBy text old → byte ≢ 10 → new.rest.items ≡ old.rest.items ++ byte ∷ []
    → new.runs.items ≡ old.runs.items → IsToldBy (text ++ byte ∷ []) new
told_more text old new byte is own rest runs = record {
  lines = is.lines;
  parted = ap (λ t. t ++ byte ∷ []) is.parted ∙ append_assoc (flat_map ended is.lines) old.rest.items (byte ∷ [])
      ∙ ap (λ r. flat_map ended is.lines ++ r) (sym rest);
  tell = subst (AllZip IsRunLine is.lines) (sym runs) is.tell;
  unended = subst (All IsOfLine) (sym rest) (All-push IsOfLine old.rest.items byte is.unended own);
}

-- a line's end
pub told_line : (text : List ℕ) (old new : Told) (byte : ℕ) (run : Run) → IsToldBy text old → byte ≡ 10 → IsRunLine old.rest.items run → new.rest.items ≡ []
    → new.runs.items ≡ old.runs.items ++ run ∷ [] → IsToldBy (text ++ byte ∷ []) new
told_line text old new byte run is feed tells rest runs =
    let line : List ℕ = old.rest.items in
    let all : flat_map ended (is.lines ++ line ∷ []) ≡ flat_map ended is.lines ++ ended line =
    flat_map-append ended is.lines (line ∷ []) ∙ ap (λ l. flat_map ended is.lines ++ l) (append-nil (ended line)) in
    record {
      lines = is.lines ++ line ∷ [];
      parted = ap (λ t. t ++ byte ∷ []) is.parted ∙ append_assoc (flat_map ended is.lines) line (byte ∷ [])
          ∙ ap (λ b. flat_map ended is.lines ++ (line ++ b ∷ [])) feed ∙ sym all
          ∙ sym (append-nil (flat_map ended (is.lines ++ line ∷ []))) ∙ ap (λ r. flat_map ended (is.lines ++ line ∷ []) ++ r) (sym rest);
      tell = subst (AllZip IsRunLine (is.lines ++ line ∷ [])) (sym runs) (zip_push IsRunLine is.lines old.runs.items line run is.tell tells);
      unended = subst (All IsOfLine) (sym rest) (All-nil IsOfLine);
    }

-- nothing of a line is left
none_is : (xs : List ℕ) → length xs ≡ 0 → xs ≡ []
none_is [] e = refl
none_is (x ∷ xs) e = absurd (omega (arith, e))

pub told_wholly : (text : List ℕ) (told : Told) → IsToldBy text told → length told.rest.items ≡ 0 → IsWhollyToldBy text told.runs.items
told_wholly text told is rest = record {
  lines = is.lines;
  parted = is.parted ∙ ap (λ r. flat_map ended is.lines ++ r) (none_is told.rest.items rest) ∙ append-nil (flat_map ended is.lines);
  tell = is.tell;
}
