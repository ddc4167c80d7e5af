-- What is taken from the front of bytes: hints one after the other, and texts.
use Rattle.std.proofs.Common.{◌≡◌, ℕ, ◌+◌, ◌≤◌, List, [], ◌∷◌, ◌++◌, length, take, drop, All, refl, sym, ap, ◌∙◌, subst, arith}
use Rattle.std.proofs.Math.Seq.{take-add}
use Rattle.std.proofs.lemmas.List.{drop-drop, length-append, length-take, length-drop}
use Rattle.std.proofs.lemmas.List.Elements.{All-push}
use Rattle.bt_sparse.specs.Answer.{answer_size}
use Rattle.bt_hashreq.specs.declared.key.HashKey.{HashKey}
use Rattle.bt_hashreq.specs.Key.{key_spelling}
use Rattle.bt_hashreq.specs.Claim.{HasShape, max_digests}
use Rattle.bt_resume.specs.declared.hint.Format.{Format}
use Rattle.bt_resume.specs.declared.hint.Format.TheVariants.{One, Two}
use Rattle.bt_resume.specs.declared.hint.Hint.{Hint}
use Rattle.bt_resume.specs.declared.hint.Hint.TheVariants.{Proof, Marks}
use Rattle.bt_resume.specs.Limits.{max_hint_length}
use Rattle.bt_resume.specs.Hint.{joined, hint_spelling, hints_spelling, IsHint}
use Rattle.bt_resume.specs.LogText.{LogText, of_one, of_two, renewed, hints_in, format_of, EndsIn}
use Rattle.bt_resume.specs.Reader.{IsFirst, AreFirst, IsTaken, IsRenewed}
use Rattle.bt_resume.specs.OneSpelling.{key_size, joined_length, hint_is_some}
use Rattle.bt_resume.proofs.Texts.{spelling_push}

-- these hints begin the bytes, spelled by this many of them
pub record AreFront (format : Format) (bytes : List ℕ) (hints : List Hint) (used : ℕ) : Type 0 where
  pub lawful : All (IsHint format) hints
  pub size : used ≡ length (hints_spelling format hints)
  pub spelled : take used bytes ≡ hints_spelling format hints
  pub inside : used ≤ length bytes

-- a key with a shape names no more digests
few_digests : (k : HashKey) → HasShape k → answer_size k.length k.layers ≤ max_digests
few_digests k shape = omega (arith, shape.run.limit, shape.layers)

pub hint_is_short : (f : Format) (h : Hint) → IsHint f h → length (hint_spelling f h) ≤ max_hint_length
hint_is_short One (Marks f b n) is = omega arith
hint_is_short Two (Marks f b n) is = omega arith
hint_is_short format (Proof k ds) is =
    omega (arith, length-append (key_spelling k) (joined ds), key_size k is.typed.0, joined_length ds is.typed.1, is.readable.1, few_digests k is.readable.0)

pub front_more : (f : Format) (bytes : List ℕ) (hints : List Hint) (used : ℕ) (hint : Hint) (len : ℕ) → AreFront f bytes hints used → IsFirst f (drop used bytes) hint len
    → AreFront f bytes (hints ++ hint ∷ []) (used + len)
front_more f bytes hints used hint len front first =
    let same = spelling_push f hints hint in
    let size : length (take len (drop used bytes)) ≡ len = ap length first.spelled ∙ sym first.size in
    record {
      lawful = All-push (IsHint f) hints hint front.lawful first.is_hint;
      size = omega (arith, ap length same, length-append (hints_spelling f hints) (hint_spelling f hint), front.size, first.size);
      spelled = take-add used len bytes ∙ ap (λ l. l ++ take len (drop used bytes)) front.spelled ∙ ap (λ l. hints_spelling f hints ++ l) first.spelled ∙ sym same;
      inside = omega (arith, size, front.inside, length-take len (drop used bytes), length-drop used bytes, first.size, hint_is_some f hint first.is_hint);
    }

-- ---- texts

-- a text that is taken, with its hints and the format of its end
pub record IsTakenWith (format : Format) (bytes : List ℕ) (used : ℕ) (hints : List Hint) (end : Format) : Type 0 where
  pub text : LogText
  pub taken : IsTaken format bytes text used
  pub hints_are : hints_in text ≡ hints
  pub end_is : format_of text ≡ end

pub taken_plain : (f : Format) (bytes : List ℕ) (hints : List Hint) (used : ℕ) → AreFirst f bytes hints used → ¬ IsRenewed f (drop used bytes)
    → IsTakenWith f bytes used hints f
taken_plain One bytes hints used first none = record {
  text = of_one hints;
  taken = record { begins = tt; lawful = first.lawful; size = first.size; spelled = first.spelled; longest = (first.longest, none) };
  hints_are = refl;
  end_is = refl;
}
taken_plain Two bytes hints used first none = record {
  text = of_two hints;
  taken = record { begins = tt; lawful = first.lawful; size = first.size; spelled = first.spelled; longest = first.longest };
  hints_are = refl;
  end_is = refl;
}

pub taken_renewed : (f : Format) (bytes : List ℕ) (olds news : List Hint) (used more : ℕ) → AreFirst f bytes olds used → IsRenewed f (drop used bytes)
    → AreFirst Two (drop 1 (drop used bytes)) news more → IsTakenWith f bytes (used + 1 + more) (olds ++ news) Two
taken_renewed One bytes olds news used more first renews behind =
    let rest : List ℕ = drop used bytes in
    let cut : drop more (drop 1 rest) ≡ drop (used + 1 + more) bytes =
    ap (λ xs. drop more xs) (drop-drop 1 used bytes) ∙ drop-drop more (used + 1) bytes in
    let front : take (1 + more) rest ≡ 50 ∷ hints_spelling Two news =
    take-add 1 more rest ∙ ap (λ xs. xs ++ take more (drop 1 rest)) renews ∙ ap (λ xs. 50 ∷ xs) behind.spelled in
    let sum : used + 1 + more ≡ used + (1 + more) = omega arith in
    record {
      text = renewed olds news;
      taken = record {
        begins = tt;
        lawful = (first.lawful, behind.lawful);
        size = omega (arith, first.size, behind.size, length-append (hints_spelling One olds) (50 ∷ hints_spelling Two news));
        spelled = ap (λ n. take n bytes) sum ∙ take-add used (1 + more) bytes ∙ ap (λ xs. xs ++ take (1 + more) rest) first.spelled
            ∙ ap (λ xs. hints_spelling One olds ++ xs) front;
        longest = subst (EndsIn Two) cut behind.longest;
      };
      hints_are = refl;
      end_is = refl;
    }
taken_renewed Two bytes olds news used more first renews behind = absurd renews
