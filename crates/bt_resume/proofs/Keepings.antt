-- Hints that are kept as the bytes that spell them.
use Rattle.std.specs.Iterator.{MakesProgress, item_count}
use Rattle.std.proofs.Common.{◌≡◌, ℕ, ◌+◌, ◌≤◌, inl, inr, List, [], ◌∷◌, ◌++◌, length, take, drop, All, Option, Some, None, IfNone, refl, sym, ap, ◌∙◌, subst, arith}
use Rattle.std.proofs.lemmas.List.{append_assoc, take-append-drop, length-append, length-take}
use Rattle.std.proofs.lemmas.List.Elements.{All-nil, All-head, All-tail}
use Rattle.bt_resume.specs.declared.hint.Format.{Format}
use Rattle.bt_resume.specs.declared.hint.Format.TheVariants.{One, Two}
use Rattle.bt_resume.specs.declared.hint.Hint.{Hint}
use Rattle.bt_resume.specs.Hint.{hint_spelling, hints_spelling, IsHint, BeginsNoHint}
use Rattle.bt_resume.specs.LogText.{LogText, of_one, of_two, renewed, hints_in, format_of, body_spelling, IsText, empty_text, joined_text}
use Rattle.bt_resume.specs.OneSpelling.{AreSpelled, IsSpelling, IsSpelling-prop, same_hint, hint_is_some, renewal_begins_none, byte_renews}
use Rattle.bt_resume.specs.Reader.{IsFirst, IsTaken, IsCounted, IsRenewed, IsBehindRenewal}
use Rattle.bt_resume.specs.declared.hint.LentHint.{LentHint}
use Rattle.bt_resume.proofs.Texts.{are_joined, begins_as}
use Rattle.bt_resume.proofs.Takings.{AreFront, front_more}

-- what is seen of bytes is the text that they spell, whatever tells that they spell some
pub seen_is : (f : Format) (bytes : List ℕ) (seen : IsSpelling f bytes) (text : LogText) → AreSpelled f bytes text → seen.0 ≡ text
seen_is f bytes seen text are = ap (λ (s : IsSpelling f bytes). s.0) (IsSpelling-prop f bytes seen (text, are))

pub nothing_spelled : (f : Format) (bytes : List ℕ) → bytes ≡ [] → AreSpelled f bytes (empty_text f)
nothing_spelled One bytes none = (tt, All-nil (IsHint One), none)
nothing_spelled Two bytes none = (tt, All-nil (IsHint Two), none)

pub no_hints_in : (f : Format) (text : LogText) → text ≡ empty_text f → (0 ≡ length (hints_in text)) × (f ≡ format_of text)
no_hints_in One text e = (sym (ap (λ t. length (hints_in t)) e), sym (ap format_of e))
no_hints_in Two text e = (sym (ap (λ t. length (hints_in t)) e), sym (ap format_of e))

-- more after what is kept
pub spelled_more : (f : Format) (old more new : List ℕ) (text other : LogText) → AreSpelled f old text → AreSpelled (format_of text) more other
    → new ≡ old ++ more → AreSpelled f new (joined_text text other)
spelled_more f old more new text other p q new_is =
    let both = are_joined text other q.0 in (
      begins_as f text (joined_text text other) both.header p.0,
      both.lawful p.1 q.1,
      new_is ∙ ap (λ xs. xs ++ more) p.2 ∙ ap (λ xs. body_spelling text ++ xs) q.2 ∙ sym both.body,
    )

-- a hint has a byte at least
no_more_hints : (f : Format) (hints : List Hint) → All (IsHint f) hints → length hints ≤ length (hints_spelling f hints)
no_more_hints f [] lawful = omega arith
no_more_hints f (h ∷ hs) lawful =
    omega (
      arith,
      length-append (hint_spelling f h) (hints_spelling f hs),
      hint_is_some f h (All-head (IsHint f) h hs lawful),
      no_more_hints f hs (All-tail (IsHint f) h hs lawful),
    )

few_in : (text : LogText) → IsText text → length (hints_in text) ≤ length (body_spelling text)
few_in (of_one hs) p = no_more_hints One hs p
few_in (of_two hs) p = no_more_hints Two hs p
few_in (renewed hs ns) p =
    omega (
      arith,
      length-append hs ns,
      length-append (hints_spelling One hs) (50 ∷ hints_spelling Two ns),
      no_more_hints One hs p.0,
      no_more_hints Two ns p.1,
    )

-- no more hints than bytes
pub few_hints : (f : Format) (bytes : List ℕ) (text : LogText) → AreSpelled f bytes text → length (hints_in text) ≤ length bytes
few_hints f bytes text are = omega (arith, ap length are.2, few_in text are.1)

pub taken_is_spelled : (f : Format) (bytes : List ℕ) (text : LogText) (used : ℕ) → IsTaken f bytes text used → AreSpelled f (take used bytes) text
taken_is_spelled f bytes text used is = (is.begins, is.lawful, is.spelled)

pub same_spelled : (f : Format) (bytes : List ℕ) (a b : LogText) → AreSpelled f bytes a → AreSpelled f bytes b → a ≡ b
same_spelled f bytes a b p q = seen_is f bytes (a, p) b q

-- ---- the first of those that are kept

-- bytes that spell a hint and more do not begin with the byte "2"
no_renewal : (f : Format) (bytes : List ℕ) (h : Hint) (rest more : List ℕ) → IsHint f h → bytes ≡ hint_spelling f h ++ rest → bytes ≡ 50 ∷ more → ⊥
no_renewal f bytes h rest more is e renews = renewal_begins_none f more h rest is (sym renews ∙ e)

renews_with : (bytes : List ℕ) → take 1 bytes ≡ 50 ∷ [] → bytes ≡ 50 ∷ drop 1 bytes
renews_with bytes e = sym (take-append-drop 1 bytes) ∙ ap (λ xs. xs ++ drop 1 bytes) e

-- the same hints, after the byte that may stand in front
pub record AreHere (format : Format) (bytes : List ℕ) (hints : List Hint) : Type 0 where
  pub text : LogText
  pub spelled : AreSpelled format bytes text
  pub hints_are : hints ≡ hints_in text
  pub here : ¬ IsRenewed format bytes

behind_byte : (bytes : List ℕ) (text : LogText) → AreSpelled One bytes text → take 1 bytes ≡ 50 ∷ [] → AreHere Two (drop 1 bytes) (hints_in text)
behind_byte bytes (of_one []) are e = absurd (omega (arith, ap length e, ap length are.2, length-take 1 bytes))
behind_byte bytes (of_one (h ∷ hs)) are e = absurd (no_renewal One bytes h (hints_spelling One hs) (drop 1 bytes) (All-head (IsHint One) h hs are.1) are.2 (renews_with bytes e))
behind_byte bytes (of_two hs) are e = absurd are.0
behind_byte bytes (renewed [] ns) are e =
    record { text = of_two ns; spelled = (tt, are.1.1, ap (λ xs. drop 1 xs) are.2); hints_are = refl; here = λ x. x }
behind_byte bytes (renewed (h ∷ hs) ns) are e =
    absurd (no_renewal One bytes h (hints_spelling One hs ++ 50 ∷ hints_spelling Two ns) (drop 1 bytes) (All-head (IsHint One) h hs are.1.0)
    (are.2 ∙ append_assoc (hint_spelling One h) (hints_spelling One hs) (50 ∷ hints_spelling Two ns)) (renews_with bytes e))

moved_to : (f g : Format) (bytes rest : List ℕ) (hints : List Hint) → g ≡ f → rest ≡ bytes → AreHere f bytes hints → AreHere g rest hints
moved_to f g bytes rest hints format same here = rw (format, same) here

pub behind_renewal : (f g : Format) (bytes rest : List ℕ) (text : LogText) → AreSpelled f bytes text → IsBehindRenewal f bytes g rest
    → AreHere g rest (hints_in text)
behind_renewal One g bytes rest text are (inl part) = moved_to Two g (drop 1 bytes) rest (hints_in text) part.1 part.2 (behind_byte bytes text are part.0)
behind_renewal One g bytes rest text are (inr part) =
    moved_to One g bytes rest (hints_in text) part.1 part.2 (record { text = text; spelled = are; hints_are = refl; here = part.0 })
behind_renewal Two g bytes rest text are part =
    moved_to Two g bytes rest (hints_in text) part.0 part.1 (record { text = text; spelled = are; hints_are = refl; here = λ x. x })

no_first_in : (f : Format) (bytes : List ℕ) (text : LogText) → AreSpelled f bytes text → ¬ IsRenewed f bytes → BeginsNoHint f bytes → hints_in text ≡ []
no_first_in f bytes (of_one []) are here none = refl
no_first_in f bytes (of_two []) are here none = refl
no_first_in One bytes (of_one (h ∷ hs)) are here none = absurd (none h (hints_spelling One hs) (All-head (IsHint One) h hs are.1) are.2)
no_first_in Two bytes (of_two (h ∷ hs)) are here none = absurd (none h (hints_spelling Two hs) (All-head (IsHint Two) h hs are.1) are.2)
no_first_in One bytes (renewed [] ns) are here none = absurd (here (byte_renews bytes (hints_spelling Two ns) are.2))
no_first_in One bytes (renewed (h ∷ hs) ns) are here none =
    absurd (none h (hints_spelling One hs ++ 50 ∷ hints_spelling Two ns) (All-head (IsHint One) h hs are.1.0)
    (are.2 ∙ append_assoc (hint_spelling One h) (hints_spelling One hs) (50 ∷ hints_spelling Two ns)))
no_first_in Two bytes (of_one (h ∷ hs)) are here none = absurd are.0
no_first_in One bytes (of_two (h ∷ hs)) are here none = absurd are.0
no_first_in Two bytes (renewed hs ns) are here none = absurd are.0

pub no_first : (f : Format) (bytes : List ℕ) (hints : List Hint) → AreHere f bytes hints → BeginsNoHint f bytes → hints ≡ []
no_first f bytes hints here none = here.hints_are ∙ no_first_in f bytes here.text here.spelled here.here none

-- a hint that begins the bytes is the first that they spell, and the bytes after it spell the others
pub record IsNext (format : Format) (bytes : List ℕ) (hints : List Hint) (hint : Hint) (len : ℕ) : Type 0 where
  pub other : LogText
  pub hints_are : hints ≡ hint ∷ hints_in other
  pub spelled : AreSpelled format (drop len bytes) other

cut_at : (f : Format) (bytes : List ℕ) (hint : Hint) (len : ℕ) → IsFirst f bytes hint len → bytes ≡ hint_spelling f hint ++ drop len bytes
cut_at f bytes hint len first = sym (take-append-drop len bytes) ∙ ap (λ xs. xs ++ drop len bytes) first.spelled

none_first : (f : Format) (bytes : List ℕ) (hint : Hint) (len : ℕ) → IsFirst f bytes hint len → bytes ≡ [] → ⊥
none_first f bytes hint len first none =
    omega (arith, ap length first.spelled, length-take len bytes, ap length none, hint_is_some f hint first.is_hint)

first_in : (f : Format) (bytes : List ℕ) (text : LogText) (hint : Hint) (len : ℕ) → AreSpelled f bytes text → IsFirst f bytes hint len
    → IsNext f bytes (hints_in text) hint len
first_in f bytes (of_one []) hint len are first = absurd (none_first f bytes hint len first are.2)
first_in f bytes (of_two []) hint len are first = absurd (none_first f bytes hint len first are.2)
first_in One bytes (of_one (h ∷ hs)) hint len are first =
    let same = same_hint One h hint (hints_spelling One hs) (drop len bytes) (All-head (IsHint One) h hs are.1) first.is_hint
    (sym are.2 ∙ cut_at One bytes hint len first) in
    record { other = of_one hs; hints_are = ap (λ x. x ∷ hs) same.0; spelled = (tt, All-tail (IsHint One) h hs are.1, sym same.1) }
first_in Two bytes (of_two (h ∷ hs)) hint len are first =
    let same = same_hint Two h hint (hints_spelling Two hs) (drop len bytes) (All-head (IsHint Two) h hs are.1) first.is_hint
    (sym are.2 ∙ cut_at Two bytes hint len first) in
    record { other = of_two hs; hints_are = ap (λ x. x ∷ hs) same.0; spelled = (tt, All-tail (IsHint Two) h hs are.1, sym same.1) }
first_in One bytes (renewed [] ns) hint len are first =
    absurd (no_renewal One bytes hint (drop len bytes) (hints_spelling Two ns) first.is_hint (cut_at One bytes hint len first) are.2)
first_in One bytes (renewed (h ∷ hs) ns) hint len are first =
    let rest : List ℕ = 50 ∷ hints_spelling Two ns in
    let same = same_hint One h hint (hints_spelling One hs ++ rest) (drop len bytes) (All-head (IsHint One) h hs are.1.0) first.is_hint
    (sym (are.2 ∙ append_assoc (hint_spelling One h) (hints_spelling One hs) rest) ∙ cut_at One bytes hint len first) in
    record { other = renewed hs ns; hints_are = ap (λ x. x ∷ (hs ++ ns)) same.0; spelled = (tt, (All-tail (IsHint One) h hs are.1.0, are.1.1), sym same.1) }
first_in Two bytes (of_one (h ∷ hs)) hint len are first = absurd are.0
first_in One bytes (of_two (h ∷ hs)) hint len are first = absurd are.0
first_in Two bytes (renewed hs ns) hint len are first = absurd are.0

pub first_is : (f : Format) (bytes : List ℕ) (hints : List Hint) (hint : Hint) (len : ℕ) → AreHere f bytes hints → IsFirst f bytes hint len
    → IsNext f bytes hints hint len
first_is f bytes hints hint len here first =
    let next = first_in f bytes here.text hint len here.spelled first in
    record { other = next.other; hints_are = here.hints_are ∙ next.hints_are; spelled = next.spelled }

-- what the next hint's bytes leave: `given` tells that they spell some, by whatever proof
pub next_is : (f : Format) (bytes others : List ℕ) (hints : List Hint) (given : IsSpelling f others) (hint : Hint) (len : ℕ) → IsNext f bytes hints hint len
    → others ≡ drop len bytes → hints ≡ hint ∷ hints_in given.0
next_is f bytes others hints given hint len next cut =
    let same = seen_is f others given next.other (subst (λ b. AreSpelled f b next.other) (sym cut) next.spelled) in
    next.hints_are ∙ ap (λ t. hint ∷ hints_in t) (sym same)

pub goes_on : (all others : List Hint) (hint : Hint) (lent : LentHint) → all ≡ hint ∷ others
    → MakesProgress {S = List Hint} {A = LentHint} (λ _. Unit {0}) (item_count {A = Hint} (λ s. s)) all (Some lent) others
goes_on all others hint lent all_is = record { on = λ h. (tt, tt, omega (arith, ap length all_is)); keeps = tt; rests = λ h. tt }

-- ---- bytes after those that are kept

pub told_kept : (f g : Format) (old new : List ℕ) (seen : IsSpelling f old) (given : IsSpelling f new) (count : ℕ) → new ≡ old
    → (count ≡ length (hints_in seen.0)) × (g ≡ format_of seen.0) → (count ≡ length (hints_in given.0)) × (g ≡ format_of given.0)
told_kept f g old new seen given count same told =
    let text = sym (seen_is f new given seen.0 (subst (λ b. AreSpelled f b seen.0) (sym same) seen.1)) in
    (told.0 ∙ ap (λ t. length (hints_in t)) text, told.1 ∙ ap format_of text)

pub put_gives : (f : Format) (old more new : List ℕ) (seen : IsSpelling f old) (given : IsSpelling f new) (was other : LogText) → seen.0 ≡ was
    → AreSpelled (format_of was) more other → new ≡ old ++ more → given.0 ≡ joined_text was other
put_gives f old more new seen given was other view_is are new_is =
    seen_is f new given (joined_text was other)
    (spelled_more f old more new was other (subst (AreSpelled f old) view_is seen.1) are new_is)

pub put_told : (f g : Format) (old more new : List ℕ) (seen : IsSpelling f old) (given : IsSpelling f new) (was other : LogText) (n m : ℕ) → seen.0 ≡ was
    → n ≡ length (hints_in seen.0) → IsCounted (format_of was) more other g m → new ≡ old ++ more
    → (n + m ≡ length (hints_in given.0)) × (g ≡ format_of given.0)
put_told f g old more new seen given was other n m view_is count_is are new_is =
    let given_is = put_gives f old more new seen given was other view_is are.spelled new_is in
    let both = are_joined was other are.spelled.0 in (
      omega (
        arith,
        count_is,
        ap (λ t. length (hints_in t)) view_is,
        are.count_is,
        ap (λ t. length (hints_in t)) given_is,
        ap length both.hints,
        length-append (hints_in was) (hints_in other),
      ),
      are.end_is ∙ sym both.format ∙ sym (ap format_of given_is),
    )

-- ---- hints that are counted

pub one_more_taken : (f : Format) (bytes : List ℕ) (taken : List Hint) (used count : ℕ) (hint : Hint) (len : ℕ) → AreFront f bytes taken used
    → count ≡ length taken → count ≤ used → IsFirst f (drop used bytes) hint len
    → (all : List Hint) × AreFront f bytes all (used + len) × (count + 1 ≡ length all) × (count + 1 ≤ used + len)
one_more_taken f bytes taken used count hint len front count_is few first = (
  taken ++ hint ∷ [],
  front_more f bytes taken used hint len front first,
  omega (arith, count_is, length-append taken (hint ∷ [])),
  omega (arith, few, first.size, hint_is_some f hint first.is_hint),
)

pub if_none : {A P : Type 0} (o : Option A) → P → IfNone o P
if_none None p = p
if_none (Some x) p = tt
