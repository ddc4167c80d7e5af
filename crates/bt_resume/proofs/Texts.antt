-- Texts of logs that go on.
use Rattle.std.proofs.Common.{◌≡◌, ℕ, ◌≤◌, List, [], ◌∷◌, ◌++◌, length, take, get_or, refl, sym, ap, ◌∙◌, subst, arith}
use Rattle.std.proofs.lemmas.List.{append_assoc, append-nil, take_at, take-take, length-append}
use Rattle.std.proofs.lemmas.List.Elements.{All-append, All-push, All-cons, All-nil}
use Rattle.bt_resume.specs.declared.hint.Format.{Format}
use Rattle.bt_resume.specs.declared.hint.Format.TheVariants.{One, Two}
use Rattle.bt_resume.specs.declared.hint.Hint.{Hint}
use Rattle.bt_resume.specs.Hint.{hint_spelling, hints_spelling, IsHint}
use Rattle.bt_resume.specs.LogText.{LogText, of_one, of_two, renewed, hints_in, header_format, format_of, header, body_spelling, text_spelling, text_length, IsText, BeginsIn, empty_text, joined_text, GoesOn, appended_bytes, with_hint}

pub spelling_append : (f : Format) (xs ys : List Hint) → hints_spelling f (xs ++ ys) ≡ hints_spelling f xs ++ hints_spelling f ys
spelling_append f [] ys = refl
spelling_append f (x ∷ xs) ys =
    ap (λ l. hint_spelling f x ++ l) (spelling_append f xs ys) ∙ sym (append_assoc (hint_spelling f x) (hints_spelling f xs) (hints_spelling f ys))

pub spelling_push : (f : Format) (xs : List Hint) (x : Hint) → hints_spelling f (xs ++ x ∷ []) ≡ hints_spelling f xs ++ hint_spelling f x
spelling_push f xs x = spelling_append f xs (x ∷ []) ∙ ap (λ l. hints_spelling f xs ++ l) (append-nil (hint_spelling f x))

-- ---- headers

pub begins_header : (text : LogText) → BeginsIn (header_format text) text
begins_header (of_one hs) = tt
begins_header (of_two hs) = tt
begins_header (renewed hs ns) = tt

pub header_of : (f : Format) (text : LogText) → BeginsIn f text → f ≡ header_format text
header_of One (of_one hs) b = refl
header_of One (renewed hs ns) b = refl
header_of Two (of_two hs) b = refl
header_of One (of_two hs) b = absurd b
header_of Two (of_one hs) b = absurd b
header_of Two (renewed hs ns) b = absurd b

pub begins_empty : (f : Format) → BeginsIn f (empty_text f)
begins_empty One = tt
begins_empty Two = tt

pub begins_as : (f : Format) (a b : LogText) → header_format b ≡ header_format a → BeginsIn f a → BeginsIn f b
begins_as f a b same begins = subst (λ g. BeginsIn g b) (same ∙ sym (header_of f a begins)) (begins_header b)

pub same_header : (f g : Format) (infohash : List ℕ) → header f infohash ≡ header g infohash → f ≡ g
same_header One One infohash e = refl
same_header Two Two infohash e = refl
same_header One Two infohash e = absurd (omega (arith, ap (λ xs. get_or xs 7 0) e))
same_header Two One infohash e = absurd (omega (arith, ap (λ xs. get_or xs 7 0) e))

pub header_size : (f : Format) (infohash : List ℕ) → length infohash ≡ 32 → length (header f infohash) ≡ 40
header_size One infohash size = omega (arith, size)
header_size Two infohash size = omega (arith, size)

pub log_size : (infohash : List ℕ) (text : LogText) → length infohash ≡ 32 → length (text_spelling infohash text) ≡ text_length text
log_size infohash text size =
    omega (arith, header_size (header_format text) infohash size, length-append (header (header_format text) infohash) (body_spelling text))

-- ---- one text after another

pub record AreJoined (a b all : LogText) : Type 0 where
  pub body : body_spelling all ≡ body_spelling a ++ body_spelling b
  pub hints : hints_in all ≡ hints_in a ++ hints_in b
  pub format : format_of all ≡ format_of b
  pub header : header_format all ≡ header_format a
  pub lawful : IsText a → IsText b → IsText all

pub are_joined : (a b : LogText) → BeginsIn (format_of a) b → AreJoined a b (joined_text a b)
are_joined (of_one xs) (of_one ys) f =
    record { body = spelling_append One xs ys; hints = refl; format = refl; header = refl; lawful = λ p q. All-append (IsHint One) xs ys p q }
are_joined (of_one xs) (renewed ys zs) f = record {
  body = ap (λ l. l ++ 50 ∷ hints_spelling Two zs) (spelling_append One xs ys)
      ∙ append_assoc (hints_spelling One xs) (hints_spelling One ys) (50 ∷ hints_spelling Two zs);
  hints = append_assoc xs ys zs;
  format = refl;
  header = refl;
  lawful = λ p q. (All-append (IsHint One) xs ys p q.0, q.1);
}
are_joined (of_two xs) (of_two ys) f =
    record { body = spelling_append Two xs ys; hints = refl; format = refl; header = refl; lawful = λ p q. All-append (IsHint Two) xs ys p q }
are_joined (renewed xs ys) (of_two zs) f = record {
  body = ap (λ l. hints_spelling One xs ++ 50 ∷ l) (spelling_append Two ys zs)
      ∙ sym (append_assoc (hints_spelling One xs) (50 ∷ hints_spelling Two ys) (hints_spelling Two zs));
  hints = sym (append_assoc xs ys zs);
  format = refl;
  header = refl;
  lawful = λ p q. (p.0, All-append (IsHint Two) ys zs p.1 q);
}
are_joined (of_one xs) (of_two ys) f = absurd f
are_joined (of_two xs) (of_one ys) f = absurd f
are_joined (of_two xs) (renewed ys zs) f = absurd f
are_joined (renewed xs ys) (of_one zs) f = absurd f
are_joined (renewed xs ys) (renewed zs ws) f = absurd f

joined_again : (a b c : LogText) → BeginsIn (format_of a) b → BeginsIn (format_of b) c → joined_text (joined_text a b) c ≡ joined_text a (joined_text b c)
joined_again (of_one xs) (of_one ys) (of_one zs) f g = ap (λ l. of_one l) (append_assoc xs ys zs)
joined_again (of_one xs) (of_one ys) (renewed zs ws) f g = ap (λ l. renewed l ws) (append_assoc xs ys zs)
joined_again (of_one xs) (renewed ys zs) (of_two ws) f g = refl
joined_again (of_two xs) (of_two ys) (of_two zs) f g = ap (λ l. of_two l) (append_assoc xs ys zs)
joined_again (renewed xs ys) (of_two zs) (of_two ws) f g = ap (λ l. renewed xs l) (append_assoc ys zs ws)
joined_again (of_one xs) (of_one ys) (of_two zs) f g = absurd g
joined_again (of_one xs) (renewed ys zs) (of_one ws) f g = absurd g
joined_again (of_one xs) (renewed ys zs) (renewed vs ws) f g = absurd g
joined_again (of_two xs) (of_two ys) (of_one zs) f g = absurd g
joined_again (of_two xs) (of_two ys) (renewed zs ws) f g = absurd g
joined_again (renewed xs ys) (of_two zs) (of_one ws) f g = absurd g
joined_again (renewed xs ys) (of_two zs) (renewed vs ws) f g = absurd g
joined_again (of_one xs) (of_two ys) c f g = absurd f
joined_again (of_two xs) (of_one ys) c f g = absurd f
joined_again (of_two xs) (renewed ys zs) c f g = absurd f
joined_again (renewed xs ys) (of_one zs) c f g = absurd f
joined_again (renewed xs ys) (renewed zs ws) c f g = absurd f

-- ---- a text that goes on

pub goes_on_same : (text : LogText) → GoesOn text text
goes_on_same (of_one hs) = (of_one [], tt, ap (λ l. of_one l) (sym (append-nil hs)))
goes_on_same (of_two hs) = (of_two [], tt, ap (λ l. of_two l) (sym (append-nil hs)))
goes_on_same (renewed hs ns) = (of_two [], tt, ap (λ l. renewed hs l) (sym (append-nil ns)))

pub goes_on_trans : (a b c : LogText) → GoesOn a b → GoesOn b c → GoesOn a c
goes_on_trans a b c p q =
    let first = are_joined a p.0 p.1 in
    let format : format_of b ≡ format_of p.0 = ap format_of p.2 ∙ first.format in
    let begins : BeginsIn (format_of p.0) q.0 = subst (λ f. BeginsIn f q.0) format q.1 in
    let behind = are_joined p.0 q.0 begins in (
      joined_text p.0 q.0,
      begins_as (format_of a) p.0 (joined_text p.0 q.0) behind.header p.1,
      q.2 ∙ ap (λ t. joined_text t q.0) p.2 ∙ joined_again a p.0 q.0 p.1 begins,
    )

pub goes_on_by : (text all : LogText) → (p : GoesOn text all) → AreJoined text p.0 all
goes_on_by text all p = subst (AreJoined text p.0) (sym p.2) (are_joined text p.0 p.1)

pub goes_on_is_longer : (text all : LogText) → GoesOn text all → text_length text ≤ text_length all
goes_on_is_longer text all p =
    omega (arith, ap length (goes_on_by text all p).body, length-append (body_spelling text) (body_spelling p.0))

-- what begins with a text that went on, begins with the first
pub spelled_first : (infohash bytes : List ℕ) (text all : LogText) → length infohash ≡ 32 → GoesOn text all
    → take (text_length all) bytes ≡ text_spelling infohash all → take (text_length text) bytes ≡ text_spelling infohash text
spelled_first infohash bytes text all size p spelled =
    let by = goes_on_by text all p in
    let more : List ℕ = body_spelling p.0 in
    let head : List ℕ = header (header_format text) infohash in
    let whole : text_spelling infohash all ≡ text_spelling infohash text ++ more =
    ap (λ f. header f infohash ++ body_spelling all) by.header ∙ ap (λ xs. head ++ xs) by.body ∙ sym (append_assoc head (body_spelling text) more) in
    sym (take-take (text_length text) (text_length all) bytes (goes_on_is_longer text all p)) ∙ ap (λ xs. take (text_length text) xs) (spelled ∙ whole)
    ∙ take_at (text_spelling infohash text) more (text_length text) (log_size infohash text size)

-- ---- one more hint

pub record IsLonger (text all : LogText) (bytes : List ℕ) : Type 0 where
  pub body : body_spelling all ≡ body_spelling text ++ bytes
  pub format : format_of all ≡ Two
  pub header : header_format all ≡ header_format text
  pub lawful : IsText text → IsText all
  pub goes_on : GoesOn text all

pub hint_behind : (text : LogText) (hint : Hint) → IsHint Two hint → IsLonger text (with_hint text hint) (appended_bytes (format_of text) hint)
hint_behind (of_one hs) hint is = record {
  body = ap (λ l. hints_spelling One hs ++ 50 ∷ l) (append-nil (hint_spelling Two hint));
  format = refl;
  header = refl;
  lawful = λ p. (p, All-cons (IsHint Two) hint [] is (All-nil (IsHint Two)));
  goes_on = (renewed [] (hint ∷ []), tt, ap (λ l. renewed l (hint ∷ [])) (sym (append-nil hs)));
}
hint_behind (of_two hs) hint is = record {
  body = spelling_push Two hs hint;
  format = refl;
  header = refl;
  lawful = λ p. All-push (IsHint Two) hs hint p is;
  goes_on = (of_two (hint ∷ []), tt, refl);
}
hint_behind (renewed hs ns) hint is = record {
  body = ap (λ l. hints_spelling One hs ++ 50 ∷ l) (spelling_push Two ns hint)
      ∙ sym (append_assoc (hints_spelling One hs) (50 ∷ hints_spelling Two ns) (hint_spelling Two hint));
  format = refl;
  header = refl;
  lawful = λ p. (p.0, All-push (IsHint Two) ns hint p.1 is);
  goes_on = (of_two (hint ∷ []), tt, refl);
}
