-- That bytes spell one text. The proof stands here, since the hints of a log are kept as their bytes: what
-- contracts see of them rests on this.
use Rattle.std.specs.Prelude.{◌≡◌, ℕ, ◌*◌, ◌^◌, ◌<◌, ◌≤◌, List, [], ◌∷◌, ◌++◌, length, take, drop, All, refl}
use Rattle.std.specs.Coded.{coded_ℕ, coded_list, Coded-set, le_prop, Π_prop, ×_prop}
use Rattle.std.specs.Int.{w32, to_be_bytes, from_be_bytes}
use Rattle.std.proofs.Common.{get_or, sym, ap, ◌∙◌, arith}
use Rattle.std.proofs.lemmas.List.{append_assoc, append-nil, take_at, drop_at, length-append}
use Rattle.std.proofs.lemmas.List.Elements.{All-head, All-tail}
use Rattle.std.proofs.lemmas.Nat.{from_be_bytes-to_be_bytes_4}
use Rattle.bt_sparse.specs.Answer.{answer_size}
use Rattle.bt_hashreq.specs.declared.key.HashKey.{HashKey}
use Rattle.bt_hashreq.specs.Key.{key_spelling, IsKey}
use Rattle.bt_hashreq.proofs.KeySpelling.{spells_one_key}
use Rattle.bt_resume.specs.declared.hint.Format.{Format}
use Rattle.bt_resume.specs.declared.hint.Format.TheVariants.{One, Two}
use Rattle.bt_resume.specs.declared.hint.Hint.{Hint}
use Rattle.bt_resume.specs.declared.hint.Hint.TheVariants.{Proof, Marks}
use Rattle.bt_resume.specs.Hint.{joined, hint_spelling, hints_spelling, IsHint, BeginsNoHint}
use Rattle.bt_resume.specs.LogText.{LogText, of_one, of_two, renewed, format_of, body_spelling, IsText, EndsIn, BeginsIn}
use mathlib.Core.HLevel.{Σ_prop_path}

-- the bytes spell this text, which lies after a header of this format
abbrev pub AreSpelled : Format → List ℕ → LogText → Type 0
AreSpelled format bytes text = BeginsIn format text × IsText text × (bytes ≡ body_spelling text)

-- bytes that spell a text and nothing else
abbrev pub IsSpelling : Format → List ℕ → Type 0
IsSpelling format bytes = (text : LogText) × AreSpelled format bytes text

abbrev IsWhole : List ℕ → Type 0
IsWhole digest = length digest ≡ 32

-- ---- digests, one after the other

pub joined_length : (ds : List (List ℕ)) → All IsWhole ds → length (joined ds) ≡ 32 * length ds
joined_length [] all = refl
joined_length (d ∷ ds) all =
    let here : length d ≡ 32 = All-head IsWhole d ds all in
    let behind : length (joined ds) ≡ 32 * length ds = joined_length ds (All-tail IsWhole d ds all) in
    omega (arith, length-append d (joined ds))

-- two lists of two parts each, the first ones of one length
pub same_parts : (p q r s : List ℕ) → length p ≡ length q → p ++ r ≡ q ++ s → (p ≡ q) × (r ≡ s)
same_parts p q r s same e = (
  sym (take_at p r (length p) refl) ∙ ap (λ xs. take (length p) xs) e ∙ take_at q s (length p) (sym same),
  sym (drop_at p r (length p) refl) ∙ ap (λ xs. drop (length p) xs) e ∙ drop_at q s (length p) (sym same),
)

same_digests : (ds es : List (List ℕ)) (x y : List ℕ) → All IsWhole ds → All IsWhole es
    → length ds ≡ length es → joined ds ++ x ≡ joined es ++ y → (ds ≡ es) × (x ≡ y)
same_digests [] [] x y p q size e = (refl, e)
same_digests [] (b ∷ es) x y p q size e = absurd (omega (arith, size))
same_digests (a ∷ ds) [] x y p q size e = absurd (omega (arith, size))
same_digests (a ∷ ds) (b ∷ es) x y p q size e =
    let one : length a ≡ length b = All-head IsWhole a ds p ∙ sym (All-head IsWhole b es q) in
    let first = same_parts a b (joined ds ++ x) (joined es ++ y) one
    (sym (append_assoc a (joined ds) x) ∙ e ∙ append_assoc b (joined es) y) in
    let behind = same_digests ds es x y (All-tail IsWhole a ds p) (All-tail IsWhole b es q)
    (omega (arith, size)) first.1 in
    (ap (λ d. d ∷ ds) first.0 ∙ ap (λ xs. b ∷ xs) behind.0, behind.1)

-- ---- keys and numbers

pub key_size : (k : HashKey) → IsKey k → length (key_spelling k) ≡ 48
key_size k is =
    let root : length k.root ≡ 32 = is.root in
    omega (
      arith,
      length-append k.root (to_be_bytes w32 k.base),
      length-append (k.root ++ to_be_bytes w32 k.base) (to_be_bytes w32 k.index),
      length-append (k.root ++ to_be_bytes w32 k.base ++ to_be_bytes w32 k.index) (to_be_bytes w32 k.length),
      length-append (k.root ++ to_be_bytes w32 k.base ++ to_be_bytes w32 k.index ++ to_be_bytes w32 k.length)
          (to_be_bytes w32 k.layers),
    )

pub same_number : (n m : ℕ) → n < 2 ^ 32 → m < 2 ^ 32 → to_be_bytes w32 n ≡ to_be_bytes w32 m → n ≡ m
same_number n m n-fits m-fits e =
    sym (from_be_bytes-to_be_bytes_4 n n-fits) ∙ ap (λ xs. from_be_bytes w32 xs) e
    ∙ from_be_bytes-to_be_bytes_4 m m-fits

-- ---- a hint's bytes tell it, whatever follows

same_proof : (f : Format) (k l : HashKey) (ds es : List (List ℕ)) (x y : List ℕ)
    → IsHint f (Proof k ds) → IsHint f (Proof l es)
    → (key_spelling k ++ joined ds) ++ x ≡ (key_spelling l ++ joined es) ++ y
    → (Proof k ds ≡ Proof l es) × (x ≡ y)
same_proof f k l ds es x y p q e =
    let size = key_size k p.typed.0 ∙ sym (key_size l q.typed.0) in
    let front = same_parts (key_spelling k) (key_spelling l) (joined ds ++ x) (joined es ++ y) size
    (sym (append_assoc (key_spelling k) (joined ds) x) ∙ e ∙ append_assoc (key_spelling l) (joined es) y) in
    let key : k ≡ l = spells_one_key k l p.typed.0 q.typed.0 front.0 in
    let count : length ds ≡ length es =
    p.readable.1 ∙ ap (λ (h : HashKey). answer_size h.length h.layers) key ∙ sym q.readable.1 in
    let behind = same_digests ds es x y p.typed.1 q.typed.1 count front.1 in
    (ap (λ h. Proof h ds) key ∙ ap (λ xs. Proof l xs) behind.0, behind.1)

-- a number of four bytes in front of others
next_number : (n m : ℕ) (x y : List ℕ) → n < 2 ^ 32 → m < 2 ^ 32
    → to_be_bytes w32 n ++ x ≡ to_be_bytes w32 m ++ y → (n ≡ m) × (x ≡ y)
next_number n m x y n-fits m-fits e =
    let parts = same_parts (to_be_bytes w32 n) (to_be_bytes w32 m) x y refl e in
    (same_number n m n-fits m-fits parts.0, parts.1)

same_mark : (f g b c n m : ℕ) (x y : List ℕ) → IsHint One (Marks f b n) → IsHint One (Marks g c m)
    → (to_be_bytes w32 f ++ to_be_bytes w32 b) ++ x ≡ (to_be_bytes w32 g ++ to_be_bytes w32 c) ++ y
    → (Marks f b n ≡ Marks g c m) × (x ≡ y)
same_mark f g b c n m x y p q e =
    let first = next_number f g (to_be_bytes w32 b ++ x) (to_be_bytes w32 c ++ y) p.typed.0 q.typed.0
    (sym (append_assoc (to_be_bytes w32 f) (to_be_bytes w32 b) x) ∙ e
    ∙ append_assoc (to_be_bytes w32 g) (to_be_bytes w32 c) y) in
    let second = next_number b c x y p.typed.1 q.typed.1 first.1 in
    let count : n ≡ m = p.readable ∙ sym q.readable in
    (ap (λ i. Marks i b n) first.0 ∙ ap (λ i. Marks g i n) second.0 ∙ ap (λ i. Marks g c i) count, second.1)

in_three : (a b c x : List ℕ) → (a ++ b ++ c) ++ x ≡ a ++ (b ++ (c ++ x))
in_three a b c x = append_assoc (a ++ b) c x ∙ append_assoc a b (c ++ x)

same_run : (f g b c n m : ℕ) (x y : List ℕ) → IsHint Two (Marks f b n) → IsHint Two (Marks g c m)
    → (to_be_bytes w32 f ++ to_be_bytes w32 b ++ to_be_bytes w32 n) ++ x
    ≡ (to_be_bytes w32 g ++ to_be_bytes w32 c ++ to_be_bytes w32 m) ++ y
    → (Marks f b n ≡ Marks g c m) × (x ≡ y)
same_run f g b c n m x y p q e =
    let first = next_number f g (to_be_bytes w32 b ++ (to_be_bytes w32 n ++ x))
    (to_be_bytes w32 c ++ (to_be_bytes w32 m ++ y)) p.typed.0 q.typed.0
    (sym (in_three (to_be_bytes w32 f) (to_be_bytes w32 b) (to_be_bytes w32 n) x) ∙ e
    ∙ in_three (to_be_bytes w32 g) (to_be_bytes w32 c) (to_be_bytes w32 m) y) in
    let second = next_number b c (to_be_bytes w32 n ++ x) (to_be_bytes w32 m ++ y) p.typed.1 q.typed.1
    first.1 in
    let third = next_number n m x y p.typed.2 q.typed.2 second.1 in
    (ap (λ i. Marks i b n) first.0 ∙ ap (λ i. Marks g i n) second.0 ∙ ap (λ i. Marks g c i) third.0, third.1)

first_byte : (a b : ℕ) (x y : List ℕ) → a ∷ x ≡ b ∷ y → a ≡ b
first_byte a b x y e = ap (λ xs. get_or xs 0 0) e

pub same_hint : (format : Format) (a b : Hint) (x y : List ℕ) → IsHint format a → IsHint format b
    → hint_spelling format a ++ x ≡ hint_spelling format b ++ y → (a ≡ b) × (x ≡ y)
same_hint f (Proof k ds) (Proof l es) x y p q e = same_proof f k l ds es x y p q (ap (λ xs. drop 1 xs) e)
same_hint One (Marks f b n) (Marks g c m) x y p q e =
    same_mark f g b c n m x y p q (ap (λ xs. drop 1 xs) e)
same_hint Two (Marks f b n) (Marks g c m) x y p q e =
    same_run f g b c n m x y p q (ap (λ xs. drop 1 xs) e)
same_hint One (Proof k ds) (Marks g c m) x y p q e = absurd (omega (arith, first_byte _ _ _ _ e))
same_hint Two (Proof k ds) (Marks g c m) x y p q e = absurd (omega (arith, first_byte _ _ _ _ e))
same_hint One (Marks f b n) (Proof l es) x y p q e = absurd (omega (arith, first_byte _ _ _ _ e))
same_hint Two (Marks f b n) (Proof l es) x y p q e = absurd (omega (arith, first_byte _ _ _ _ e))

pub hint_is_some : (format : Format) (h : Hint) → IsHint format h → 1 ≤ length (hint_spelling format h)
hint_is_some One (Marks f b n) is = omega arith
hint_is_some Two (Marks f b n) is = omega arith
hint_is_some format (Proof k ds) is = omega arith

-- ---- lists of hints that begin the same bytes

-- nothing begins with a hint
pub nothing_begins : (format : Format) (bytes : List ℕ) → length bytes ≡ 0 → BeginsNoHint format bytes
nothing_begins format bytes empty hint rest is e =
    absurd (omega (
      arith,
      ap length e,
      length-append (hint_spelling format hint) rest,
      hint_is_some format hint is,
    ))

-- the byte "2" begins no hint
pub renewal_begins_none : (format : Format) (rest : List ℕ) → BeginsNoHint format (50 ∷ rest)
renewal_begins_none One rest (Marks f b n) more is e = absurd (omega (arith, first_byte _ _ _ _ e))
renewal_begins_none Two rest (Marks f b n) more is e = absurd (omega (arith, first_byte _ _ _ _ e))
renewal_begins_none format rest (Proof k ds) more is e = absurd (omega (arith, first_byte _ _ _ _ e))

-- what lies after the first hints, where more begin the bytes
pub record AreBehind (format : Format) (hints all : List Hint) (x y : List ℕ) : Type 0 where
  pub more : List Hint
  pub lawful : All (IsHint format) more
  pub all_are : all ≡ hints ++ more
  pub rest_is : x ≡ hints_spelling format more ++ y

pub first_hints : (format : Format) (hints all : List Hint) (x y : List ℕ)
    → All (IsHint format) hints → All (IsHint format) all → BeginsNoHint format y
    → hints_spelling format hints ++ x ≡ hints_spelling format all ++ y → AreBehind format hints all x y
first_hints f [] all x y p q none e = record { more = all; lawful = q; all_are = refl; rest_is = e }
first_hints f (a ∷ hs) [] x y p q none e =
    absurd (none a (hints_spelling f hs ++ x) (All-head (IsHint f) a hs p)
    (sym e ∙ append_assoc (hint_spelling f a) (hints_spelling f hs) x))
first_hints f (a ∷ hs) (b ∷ bs) x y p q none e =
    let first = same_hint f a b (hints_spelling f hs ++ x) (hints_spelling f bs ++ y)
    (All-head (IsHint f) a hs p) (All-head (IsHint f) b bs q)
    (sym (append_assoc (hint_spelling f a) (hints_spelling f hs) x) ∙ e
    ∙ append_assoc (hint_spelling f b) (hints_spelling f bs) y) in
    let behind = first_hints f hs bs x y (All-tail (IsHint f) a hs p) (All-tail (IsHint f) b bs q)
    none first.1 in
    record {
      more = behind.more;
      lawful = behind.lawful;
      all_are = ap (λ h. h ∷ bs) (sym first.0) ∙ ap (λ hs. a ∷ hs) behind.all_are;
      rest_is = behind.rest_is;
    }

none_more : (f : Format) (hints all more : List Hint) (x y : List ℕ) → All (IsHint f) more → BeginsNoHint f x
    → all ≡ hints ++ more → x ≡ hints_spelling f more ++ y → (hints ≡ all) × (x ≡ y)
none_more f hints all [] x y p none all_are rest_is = (sym (all_are ∙ append-nil hints), rest_is)
none_more f hints all (h ∷ hs) x y p none all_are rest_is =
    absurd (none h (hints_spelling f hs ++ y) (All-head (IsHint f) h hs p)
    (rest_is ∙ append_assoc (hint_spelling f h) (hints_spelling f hs) y))

pub same_hints : (format : Format) (hints all : List Hint) (x y : List ℕ)
    → All (IsHint format) hints → All (IsHint format) all → BeginsNoHint format x → BeginsNoHint format y
    → hints_spelling format hints ++ x ≡ hints_spelling format all ++ y → (hints ≡ all) × (x ≡ y)
same_hints f hints all x y p q no_x no_y e =
    let behind = first_hints f hints all x y p q no_y e in
    none_more f hints all behind.more x y behind.lawful no_x behind.all_are behind.rest_is

-- ---- texts

pub byte_renews : (x y : List ℕ) → x ≡ 50 ∷ y → take 1 x ≡ 50 ∷ []
byte_renews x y e = ap (λ xs. take 1 xs) e

-- after a header, bytes begin with one text from whose end nothing is read
pub same_text : (format : Format) (a b : LogText) (x y : List ℕ) → BeginsIn format a → BeginsIn format b
    → IsText a → IsText b → EndsIn (format_of a) x → EndsIn (format_of b) y
    → body_spelling a ++ x ≡ body_spelling b ++ y → a ≡ b
same_text Two (of_two hs) (of_two bs) x y f g p q u v e =
    ap (λ l. of_two l) (same_hints Two hs bs x y p q u v e).0
same_text One (of_one hs) (of_one bs) x y f g p q u v e =
    ap (λ l. of_one l) (same_hints One hs bs x y p q u.0 v.0 e).0
same_text One (of_one hs) (renewed bs cs) x y f g p q u v e =
    let rest = 50 ∷ hints_spelling Two cs ++ y in
    let same = same_hints One hs bs x rest p q.0 u.0 (renewal_begins_none One (hints_spelling Two cs ++ y))
    (e ∙ append_assoc (hints_spelling One bs) (50 ∷ hints_spelling Two cs) y) in
    absurd (u.1 (byte_renews x (hints_spelling Two cs ++ y) same.1))
same_text One (renewed hs cs) (of_one bs) x y f g p q u v e =
    let rest = 50 ∷ hints_spelling Two cs ++ x in
    let same = same_hints One bs hs y rest q p.0 v.0 (renewal_begins_none One (hints_spelling Two cs ++ x))
    (sym e ∙ append_assoc (hints_spelling One hs) (50 ∷ hints_spelling Two cs) x) in
    absurd (v.1 (byte_renews y (hints_spelling Two cs ++ x) same.1))
same_text One (renewed hs cs) (renewed bs ds) x y f g p q u v e =
    let none = renewal_begins_none One in
    let olds = same_hints One hs bs (50 ∷ hints_spelling Two cs ++ x) (50 ∷ hints_spelling Two ds ++ y)
    p.0 q.0
    (none (hints_spelling Two cs ++ x)) (none (hints_spelling Two ds ++ y))
    (sym (append_assoc (hints_spelling One hs) (50 ∷ hints_spelling Two cs) x) ∙ e
    ∙ append_assoc (hints_spelling One bs) (50 ∷ hints_spelling Two ds) y) in
    let news = same_hints Two cs ds x y p.1 q.1 u v (ap (λ xs. drop 1 xs) olds.1) in
    ap (λ l. renewed l cs) olds.0 ∙ ap (λ l. renewed bs l) news.0
same_text Two (of_one hs) b x y f g p q u v e = absurd f
same_text Two (renewed hs cs) b x y f g p q u v e = absurd f
same_text One (of_two hs) b x y f g p q u v e = absurd f
same_text Two (of_two hs) (of_one bs) x y f g p q u v e = absurd g
same_text Two (of_two hs) (renewed bs cs) x y f g p q u v e = absurd g
same_text One (of_one hs) (of_two bs) x y f g p q u v e = absurd g
same_text One (renewed hs cs) (of_two bs) x y f g p q u v e = absurd g

-- nothing is read of no bytes
pub nothing_ends : (format : Format) → EndsIn format []
nothing_ends One = (nothing_begins One [] refl, λ e. absurd (omega (arith, ap length e)))
nothing_ends Two = nothing_begins Two [] refl

-- ---- so bytes spell one text at most

number_set : IsSet ℕ
number_set = Coded-set coded_ℕ

bytes_set : IsSet (List ℕ)
bytes_set = Coded-set (coded_list coded_ℕ)

IsHint-prop : (format : Format) (h : Hint) → IsProp (IsHint format h)
IsHint-prop format (Proof k ds) = hlevel (le_prop, number_set)
IsHint-prop One (Marks f b n) = hlevel (le_prop, number_set)
IsHint-prop Two (Marks f b n) = hlevel (le_prop, number_set)

AreHints-prop : (format : Format) (hints : List Hint) → IsProp (All (IsHint format) hints)
AreHints-prop format hints = Π_prop (λ k. Π_prop (λ d. Π_prop (λ l. IsHint-prop format _)))

IsText-prop : (text : LogText) → IsProp (IsText text)
IsText-prop (of_one hints) = AreHints-prop One hints
IsText-prop (of_two hints) = AreHints-prop Two hints
IsText-prop (renewed olds news) = ×_prop (AreHints-prop One olds) (AreHints-prop Two news)

BeginsIn-prop : (format : Format) (text : LogText) → IsProp (BeginsIn format text)
BeginsIn-prop One (of_one hints) = hlevel (number_set)
BeginsIn-prop One (of_two hints) = hlevel (number_set)
BeginsIn-prop One (renewed olds news) = hlevel (number_set)
BeginsIn-prop Two (of_one hints) = hlevel (number_set)
BeginsIn-prop Two (of_two hints) = hlevel (number_set)
BeginsIn-prop Two (renewed olds news) = hlevel (number_set)

AreSpelled-prop : (format : Format) (bytes : List ℕ) (text : LogText) → IsProp (AreSpelled format bytes text)
AreSpelled-prop format bytes text a b =
    let begins = BeginsIn-prop format text a.0 b.0 in
    let lawful = IsText-prop text a.1 b.1 in
    let spelled = bytes_set bytes (body_spelling text) a.2 b.2 in
    ap (λ x. (x, a.1, a.2)) begins ∙ ap (λ x. (b.0, x, a.2)) lawful ∙ ap (λ x. (b.0, b.1, x)) spelled

pub IsSpelling-prop : (format : Format) (bytes : List ℕ) → IsProp (IsSpelling format bytes)
IsSpelling-prop format bytes a b =
    Σ_prop_path (AreSpelled-prop format bytes)
    (same_text format a.0 b.0 [] [] a.1.0 b.1.0 a.1.1 b.1.1 (nothing_ends _) (nothing_ends _)
    (append-nil (body_spelling a.0) ∙ sym a.1.2 ∙ b.1.2 ∙ sym (append-nil (body_spelling b.0))))
