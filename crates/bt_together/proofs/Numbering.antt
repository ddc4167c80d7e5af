-- The numbers of those that come and go at once are of those that came, and none is there twice.
use Rattle.std.proofs.Common.{[], ◌≡◌, ℕ, ◌+◌, ◌-◌, ◌≤◌, ◌==◌, zero, suc, Bool, true, false, List, ◌∷◌, ◌++◌, get_or, set, replicate, refl, ◌∙◌, subst, arith, add-zero}
use Rattle.std.specs.List.{count_by}
use Rattle.std.specs.Prelude.{All, if◌then◌else◌}
use Rattle.std.proofs.lemmas.Bool.{eqb-true}
use Rattle.std.proofs.lemmas.List.Elements.{All-cons, All-nil}
use Rattle.std.proofs.lemmas.List.Sums.{sum_by-append, sum_by-cons}
use Rattle.bt_session.specs.declared.end.SessionEnd.{SessionEnd}
use Rattle.bt_swarm.specs.Passing.{Passing, came, went}
use Rattle.bt_together.specs.Seating.{gone_in, nobody, numbered, seat, seated}
use Rattle.bt_together.specs.Together.{AreOfCount}
use Rattle.bt_together.specs.declared.seating.Seating.{Seating}

-- ---- which numbers they have

came_more : (sit : Seating) (passed : List Passing) → sit.came ≤ (seated sit passed).came
came_more sit [] = omega arith
came_more sit (came place ∷ passed) = let later : sit.came + 1 ≤ (seated sit (came place ∷ passed)).came = came_more (seat sit (came place)) passed in omega (arith, later)
came_more sit (went place end ∷ passed) = came_more (seat sit (went place end)) passed

-- at each place there is one of the first so many, or nobody
abbrev AreUpTo : ℕ → List ℕ → Type 0
AreUpTo most numbers = (place : ℕ) → get_or numbers place 0 ≤ most

none_up : (n : ℕ) → AreUpTo 0 (replicate n 0)
none_up zero place = let fine : 0 ≤ 0 = omega arith in fine
none_up (suc n) zero = omega arith
none_up (suc n) (suc place) = none_up n place

put_up : (numbers : List ℕ) (most at number : ℕ) → number ≤ most → AreUpTo most numbers → AreUpTo most (set numbers at number)
put_up [] most at number below up place = up place
put_up (n ∷ numbers) most zero number below up zero = below
put_up (n ∷ numbers) most zero number below up (suc place) = up (suc place)
put_up (n ∷ numbers) most (suc at) number below up zero = up zero
put_up (n ∷ numbers) most (suc at) number below up (suc place) = put_up numbers most at number below (λ later. up (suc later)) place

abbrev IsOf : ℕ → ℕ × SessionEnd → Type 0
IsOf most one = (1 ≤ one.0) × (one.0 ≤ most)

one_within : (number most : ℕ) (end : SessionEnd) (more : List (ℕ × SessionEnd)) → number ≤ most → All (IsOf most) more → All (IsOf most) (numbered number end ++ more)
one_within zero most end more below all = all
one_within (suc n) most end more below all = All-cons (IsOf most) (suc n, end) more (omega arith, below) all

gone_within : (sit : Seating) (passed : List Passing) → AreUpTo sit.came sit.numbers → All (IsOf (seated sit passed).came) (gone_in sit passed)
gone_within sit [] up = All-nil (IsOf sit.came)
gone_within sit (came place ∷ passed) up =
    gone_within (seat sit (came place)) passed
    (put_up sit.numbers (sit.came + 1) place (sit.came + 1) (omega arith) (λ other. let before = up other in omega (arith, before)))
gone_within sit (went place end ∷ passed) up =
    let here = up place in
    let later : sit.came ≤ (seated sit (went place end ∷ passed)).came = came_more (seat sit (went place end)) passed in
    one_within (get_or sit.numbers place 0) (seated sit (went place end ∷ passed)).came end (gone_in (seat sit (went place end)) passed) (omega (arith, here, later))
    (gone_within (seat sit (went place end)) passed (put_up sit.numbers sit.came place 0 (omega arith) up))

-- ---- none is there twice

false_of : (b : Bool) → ¬ (b ≡ true) → b ≡ false
false_of true not_so = absurd (not_so refl)
false_of false not_so = refl

abbrev weight : Bool → ℕ
weight b = if b then 1 else 0

module _ (m : ℕ) where
  zero_other : (0 == suc m) ≡ false
  zero_other = false_of (0 == suc m) (λ e. let is = eqb-true 0 (suc m) e in absurd (omega (arith, is)))

  -- how many of these are the number of which we speak
  abbrev count_of : List ℕ → ℕ
  count_of numbers = count_by (λ k. k == suc m) numbers

  abbrev gone_count : List (ℕ × SessionEnd) → ℕ
  gone_count ends = count_by (λ p. p.0 == suc m) ends

  more : (n : ℕ) (numbers : List ℕ) → count_of (n ∷ numbers) ≡ (if n == suc m then 1 else 0) + count_of numbers
  more n numbers = sum_by-cons (λ k. if k == suc m then 1 else 0) n numbers

  none_more : (numbers : List ℕ) → count_of (0 ∷ numbers) ≡ count_of numbers
  none_more numbers =
      let all = more 0 numbers in
      let other : weight (0 == suc m) ≡ 0 = rw zero_other refl in omega (arith, all, other)

  -- a number is put to a place
  put_count : (numbers : List ℕ) (place number : ℕ)
      → count_of (set numbers place number) ≤ count_of numbers + (if number == suc m then 1 else 0)
  put_count [] place number = omega arith
  put_count (n ∷ numbers) zero number =
      let new : count_of (set (n ∷ numbers) zero number) ≡ (if number == suc m then 1 else 0) + count_of numbers = more number numbers in
      let old = more n numbers in omega (arith, new, old)
  put_count (n ∷ numbers) (suc place) number =
      let new : count_of (set (n ∷ numbers) (suc place) number) ≡ (if n == suc m then 1 else 0) + count_of (set numbers place number) = more n (set numbers place number) in
      let old = more n numbers in
      let rest = put_count numbers place number in omega (arith, new, old, rest)

  -- the number at a place is taken away
  taken_count : (numbers : List ℕ) (place : ℕ)
      → count_of (set numbers place 0) + (if get_or numbers place 0 == suc m then 1 else 0) ≤ count_of numbers
  taken_count [] place =
      let none : count_of [] + (if 0 == suc m then 1 else 0) ≤ count_of [] = rw zero_other (omega arith) in none
  taken_count (n ∷ numbers) zero =
      let new : count_of (set (n ∷ numbers) zero 0) ≡ count_of numbers = none_more numbers in
      let old = more n numbers in
      let it : get_or (n ∷ numbers) zero 0 ≡ n = refl in rw it (omega (arith, new, old))
  taken_count (n ∷ numbers) (suc place) =
      let new : count_of (set (n ∷ numbers) (suc place) 0) ≡ (if n == suc m then 1 else 0) + count_of (set numbers place 0) = more n (set numbers place 0) in
      let old = more n numbers in
      let rest = taken_count numbers place in omega (arith, new, old, rest)

  -- it is given once
  given : (b : Bool) (count : ℕ) → (b ≡ true → count + 1 ≡ suc m) → (if b then 1 else 0) + (1 - (count + 1 - m)) ≤ 1 - (count - m)
  given true count is = let here = is refl in omega (arith, here)
  given false count is = omega arith

  one_gone : (number : ℕ) (end : SessionEnd) → gone_count (numbered number end) ≡ (if number == suc m then 1 else 0)
  one_gone zero end = rw zero_other refl
  one_gone (suc n) end = sum_by-cons (λ (p : ℕ × SessionEnd). if p.0 == suc m then 1 else 0) (suc n, end) [] ∙ add-zero (if suc n == suc m then 1 else 0)

  gone_both : (first rest : List (ℕ × SessionEnd)) → gone_count (first ++ rest) ≡ gone_count first + gone_count rest
  gone_both first rest = sum_by-append (λ (p : ℕ × SessionEnd). if p.0 == suc m then 1 else 0) first rest

  gone_once : (sit : Seating) (passed : List Passing) → gone_count (gone_in sit passed) ≤ count_of sit.numbers + (1 - (sit.came - m))
  gone_once sit [] = let nobody_went : gone_count (gone_in sit []) ≡ 0 = refl in omega (arith, nobody_went)
  gone_once sit (came place ∷ passed) =
      let later : gone_count (gone_in sit (came place ∷ passed)) ≤ count_of (set sit.numbers place (sit.came + 1)) + (1 - (sit.came + 1 - m)) =
      gone_once (seat sit (came place)) passed in
      let put = put_count sit.numbers place (sit.came + 1) in
      let new = given (sit.came + 1 == suc m) sit.came (eqb-true (sit.came + 1) (suc m)) in
      omega (arith, later, put, new)
  gone_once sit (went place end ∷ passed) =
      let later : gone_count (gone_in (seat sit (went place end)) passed) ≤ count_of (set sit.numbers place 0) + (1 - (sit.came - m)) =
      gone_once (seat sit (went place end)) passed in
      let taken = taken_count sit.numbers place in
      let both : gone_count (gone_in sit (went place end ∷ passed))
      ≡ gone_count (numbered (get_or sit.numbers place 0) end) + gone_count (gone_in (seat sit (went place end)) passed) =
      gone_both (numbered (get_or sit.numbers place 0) end) (gone_in (seat sit (went place end)) passed) in
      let one = one_gone (get_or sit.numbers place 0) end in
      omega (arith, later, taken, both, one)

  none_of : (n : ℕ) → count_of (replicate n 0) ≡ 0
  none_of zero = refl
  none_of (suc n) = none_more (replicate n 0) ∙ none_of n

once_each : (passed : List Passing) (number : ℕ) → 1 ≤ number → count_by (λ p. p.0 == number) (gone_in nobody passed) ≤ 1
once_each passed zero some = absurd (omega (arith, some))
once_each passed (suc m) some = let all = gone_once m nobody passed in let none = none_of m 64 in omega (arith, all, none)

-- ---- together

pub are_of_count : (count : ℕ) (passed : List Passing) → (seated nobody passed).came ≡ count → AreOfCount count (gone_in nobody passed)
are_of_count count passed so_many = record {
  within = subst (λ n. All (IsOf n) (gone_in nobody passed)) so_many (gone_within nobody passed (none_up 64));
  once = once_each passed;
}
