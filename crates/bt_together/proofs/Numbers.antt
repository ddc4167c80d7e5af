-- Lemmas on the numbers of those that come and go at once.
use Rattle.std.proofs.Common.{[], ◌≡◌, ℕ, ◌+◌, ◌==◌, zero, suc, Bool, true, false, List, ◌∷◌, length, get_or, refl, arith}
use Rattle.std.specs.Prelude.{◌||◌}
use Rattle.std.proofs.lemmas.List.{length-append}
use Rattle.bt_session.specs.declared.end.SessionEnd.{SessionEnd}
use Rattle.bt_swarm.specs.Passing.{Passing, came, went, came_count, went_count}
use Rattle.bt_together.specs.Seating.{gone_in, numbered, seat, seated}
use Rattle.bt_together.specs.declared.seating.Seating.{Seating}

-- of two that are not so neither is
first_not : (a b : Bool) → (a || b) ≡ false → a ≡ false
first_not true b not = absurd (let bad : true ≡ false = not in cc)
first_not false b not = refl

second_not : (a b : Bool) → (a || b) ≡ false → b ≡ false
second_not true b not = absurd (let bad : true ≡ false = not in cc)
second_not false b not = not

-- one that is there has a number
one_counts : (number : ℕ) (end : SessionEnd) → (number == 0) ≡ false → length (numbered number end) ≡ 1
one_counts zero end not = absurd (let bad : true ≡ false = not in cc)
one_counts (suc n) end not = refl

-- no stray before, where there is none behind
none_before : (sit : Seating) (passed : List Passing) → (seated sit passed).strays ≡ false → sit.strays ≡ false
none_before sit [] none = none
none_before sit (came place ∷ passed) none = none_before (seat sit (came place)) passed none
none_before sit (went place end ∷ passed) none =
    first_not sit.strays (get_or sit.numbers place 0 == 0) (none_before (seat sit (went place end)) passed none)

-- how many have gone who were there
pub gone_counts : (sit : Seating) (passed : List Passing) → (seated sit passed).strays ≡ false → length (gone_in sit passed) ≡ went_count passed
gone_counts sit [] none = refl
gone_counts sit (came place ∷ passed) none = gone_counts (seat sit (came place)) passed none
gone_counts sit (went place end ∷ passed) none =
    let later = gone_counts (seat sit (went place end)) passed none in
    let both = length-append (numbered (get_or sit.numbers place 0) end) (gone_in (seat sit (went place end)) passed) in
    let there = second_not sit.strays (get_or sit.numbers place 0 == 0) (none_before (seat sit (went place end)) passed none) in
    let one = one_counts (get_or sit.numbers place 0) end there in
    omega (arith, later, both, one)

-- and how many have come
pub came_counts : (sit : Seating) (passed : List Passing) → (seated sit passed).came ≡ sit.came + came_count passed
came_counts sit [] = omega arith
came_counts sit (came place ∷ passed) = let later = came_counts (seat sit (came place)) passed in omega (arith, later)
came_counts sit (went place end ∷ passed) = came_counts (seat sit (went place end)) passed
