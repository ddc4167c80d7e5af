-- The greatest count of failed calls.
use Rattle.std.specs.Prelude.{ℕ, ◌+◌, ◌-◌, ◌^◌, min, Result, Ok, Err}

-- a count has 64 bits, and stays at its greatest value
abbrev pub max_count : ℕ
max_count = 2 ^ 64 - 1

-- one more, where there is one more
abbrev pub one_more : ℕ → ℕ
one_more count = min max_count (count + 1)

-- a count of failures after a call with this result
abbrev pub count_after : {T E : Type 0} → ℕ → Result T E → ℕ
count_after count (Ok _) = count
count_after count (Err _) = one_more count
