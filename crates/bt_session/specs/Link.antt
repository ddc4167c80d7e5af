-- What is counted of a link.
use Rattle.std.specs.Prelude.{ℕ, Option, Some, None}

-- a dial that gave nothing failed
abbrev pub failure_count : {A : Type 0} → Option A → ℕ
failure_count (Some _) = 0
failure_count None = 1
