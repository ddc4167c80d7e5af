-- Connections that come through a gate and go.
use Rattle.std.specs.Prelude.{[], ℕ, ◌+◌, List, ◌∷◌, Option, Some, None}
use Rattle.bt_session.specs.declared.end.SessionEnd.{SessionEnd}

-- A gate gave a connection at a place, or was told that the one at a place went, and how it ended.
pub data Passing : Type 0 where
  came : (place : ℕ) → Passing
  went : (place : ℕ) (end : SessionEnd) → Passing

-- that a gate gives somebody, or nobody
abbrev pub came_by : {A : Type 0} → ℕ → Option A → List Passing
came_by place None = []
came_by place (Some ways) = came place ∷ []

-- how many came
abbrev pub came_count : List Passing → ℕ
came_count [] = 0
came_count (came place ∷ passed) = 1 + came_count passed
came_count (went place end ∷ passed) = came_count passed

-- how many went
abbrev pub went_count : List Passing → ℕ
went_count [] = 0
went_count (came place ∷ passed) = went_count passed
went_count (went place end ∷ passed) = 1 + went_count passed
