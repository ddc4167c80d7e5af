-- Who is where among those that are served at once.
use Rattle.std.specs.Prelude.{ℕ, zero, ◌+◌, ◌==◌, ◌||◌, false, List, [], ◌∷◌, ◌++◌, replicate, slice_index_or, slice_set}
use Rattle.bt_session.specs.declared.end.SessionEnd.{SessionEnd}
use Rattle.bt_swarm.specs.Passing.{Passing, came, went}
use Rattle.bt_together.specs.declared.seating.Seating.{Seating}

-- nobody has come yet
abbrev pub nobody : Seating
nobody = record { numbers = replicate 64 0; came = 0; strays = false }

-- one comes, who is the next; or the one at a place goes
abbrev pub seat : Seating → Passing → Seating
seat seating (came place) = record {
  numbers = slice_set seating.numbers place (seating.came + 1);
  came = seating.came + 1;
  strays = seating.strays;
}
seat seating (went place end) = record {
  numbers = slice_set seating.numbers place 0;
  came = seating.came;
  strays = seating.strays || (slice_index_or seating.numbers place 0 == 0);
}

-- all of them come and go, in turn
abbrev pub seated : Seating → List Passing → Seating
seated seating [] = seating
seated seating (one ∷ passed) = seated (seat seating one) passed

-- the number of one that goes, and its end: none where 0 stands for it
abbrev pub numbered : ℕ → SessionEnd → List (ℕ × SessionEnd)
numbered zero end = []
numbered number end = (number, end) ∷ []

-- of one that goes, by its place
abbrev pub gone_by : Seating → Passing → List (ℕ × SessionEnd)
gone_by seating (came place) = []
gone_by seating (went place end) = numbered (slice_index_or seating.numbers place 0) end

-- of those that go, in the order of going
abbrev pub gone_in : Seating → List Passing → List (ℕ × SessionEnd)
gone_in seating [] = []
gone_in seating (one ∷ passed) = gone_by seating one ++ gone_in (seat seating one) passed
