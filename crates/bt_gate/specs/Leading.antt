-- A gate, and what it has become by connections that came and went.
use Rattle.std.proofs.Common.{refl, sym, ◌∙◌, ap}
use Rattle.std.specs.Prelude.{◌≡◌, ℕ, ◌+◌, List, [], ◌∷◌, ◌++◌}
use Rattle.bt_swarm.specs.Passing.{Passing, came, went}

-- a gate: how often it was waited, and by which door connections come
pub record GateState (D : Type 0) : Type 0 where
  pub waits : ℕ
  pub door : D

-- so many, and one more for each that came
abbrev pub came_onto : ℕ → List Passing → ℕ
came_onto n [] = n
came_onto n (came place ∷ passed) = came_onto (n + 1) passed
came_onto n (went place end ∷ passed) = came_onto n passed

-- by its door one more got a place for each that came, and that has an end for as many peers as before
pub record LeadsTo (old_size old_given : ℕ) (passed : List Passing) (new_size new_given : ℕ) : Type 0 where
  pub size : new_size ≡ old_size
  pub given : new_given ≡ came_onto old_given passed

-- ---- by nobody it stays as it is; and what it becomes by some and then by others, it becomes by all

pub stays : (size given : ℕ) → LeadsTo size given [] size given
stays size given = record { size = refl; given = refl }

came_append : (n : ℕ) (first more : List Passing)
    → came_onto n (first ++ more) ≡ came_onto (came_onto n first) more
came_append n [] more = refl
came_append n (came place ∷ first) more = came_append (n + 1) first more
came_append n (went place end ∷ first) more = came_append n first more

pub goes_on : {a_size a_given b_size b_given c_size c_given : ℕ} (first more : List Passing)
    → LeadsTo a_size a_given first b_size b_given → LeadsTo b_size b_given more c_size c_given
    → LeadsTo a_size a_given (first ++ more) c_size c_given
goes_on {a_given = a_given} first more before after = record {
  size = after.size ∙ before.size;
  given = after.given ∙ ap (λ n. came_onto n more) before.given ∙ sym (came_append a_given first more);
}
