-- What calls make of parts: for private steps.
use Rattle.std.specs.Prelude.{◌≡◌, ◌⊎◌, ⊤, List, [], ◌∷◌, ◌++◌}
use Rattle.std.specs.List.{AllZip}
use Rattle.bt_jobs.specs.Parts.{IsPart, PartState}
use Rattle.bt_jobs.specs.Starts.{Start}

-- nothing is said
abbrev pub IsAny : PartState → Type 0
IsAny _ = ⊤

-- a part of which the one held is a part of which the other holds
abbrev pub Turns : {P : Type 0} → (P → PartState → Type 0) → (before after : PartState → Type 0)
    → (old new : P) → Type 0
Turns stands before after old new =
    (start : Start) → IsPart stands before old start → IsPart stands after new start

-- each of some parts
abbrev pub TurnAll : {P : Type 0} → (P → PartState → Type 0) → (before after : PartState → Type 0)
    → (old new : List P) → Type 0
TurnAll stands before after old new =
    (begun : List Start) → AllZip (IsPart stands before) old begun → AllZip (IsPart stands after) new begun

-- one part more was started so, of which this holds
pub record IsOneMore {S P : Type 0} (starts : S → Start → S → Type 0) (stands : P → PartState → Type 0)
    (fact : PartState → Type 0) (start : Start) (old new : S) (before after : List P) : Type 0 where
  pub part : P
  pub started : starts old start new
  pub kept : after ≡ before ++ part ∷ []
  pub stand : IsPart stands fact part start

-- the same, of which nothing is said, or none was started
abbrev pub IsOneAtMost : {S P : Type 0} → (S → Start → S → Type 0) → (P → PartState → Type 0) → Start
    → (old new : S) → (before after : List P) → Type 0
IsOneAtMost starts stands start old new before after =
    ((new ≡ old) × (after ≡ before)) ⊎ IsOneMore starts stands IsAny start old new before after
