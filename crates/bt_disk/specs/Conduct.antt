-- What is known of a device, and of what it does.
use Rattle.std.specs.Prelude.{ℕ, []}
use Rattle.bt_disk.specs.History.{History, new_history}

-- what the devices of a kind held, which of them give what was written, and how many of their calls failed
pub record Conduct (D : Type 0) : Type 1 where
  pub history : D → History
  pub honest : D → Type 0
  pub faults : D → ℕ

-- nothing is promised but the count of failed calls
abbrev pub untrusted : {D : Type 0} → (D → ℕ) → Conduct D
untrusted faults = record { history = λ _. new_history []; honest = λ _. ⊥; faults = faults }
