-- One run more of a file: for private steps.
use Rattle.std.specs.Prelude.{◌≡◌, ◌+◌, ◌||◌}
use Rattle.bt_parts.specs.Run.{IsWithin, is_fault, is_longer}
use Rattle.bt_parts.specs.declared.join.Joined.{Joined}
use Rattle.bt_parts.specs.declared.run.Run.{Run}

-- the run begins where those before it end, and the file has it; and these are the sums with it
pub record Continues (old : Joined) (run : Run) (new : Joined) : Type 0 where
  pub begins : run.from ≡ old.reached
  pub within : IsWithin old.finding.blocks run
  pub reached : new.reached ≡ run.to
  pub blocks : new.finding.blocks ≡ old.finding.blocks
  pub marked : new.finding.marked ≡ old.finding.marked + run.marked
  pub longer : new.finding.longer ≡ (old.finding.longer || is_longer run.met)
  pub faulty : new.finding.faulty ≡ (old.finding.faulty || is_fault run.met)
