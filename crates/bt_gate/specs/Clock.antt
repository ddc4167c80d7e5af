-- The time that counts at a gate.
use Rattle.std.specs.Prelude.{◌≡◌, ◌⊎◌, ◌+◌, ◌-◌, ◌<◌, true}
use Rattle.std.specs.Time.{instant_nanos, FitsClock}
use Rattle.std.specs.declared.time.Instant.{Instant}
use Rattle.bt_sockets.specs.TimingSteps.{HavePassed}
use Rattle.bt_swarm.specs.declared.member.TheConstants.{HELD_BACK}
use Rattle.bt_gate.specs.declared.clock.GateClock.{GateClock}
use Rattle.bt_gate.specs.declared.marks.Marks.{Marks}
use Rattle.bt_gate.specs.declared.marks.TheConstants.{LOOK_SECONDS}

-- what the clock shows goes on by all that has passed since the system's clock was looked at
pub record CountsAll (old : GateClock) (now : Instant) (new : GateClock) : Type 0 where
  pub looked : new.looked ≡ now
  pub counted : FitsClock (instant_nanos old.counted + (instant_nanos now - instant_nanos old.looked))
      → instant_nanos new.counted ≡ instant_nanos old.counted + (instant_nanos now - instant_nanos old.looked)

-- the clock stood still since then
pub record CountsNothing (old : GateClock) (now : Instant) (new : GateClock) : Type 0 where
  pub looked : new.looked ≡ now
  pub counted : new.counted ≡ old.counted

-- a connection is to be read: something may have come, or it was not read for long enough
abbrev pub IsDue : Marks → Type 0
IsDue marks = (marks.is_readable ≡ true) ⊎ HavePassed LOOK_SECONDS marks.read marks.time

-- there is something to do of which nobody tells: a connection that may be read is not held back, or a socket
-- may take what waits
abbrev pub HasWork : Marks → Type 0
HasWork marks = ((marks.is_readable ≡ true) × (marks.waiting < HELD_BACK))
    ⊎ ((marks.is_writable ≡ true) × (0 < marks.waiting))
