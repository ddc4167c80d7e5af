-- When a line of progress is written anew.
use Rattle.std.specs.Prelude.{ℕ, ◌-◌, ◌/◌}
use Rattle.std.specs.Time.{instant_nanos}
use Rattle.std.specs.declared.time.Instant.{Instant}

-- whole milliseconds from one moment to a later one
abbrev pub millis_between : Instant → Instant → ℕ
millis_between earlier later = (instant_nanos later - instant_nanos earlier) / 1_000_000
