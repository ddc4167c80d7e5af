-- When an engine is flushed.
use Rattle.std.specs.Prelude.{ℕ, ◌==◌, ◌%◌, max, Bool, true, false}
use Rattle.bt_session.specs.declared.flushing.Flushing.{Flushing}
use Rattle.bt_session.specs.declared.flushing.Flushing.TheVariants.{Never, Each}

-- whether it is flushed at all
abbrev pub is_ever_flushed : Flushing → Bool
is_ever_flushed Never = false
is_ever_flushed (Each every) = true

-- whether a flush is due after the turn of this number
abbrev pub is_flush_due : Flushing → (taken : ℕ) → Bool
is_flush_due Never taken = false
is_flush_due (Each every) taken = taken % max every 1 == 0
