-- Both paths are texts; and what is asked of the places that a walk has come to is what was asked of those where it
-- began.
use Rattle.std.proofs.Common.{Bool, length}
use denote.Shadow.{shadow}
use denote.Text.{Utf8}
use Rattle.bt_log_file.specs.Looking.{IsOnePlace}
use Rattle.bt_log_file.proofs.looking.is_one_place.Given as goal

abbrev pub invariant-places : goal.invariant-places
invariant-places g l = shadow (Utf8 l.path) × shadow (Utf8 l.other)
    × ((is_one : Bool) → IsOnePlace (g.R.Lookup.tells l.rt) l.path l.other is_one
    → IsOnePlace (g.R.Lookup.tells l.rt) l.fn.path l.fn.other is_one)

abbrev pub decreases-places : goal.decreases-places
decreases-places g l = length l.path
