-- The lines that tell how it ended with each connection that was served.
use Rattle.std.specs.Prelude.{◌≡◌, ℕ, zero, ◌++◌, List, [], Ok, Option, Result, codes, IfErr}
use Rattle.std.specs.Fmt.{decimal}
use Rattle.std.specs.Io.KnownBytes.{Appends}
use Rattle.std.specs.List.{flat_map}
use Rattle.bt_check.specs.Display.{line_text}
use Rattle.bt_check.specs.declared.fault.Fault.{Fault}
use Rattle.bt_files.specs.OpenFolder.{IsCallFault}
use Rattle.bt_session.specs.PeerEnd.{end_text}
use Rattle.bt_session.specs.declared.end.SessionEnd.{SessionEnd}
use Rattle.bt_session.specs.declared.peer_end.PeerEnd.{PeerEnd}
use Rattle.bt_session.specs.declared.peer_end.PeerEnd.TheVariants.{Session}
use Rattle.bt_swarm.specs.Passing.{Passing}
use Rattle.bt_together.specs.Seating.{gone_in, seated}
use Rattle.bt_together.specs.declared.seating.Seating.{Seating}

-- the number of a connection, and how it ended
abbrev pub served_line : ℕ → PeerEnd → List ℕ
served_line number end = line_text (codes "served " ++ decimal number ++ codes " " ++ end_text end)

-- of one that goes: none where it has no number
abbrev pub gone_line : ℕ → SessionEnd → List ℕ
gone_line zero end = []
gone_line number end = served_line number (Session end)

-- a line for each of these
abbrev pub gone_lines : List (ℕ × SessionEnd) → List ℕ
gone_lines ends = flat_map (λ p. gone_line p.0 p.1) ends

-- These came and went. A line was written for each that went, in the order of going, unless one could not be: then none
-- is after it.
pub record Tells (old : Seating) (was : Result (Unit {0}) Fault) (before : Option (List ℕ))
    (passed : List Passing) (new : Seating) (is : Result (Unit {0}) Fault) (after : Option (List ℕ))
    : Type 0 where
  pub sit : new ≡ seated old passed
  pub none_failed : is ≡ Ok tt → was ≡ Ok tt
  pub lines : is ≡ Ok tt → Appends before after (gone_lines (gone_in old passed))
  pub call : IfErr was IsCallFault → IfErr is IsCallFault
