-- Lines for which memory is taken.
use Rattle.std.proofs.Common.{◌≡◌, ℕ, None, List, refl}
use Rattle.bt_replay.specs.Devices.{set_file}
use Rattle.bt_replay.specs.Event.{IsIdle}
use Rattle.bt_replay.specs.Line.{HasBytes, SpellsBytes}
use Rattle.bt_replay.specs.Run.{TakesMemory}
use Rattle.bt_replay.specs.declared.line.Line.{Line}
use Rattle.bt_replay.specs.declared.line.Line.TheVariants.{Fault, Flip}

with_bytes : (line : Line) → HasBytes line → set_file line ≡ None
with_bytes (Fault file call) has = absurd has
with_bytes (Flip file call at) has = absurd has
with_bytes line has = refl

pub asked : (handshake : List ℕ) (line : Line) → ¬ IsIdle handshake line → set_file line ≡ None
asked handshake (Fault file call) asks = absurd (asks (record { no_event = refl; no_report = λ is. absurd cc }))
asked handshake (Flip file call at) asks = absurd (asks (record { no_event = refl; no_report = λ is. absurd cc }))
asked handshake line asks = refl

pub for_bytes : (text : List ℕ) → SpellsBytes text → TakesMemory text
for_bytes text h = record { spelled = h.line; spells = h.spells; no_setting = with_bytes h.line h.has }
