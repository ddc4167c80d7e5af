use Rattle.std.proofs.Common.{◌≡◌, ◌-◌, ◌≤◌, List, length}
use Rattle.bt_resume.specs.declared.hint.Hint.{Hint}
use Rattle.bt_resume.proofs.Takings.{AreFront}
use Rattle.bt_resume.proofs.reader.measure_hints.Given as goal

abbrev pub invariant-loop-found : goal.invariant-loop-found
invariant-loop-found l = (taken : List Hint) × AreFront l.format l.bytes taken l.len × (l.count ≡ length taken) × (l.count ≤ l.len)

abbrev pub decreases-loop-found : goal.decreases-loop-found
decreases-loop-found l = length l.bytes - l.len
