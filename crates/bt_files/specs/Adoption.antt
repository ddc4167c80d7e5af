-- What the devices of an engine's files have already is taken in, file after file, where bytes are there.
use Rattle.std.specs.Prelude.{◌≡◌, ℕ, ◌<◌, Bool, true, List, filter, map, slice_get, take, Ok, Err, Some}
use Rattle.std.specs.List.{All, enumerate_from}
use Rattle.bt_disk.specs.Conduct.{Conduct}
use Rattle.bt_machine.specs.declared.error.AdoptError.TheVariants.{OutOfMemory}
use Rattle.bt_machine.specs.declared.event.Event.{Event}
use Rattle.bt_machine.specs.declared.event.Event.TheVariants.{Adopt}
use Rattle.bt_machine.specs.declared.event.Answer.{Answer}
use Rattle.bt_machine.specs.declared.event.Answer.TheVariants.{Adopted}
use Rattle.bt_machine.specs.State.{EngineView}
use Rattle.bt_machine.specs.View.{StepsTo, RunsTo}
use Rattle.bt_check.specs.Fault.{device, out_of_memory}
use Rattle.bt_check.specs.declared.fault.Fault.{Fault}

-- The files of which the list says true are taken in, in their order; the first has the number 0.
abbrev pub adoptions : List Bool → List Event
adoptions filled = map (λ p. Adopt p.0) (filter (λ p. p.1) (enumerate_from 0 filled))

-- a file was taken in, and no read of it failed
abbrev pub IsTakenIn : Answer → Type 0
IsTakenIn (Adopted (Ok adopted)) = adopted.faults ≡ 0
IsTakenIn _ = ⊥

-- a read failed, or memory was refused
abbrev pub IsAdoptionFault : Answer → Fault → Type 0
IsAdoptionFault (Adopted (Ok adopted)) fault = (0 < adopted.faults) × (fault ≡ device)
IsAdoptionFault (Adopted (Err OutOfMemory)) fault = fault ≡ out_of_memory
IsAdoptionFault _ fault = ⊥

-- From the old engine on these files were taken in, one after the other, and no read of them failed. Of the others
-- nothing changed, and no device was called: nothing but these events happened.
pub record TakesIn {D : Type 0} (conduct : Conduct D)
    (dig : List ℕ → List ℕ) (old : EngineView D) (filled : List Bool) (new : EngineView D) : Type 0 where
  pub answers : List Answer
  pub runs : RunsTo conduct dig old (adoptions filled) answers new
  pub faultless : All IsTakenIn answers

-- one of these files is not taken in without a fault; those before it are
pub record StopsAtFile {D : Type 0} (conduct : Conduct D)
    (dig : List ℕ → List ℕ) (old : EngineView D) (filled : List Bool) (fault : Fault) (new : EngineView D)
    : Type 0 where
  pub file : ℕ
  pub chosen : slice_get filled file ≡ Some true
  pub before : EngineView D
  pub taken : TakesIn conduct dig old (take file filled) before
  pub answer : Answer
  pub last : StepsTo conduct dig before (Adopt file) answer new
  pub cause : IsAdoptionFault answer fault
