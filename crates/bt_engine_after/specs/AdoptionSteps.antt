-- A file's groups are taken in, in the parts of an engine.
use Rattle.std.specs.Prelude.{◌≡◌, ℕ, List, flat_map, length}
use Rattle.bt_disk.specs.Conduct.{Conduct}
use Rattle.bt_store.specs.declared.adoption.Adopted.{Adopted}
use Rattle.bt_machine.specs.Devices.{DeviceCalls, HaveCalls}
use Rattle.bt_machine.specs.Blocks.{states_of}
use Rattle.bt_machine.specs.Adopting.{AdoptsGroups, StopsAdopting}
use Rattle.bt_engine_state.specs.Parts.{state_of, disks_of}
use Rattle.bt_engine_state.specs.declared.parts.Parts.{Parts}

-- all groups are taken in, by calls of these devices
pub record AdoptsIn {D H : Type 0} (conduct : Conduct D)
    (dig : List ℕ → List ℕ) (file : ℕ) (old : Parts D H) (total : Adopted) (new : Parts D H) : Type 0 where
  pub groups : List DeviceCalls
  pub calls : HaveCalls conduct (disks_of old) (flat_map (λ c. c) groups) (disks_of new)
  pub adopts : AdoptsGroups dig (state_of old) file 0 groups total (state_of new)
  pub all : total.next ≡ length (states_of (state_of old) file)

-- memory was refused
pub record StopsIn {D H : Type 0} (conduct : Conduct D)
    (dig : List ℕ → List ℕ) (file : ℕ) (old new : Parts D H) : Type 0 where
  pub made : DeviceCalls
  pub calls : HaveCalls conduct (disks_of old) made (disks_of new)
  pub stops : StopsAdopting dig (state_of old) file made (state_of new)
