use Rattle.bt_wire.proofs.Faults.{fault_alone, one_fault, fault_stays}
use Rattle.bt_wire.proofs.law.faults_stand_alone.Goals as goal

pub returns : goal.returns
returns c = record { no_event = fault_alone; one = one_fault; stays = fault_stays }
