use Rattle.std.proofs.Common.{[], List, Option, refl, sym, subst}
use Rattle.bt_machine.specs.Devices.{HaveCalls}
use Rattle.bt_engine_state.specs.Parts.{disks_of}
use Rattle.bt_engine_state.proofs.DeviceCalls.{have_none}
use Rattle.bt_engine_messages.proofs.KeptHints.{keeps_none}
use Rattle.bt_engine_messages.proofs.message.take_peer_event.Goals as goal

pub returns-in-Some-clause-takes : goal.returns-in-Some-clause-takes
returns-in-Some-clause-takes g c = λ dig. record {
  calls = [];
  proofs = [];
  made = subst (λ (ds : List (Option g.row.D.Denot)). HaveCalls g.D.Disk.conduct (disks_of c.args.parts.now) [] ds) (sym c.fault_in.ensures.rest.devices)
      (have_none g.D.Disk.conduct (disks_of c.args.parts.now));
  handles = c.in-Some.ensures.step dig;
  keeps = keeps_none c.args.parts.now refl;
}

pub returns-in-None-clause-takes : goal.returns-in-None-clause-takes
returns-in-None-clause-takes g c = λ dig. record {
  calls = [];
  proofs = [];
  made = subst (λ (ds : List (Option g.row.D.Denot)). HaveCalls g.D.Disk.conduct (disks_of c.args.parts.now) [] ds) (sym c.fault_in.ensures.rest.devices)
      (have_none g.D.Disk.conduct (disks_of c.args.parts.now));
  handles = c.in-None.ensures.step dig;
  keeps = keeps_none c.args.parts.now refl;
}
