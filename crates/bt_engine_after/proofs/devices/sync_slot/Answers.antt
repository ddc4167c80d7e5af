use Rattle.std.proofs.Common.{ap, Some}
use Rattle.bt_store.specs.FileStore.{StoreView}
use Rattle.bt_engine_after.specs.DevicesSteps.{syncs}
use Rattle.bt_engine_after.proofs.devices.sync_slot.Goals as goal

pub returns : goal.returns
returns g c =
    syncs c.in-Some.store c.sync.new.self.disk c.in-Some.is c.has_block.ensures c.sync.ensures.call
    (ap (λ (store : StoreView g.row.D.Denot). record c.args.slot.now { store = Some store }) c.sync.ensures.others)
