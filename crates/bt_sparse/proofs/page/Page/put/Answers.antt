use Rattle.bt_sparse.proofs.Pages.{put_slots, put_bits}
use Rattle.bt_sparse.proofs.page.Page.put.Goals as goal

pub invariant_of-self : goal.invariant_of-self
invariant_of-self c = put_bits c.args.place c.index_mut-2.result.now c.args.digest c.self.invariant (rw (← c.self.view_is) at c.requires) c.index_mut-2.ensures.value

pub returns-clause-put : goal.returns-clause-put
returns-clause-put c =
    rw (← c.self.view_is) (put_slots c.args.place c.index_mut-2.result.now c.args.digest c.self.invariant (rw (← c.self.view_is) at c.requires) c.index_mut-2.ensures.value)
