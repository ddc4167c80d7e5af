use Rattle.std.proofs.Common.{ℕ, List, refl, sym, subst}
use Rattle.bt_machine.specs.Peers.{IsOurBitfield, joins}
use Rattle.bt_engine_state.specs.Parts.{state_of}
use Rattle.bt_engine_state.proofs.Wholes.{our_bitfield}
use Rattle.bt_engine_state.proofs.connection.connect.Goals as goal

pub returns-clause-step : goal.returns-clause-step
returns-clause-step g c =
    let old = c.args.parts.now in
    let has = c.join-key.ensures.joined in
    let size = rw c.deref.ensures.value at c.in-Ok.ensures.size in
    let bits = rw c.deref.ensures.value at c.in-Ok.ensures.bits in
    let ours = our_bitfield (state_of old) old.counts.unmarked.items c.in-Ok.bits.items c.requires.tied.counted.unmarked size bits c.in-Ok.ensures.fits in
    joins c.join-key.result c.new-2.result has.room has.left has.next
    (subst (λ (bytes : List ℕ). IsOurBitfield (state_of old) bytes) (sym c.new-2.ensures) ours) refl has.after
