use Rattle.std.proofs.Common.{Option, List, ℕ, refl, sym, ap, ◌∙◌, subst}
use Rattle.std.specs.Global.{Vec}
use Rattle.std.specs.List.{concat}
use Rattle.bt_wire.specs.declared.message.Message.TheVariants.{Hashes}
use Rattle.bt_machine.specs.HashMessages.{HandlesHashRequest}
use Rattle.bt_machine.specs.Output.{sending}
use Rattle.bt_engine_state.specs.Parts.{state_of}
use Rattle.bt_engine_messages.specs.HashRequestSteps.{answer_of}
use Rattle.bt_engine_messages.proofs.hash_request.take_hash_request.Goals as goal

pub returns-in_ok-joined-in-Some : goal.returns-in_ok-joined-in-Some
returns-in_ok-joined-in-Some g c = λ i p.
    let s = state_of c.args.parts.now in
    let key = c.args.key.now in
    let found = subst (λ (o : Option (Vec (List ℕ))). HandlesHashRequest g.H.NodeHash.digest s p key (sending p (answer_of key o))) c.in-Some.is
    (c.in_ok-digests.ensures p) in
    let bytes = c.in_ok-joined-in-Some.ensures ∙ ap concat c.deref.ensures.value in (
      refl,
      subst (λ (bs : List ℕ). HandlesHashRequest g.H.NodeHash.digest s p key (sending p (Hashes key bs))) (sym bytes) found,
      refl,
    )

pub returns-in-None : goal.returns-in-None
returns-in-None g c = λ i p.
    let s = state_of c.args.parts.now in
    let key = c.args.key.now in (
      refl,
      subst (λ (o : Option (Vec (List ℕ))). HandlesHashRequest g.H.NodeHash.digest s p key (sending p (answer_of key o))) c.in-None.is
          (c.in_ok-digests.ensures p),
      refl,
    )
