use Rattle.std.proofs.Common.{◌≡◌, ◌∷◌, [], ℕ, List, suc, take, Some, sym, ap, subst, ◌∙◌, add-one}
use Rattle.std.specs.Prelude.{All}
use Rattle.std.proofs.lemmas.List.Elements.{All-append, All-cons, All-head, All-nil, All-tail}
use Rattle.std.specs.Array.Iter.{array_into_iter_items, array_steps}
use Rattle.std.specs.Iterator.Adapters.{take_count, take_source, take_steps}
use Rattle.std.specs.declared.net.socket_addr.SocketAddr.{SocketAddr}
use Rattle.std.specs.Net.ToAddrs.{HostAddrs, IsHostAndPort, host_addrs}
use Rattle.std.specs.Net.Grammar.{IsIpText}
use Rattle.bt_sockets.specs.StreamSteps.{IsAddressOf}
use Rattle.bt_sockets.proofs.Hosts.{text_is, spells}
use Rattle.bt_sockets.proofs.stream.addresses_of.Goals as goal

-- the address that comes is the first of those that were left
first_left : (before after : HostAddrs) (address : SocketAddr) → take_steps array_steps before (Some address) after
    → host_addrs before ≡ address ∷ host_addrs after
first_left before after address step =
    ap (λ n. take n (array_into_iter_items (take_source before))) (sym step.1 ∙ add-one (take_count after))
    ∙ ap (take (suc (take_count after))) step.0

-- what holds of all that were left holds of it, and of those after it
module _ (P : SocketAddr → Type 0) (before after : HostAddrs) (address : SocketAddr) (step : take_steps array_steps before (Some address) after)
    (all : All P (host_addrs before)) where
  now : P address
  now = All-head P address (host_addrs after) (subst (All P) (first_left before after address step) all)

  later : All P (host_addrs after)
  later = All-tail P address (host_addrs after) (subst (All P) (first_left before after address step) all)

pub loop-address-init : goal.loop-address-init
loop-address-init g c = (
  (
      λ written ip writes.
      let same : c.text_of.result.now ≡ written = text_is c.args.host.now c.text_of.result.now written ip c.text_of.ensures writes in
      let spelled : IsIpText c.text_of.result.now ip = subst (λ (t : List ℕ). IsIpText t ip) (sym same) (spells c.args.host.now written ip writes) in
      let one = c.in_ok-known.ensures.gives ip spelled in
      let P = IsHostAndPort written c.args.port in
      let is_it : P one.0 = subst (λ (t : List ℕ). IsHostAndPort t c.args.port one.0) same one.2 in
      subst (All P) (sym (ap host_addrs c.into_iter-address-iterator.ensures.into_iter_gives ∙ one.1)) (All-cons P one.0 [] is_it (All-nil P))
      ),
  subst (All (IsAddressOf c.args.host.now c.args.port)) (sym c.new-found.ensures.items) (All-nil (IsAddressOf c.args.host.now c.args.port)),
)

pub loop-address-preserved : goal.loop-address-preserved
loop-address-preserved g c =
    let P = IsAddressOf c.args.host.now c.args.port in
    let it : P c.in-Some.address
    = λ written ip writes. now (IsHostAndPort written c.args.port) _ _ c.in-Some.address c.in-Some.ensures.steps (c.loop-address.invariant.0 written ip writes) in (
      (
          λ written ip writes.
          later (IsHostAndPort written c.args.port) _ _ c.in-Some.address c.in-Some.ensures.steps (c.loop-address.invariant.0 written ip writes)
          ),
      subst (All P) (sym c.in_ok-push.ensures.items)
          (All-append P c.loop-address.found.items (c.in-Some.address ∷ []) c.loop-address.invariant.1 (All-cons P c.in-Some.address [] it (All-nil P))),
    )
