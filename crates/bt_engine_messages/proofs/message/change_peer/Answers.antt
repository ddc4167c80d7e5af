use Rattle.std.proofs.Common.{refl, ap, sym, subst}
use Rattle.bt_machine.specs.State.{PeerState}
use Rattle.bt_machine.specs.Blocks.{with_peer}
use Rattle.bt_machine.specs.HashMessages.{Resolves}
use Rattle.bt_machine.specs.declared.hash_state.HashState.TheVariants.{Refused}
use Rattle.bt_engine_messages.proofs.Standing.{kept}
use Rattle.bt_engine_messages.proofs.message.change_peer.Goals as goal

pub returns-in-KeepAlive-clause-takes : goal.returns-in-KeepAlive-clause-takes
returns-in-KeepAlive-clause-takes c = λ dig s i p here is counted. rw c.in-KeepAlive.is (refl, refl, kept s i p c.args.peer.now here is)

pub returns-in-Cancel-clause-takes : goal.returns-in-Cancel-clause-takes
returns-in-Cancel-clause-takes c = λ dig s i p here is counted. rw c.in-Cancel.is (refl, refl, kept s i p c.args.peer.now here is)

pub returns-in-HashReject-clause-takes : goal.returns-in-HashReject-clause-takes
returns-in-HashReject-clause-takes c = λ dig s i p here is counted. rw c.in-HashReject.is (
  refl,
  refl,
  record {
    hash = c.resolved_hash_state-peer.result;
    resolves = subst (λ h. Resolves c.in-HashReject.key Refused h c.resolved_hash_state-peer.result) (sym (ap (λ (q : PeerState). q.hash) is)) c.resolved_hash_state-peer.ensures;
    after = ap (λ (q : PeerState). with_peer s i (record q { hash = c.resolved_hash_state-peer.result })) (sym is);
  },
)
