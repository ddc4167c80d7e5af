use Rattle.std.proofs.Common.{◌≡◌, inl, inr, arith, ap, sym, ◌∙◌, List, length}
use Rattle.std.proofs.lemmas.Bool.{cases_lt}
use Rattle.std.specs.Prelude.{slice_get}
use Rattle.bt_machine.proofs.Lists.{some_below, some_is}
use Rattle.bt_book.proofs.Ranks.{same_peer}
use Rattle.bt_engine_state.specs.declared.peer.Peer.{Peer}
use Rattle.bt_engine_state.proofs.Lists.{get_read}
use Rattle.bt_engine_state.proofs.peers.index_of.Goals as goal

pub returns-then-peer-key-clause-some : goal.returns-then-peer-key-clause-some
returns-then-peer-key-clause-some g c = record {
  peer = c.peer-item.result;
  here = ap (λ (xs : List Peer). slice_get xs c.loop-index.index) (sym c.deref-peer-items.ensures.value) ∙ get_read _ _ _ c.loop-index-test.true c.peer-item.is;
  same_key = same_peer _ _ c.if-peer-key.true;
}

pub returns-clause-none : goal.returns-clause-none
returns-clause-none g c = λ i p here.
    let lt = some_below c.args.parts.now.peers.items i here in
    let same = ap (λ (xs : List Peer). length xs) c.deref-peer-items.ensures.value in
    let past = c.loop-index-test.false in
    c.loop-index.invariant i p (omega arith) here

pub loop-index-preserved : goal.loop-index-preserved
loop-index-preserved g c = λ j p lt there. elim (cases_lt j c.loop-index.index) [
  | inl before ↦ c.loop-index.invariant j p before there
  | inr from ↦ λ same. c.if-peer-key.false (
      let at : j ≡ c.loop-index.index = omega arith in
      let read = ap (λ (xs : List Peer). slice_get xs c.loop-index.index) (sym c.deref-peer-items.ensures.value) ∙ get_read _ _ _ c.loop-index-test.true c.peer-item.is in
      let is : p ≡ c.peer-item.result = some_is (sym there ∙ ap (slice_get c.args.parts.now.peers.items) at ∙ read) in
      ap (λ (q : Peer). q.key.0) (sym is) ∙ ap (λ k. k.0) same)
]
