-- The tree that answers a key.
use Rattle.std.proofs.Common.{◌≡◌, ℕ, List, map, Option, Some, None, refl, sym, ◌∙◌, ap, subst}
use Rattle.std.specs.Prelude.{slice_get, Result, Ok, Err, IfOk}
use Rattle.std.specs.Global.{Vec}
use Rattle.bt_sparse.specs.SparseTree.{Facts}
use Rattle.bt_hashreq.specs.declared.key.HashKey.{HashKey}
use Rattle.bt_machine.proofs.Lists.{some_is}
use Rattle.bt_machine.specs.State.{EngineState, PeerState}
use Rattle.bt_machine.specs.Output.{sending}
use Rattle.bt_machine.specs.HashMessages.{IsAnswered, HandlesHashRequest, answered, rejected}
use Rattle.bt_engine_state.specs.Roots.{Numbers, number_of, AreNumbered}
use Rattle.bt_engine_messages.specs.HashRequestSteps.{IsAnsweredBy, IsAnswerBy, answer_of}
use Rattle.bt_engine_state.proofs.Chains.{number_is}

module _ (dig : List ℕ → List ℕ) (key : HashKey) (s : EngineState) (numbers : Numbers) (are : AreNumbered (map (λ k. k.root) s.trees) numbers) where
  own_number : {digests : List (List ℕ)} (a : IsAnswered dig s key digests) → number_of numbers key.root ≡ Some a.tree
  own_number a = number_is s.trees numbers key.root are _ a.here.here a.here.same_root

  -- there is no tree of the root
  pub none_answers : number_of numbers key.root ≡ None → (digests : List (List ℕ)) → IsAnswered dig s key digests → ⊥
  none_answers none digests a = absurd (let own = own_number a in cc)

  -- what the tree of the root answers
  pub tree_answers : (i : ℕ) {k : Facts} → slice_get s.trees i ≡ Some k → number_of numbers key.root ≡ Some i → (o : Option (Vec (List ℕ)))
      → IsAnswerBy dig k key o → (p : PeerState) → HandlesHashRequest dig s p key (sending p (answer_of key o))
  tree_answers i {k} here own (Some digests) says p = answered digests.items (record {
    tree = i;
    facts = k;
    here = record { here = here; same_root = says.root };
    request = says.request;
    answer = says.answer;
  }) refl
  tree_answers i {k} here own None says p = rejected (λ digests a. (
      let same : i ≡ a.tree = some_is (sym own ∙ own_number a) in
      let is : a.facts ≡ k = some_is (sym a.here.here ∙ ap (slice_get s.trees) (sym same) ∙ here) in
      says digests (subst (λ (f : Facts). IsAnsweredBy dig f key digests) is (record { root = a.here.same_root; request = a.request; answer = a.answer }))
      )) refl

-- what follows from what an Ok says
pub ok_more : {A E : Type 0} {P Q : A → Type 0} (r : Result A E) → ((x : A) → P x → Q x) → IfOk r P → IfOk r Q
ok_more (Ok x) more says = more x says
ok_more (Err e) more says = tt
