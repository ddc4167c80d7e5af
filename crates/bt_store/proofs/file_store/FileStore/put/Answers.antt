use Rattle.std.proofs.Common.{◌≡◌, ℕ, Bool, true, false, List, Some, None, Option, Result, refl, ap, ◌∙◌, subst, rules}
use Rattle.std.specs.Prelude.{is_some, slice_get}
use Rattle.bt_disk.proofs.CallLists.{has_none}
use Rattle.bt_sparse.specs.SparseTree.{Facts, value_at}
use Rattle.bt_store.specs.Arrival.{IsBlock, IsWrong, IsNotWrong, PutIsDue}
use Rattle.bt_store.specs.ArrivalSteps.{IsWritten, marked, waiting, fault}
use Rattle.bt_store.specs.declared.arrival.Put.{Put}
use Rattle.bt_store.specs.declared.block_states.BlockState.{BlockState}
use Rattle.bt_store.specs.declared.block_states.BlockState.TheVariants.{Missing}
use Rattle.bt_store.specs.declared.error.StoreError.{StoreError}
use Rattle.bt_store.proofs.file_store.FileStore.put.Goals as goal

-- a known leaf that is not wrong is the digest
right_leaf : (dig : List ℕ → List ℕ) (leaf : Option (List ℕ)) (bytes : List ℕ) → true ≡ is_some leaf → IsNotWrong dig leaf bytes → leaf ≡ Some (dig bytes)
right_leaf dig None bytes known right = absurd cc
right_leaf dig (Some d) bytes known right = ap (λ x. Some x) (right d refl)

no_leaf : (leaf : Option (List ℕ)) → false ≡ is_some leaf → leaf ≡ None
no_leaf None unknown = refl
no_leaf (Some d) unknown = absurd cc

-- what the answer of a write means, where the block was missing and is not known to be wrong
written_due : (dig : List ℕ → List ℕ) (k : Facts) (i : ℕ) (bytes : List ℕ) (states : List BlockState) {known : Bool} {answer : Result Put StoreError}
    → IsBlock k.file_length i bytes → slice_get states i ≡ Some Missing → IsNotWrong dig (value_at dig k 0 i) bytes → known ≡ is_some (value_at dig k 0 i)
    → IsWritten known answer → PutIsDue dig k i bytes states answer
written_due dig k i bytes states block missing right known marked = (block, missing, right_leaf dig (value_at dig k 0 i) bytes known right)
written_due dig k i bytes states block missing right known waiting = (block, missing, no_leaf (value_at dig k 0 i) known)
written_due dig k i bytes states block missing right known (fault _) = (block, missing, right)

pub returns-clause-why : goal.returns-clause-why
returns-clause-why g c =
    let dig = g.H.NodeHash.digest in
    let k = c.args.tree.now in
    let i = c.args.block in
    let bytes = c.args.bytes.now in
    let block : IsBlock k.file_length i bytes = search rules in
    let missing : slice_get c.args.self.now.states i ≡ Some Missing = search rules in
    let right : IsNotWrong dig (value_at dig k 0 i) bytes = subst (λ leaf. IsNotWrong dig leaf bytes) c.known-leaf.ensures c.if-is_wrong.ensures.no in
    let known : c.is_some.result ≡ is_some (value_at dig k 0 i) = c.is_some.ensures ∙ ap is_some c.known-leaf.ensures in
    written_due dig k i bytes c.args.self.now.states block missing right known c.write.ensures.written

pub returns-then-is_wrong-clause-why : goal.returns-then-is_wrong-clause-why
returns-then-is_wrong-clause-why g c =
    let dig = g.H.NodeHash.digest in
    let block : IsBlock c.args.tree.now.file_length c.args.block c.args.bytes.now = search rules in
    let missing : slice_get c.args.self.now.states c.args.block ≡ Some Missing = search rules in
    (block, missing, subst (λ leaf. IsWrong dig leaf c.args.bytes.now) c.known-leaf.ensures c.if-is_wrong.ensures.yes)

pub returns-then-is_wrong-clause-calls : goal.returns-then-is_wrong-clause-calls
returns-then-is_wrong-clause-calls g c =
    let d = g.D.Disk in
    has_none d.conduct c.args.self.now.disk
