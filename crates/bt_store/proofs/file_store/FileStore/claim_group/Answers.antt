use Rattle.std.proofs.Common.{◌≡◌, ◌≢◌, ◌+◌, ◌≤◌, Bool, sym, ap, ◌∙◌, subst, arith, refl}
use Rattle.std.specs.Bool.{OnTrue, OnFalse}
use Rattle.bt_sparse.specs.Acceptance.{Accepts, IsRefused}
use Rattle.bt_sparse.specs.declared.claim.ProofError.{ProofError}
use Rattle.bt_sparse.specs.declared.claim.ProofError.TheVariants.{OutOfMemory}
use Rattle.bt_store.specs.Adoption.{Adopts, leaf_claim, marked_group}
use Rattle.bt_store.proofs.Adoptions.{adopts_unread, adopts_short, adopts_refused, adopts_accepted}
use Rattle.bt_store.proofs.file_store.FileStore.claim_group.Goals as goal

pub returns-then-reads-gt0-clause-ok : goal.returns-then-reads-gt0-clause-ok
returns-then-reads-gt0-clause-ok g c = λ from reads group are.
    let a = c.args in
    adopts_unread g.H.NodeHash.digest a.self.now.file_length a.tree.now from a.anchor a.group.first a.group.count a.self.now.states reads a.reads a.leaves.items
    (sym c.requires.geometry) group are c.if-reads-gt0.true

pub returns-then-reads-count-clause-ok : goal.returns-then-reads-count-clause-ok
returns-then-reads-count-clause-ok g c = λ from reads group are.
    let a = c.args in
    let none : a.reads.faults ≡ 0 = omega (arith, c.if-reads-gt0.false) in
    adopts_short g.H.NodeHash.digest a.self.now.file_length a.tree.now from a.anchor a.group.first a.group.count a.self.now.states reads a.reads a.leaves.items
    (sym c.requires.geometry) group are none c.if-reads-count.true

pub returns-then-not-is_accepted-clause-ok : goal.returns-then-not-is_accepted-clause-ok
returns-then-not-is_accepted-clause-ok g c =
    let a = c.args in
    let dig = g.H.NodeHash.digest in
    let k = a.tree.now in
    let none : a.reads.faults ≡ 0 = omega (arith, c.if-reads-gt0.false) in
    let some : a.group.count ≤ a.reads.whole = omega (arith, c.if-reads-count.false) in
    let refusal = subst (λ (b : Bool). OnFalse b ((error : ProofError) × IsRefused dig k (leaf_claim a.group.first a.leaves.items) error × (error ≢ OutOfMemory)))
    c.if-not-is_accepted.true c.in-Ok.ensures.refused in
    let kept = subst (λ b. OnFalse b (c.claim_leaves.new.tree ≡ k)) c.if-not-is_accepted.true c.in-Ok.ensures.unchanged in
    rw kept (λ from reads group are.
    adopts_refused dig a.self.now.file_length k from a.anchor a.group.first a.group.count a.self.now.states reads a.reads a.leaves.items
    (sym c.requires.geometry) group are none some refusal.0 refusal.1 refusal.2)

pub returns-clause-ok : goal.returns-clause-ok
returns-clause-ok g c = λ from reads group are.
    let a = c.args in
    let dig = g.H.NodeHash.digest in
    let k = a.tree.now in
    let grown = c.claim_leaves.new.tree in
    let none : a.reads.faults ≡ 0 = omega (arith, c.if-reads-gt0.false) in
    let some : a.group.count ≤ a.reads.whole = omega (arith, c.if-reads-count.false) in
    let accepts = subst (λ b. OnTrue b (Accepts dig k (leaf_claim a.group.first a.leaves.items) grown)) c.if-not-is_accepted.false c.in-Ok.ensures.accepted in
    let marks : c.mark_group.new.states ≡ marked_group a.group.first a.group.count a.self.now.states =
    c.mark_group.ensures.value ∙ ap (λ s. marked_group a.group.first a.group.count s.states) c.self.view_is in
    subst (λ s. Adopts dig k from a.self.now.states reads (record { next = a.group.first + a.group.count; anchor = a.anchor; marked = a.group.count; faults = a.reads.faults }) grown s)
    (sym marks)
    (adopts_accepted dig a.self.now.file_length k from a.anchor a.group.first a.group.count a.self.now.states reads a.reads a.leaves.items
    (sym c.requires.geometry) group are grown none some accepts)

pub returns-clause-faults : goal.returns-clause-faults
returns-clause-faults g c = refl
