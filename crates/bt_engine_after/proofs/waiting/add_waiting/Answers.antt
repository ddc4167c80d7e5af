use Rattle.std.proofs.Common.{[], ℕ, List, ◌∷◌, ◌++◌, length, map, append-nil, sym, ap, ◌∙◌, subst, arith}
use Rattle.std.proofs.lemmas.List.{length-append}
use Rattle.std.proofs.lemmas.List.Elements.{All-push}
use Rattle.bt_tree.specs.Blocks.{block_count}
use Rattle.bt_machine.specs.Blocks.{block_id}
use Rattle.bt_engine_after.specs.declared.marks.Kind.TheVariants.{Waits}
use Rattle.bt_engine_after.specs.declared.waiting.FileRuns.{FileRuns}
use Rattle.bt_engine_after.specs.MarksSteps.{blocks_of_kind, AreRuns}
use Rattle.bt_engine_after.specs.WaitingSteps.{listed_blocks, AreListed}
use Rattle.bt_engine_after.proofs.OtherMarks.{not_due, due_blocks, listed_put}
use Rattle.bt_engine_after.proofs.waiting.add_waiting.Goals as goal

pub returns-then-not-is_due-clause-blocks : goal.returns-then-not-is_due-clause-blocks
returns-then-not-is_due-clause-blocks g c =
    let none = not_due c.args.slot.now c.args.tree (λ due. absurd (let on = c.is_due.ensures.1 due in let off = c.if-not-is_due.true in cc)) in
    sym (append-nil (listed_blocks c.args.listed.now.items)) ∙ ap (λ xs. listed_blocks c.args.listed.now.items ++ map (block_id c.args.file) xs) (sym none)

pub returns-clause-blocks : goal.returns-clause-blocks
returns-clause-blocks g c =
    let old = listed_blocks c.args.listed.now.items in
    let one : FileRuns = record { file = c.args.file; runs = c.in_ok-runs.runs } in
    let size = c.blocks-blocks.ensures.value ∙ ap block_count c.geometry.ensures.value ∙ sym c.geometry.ensures.states in
    ap (λ (listed : List FileRuns). listed_blocks listed) c.in_ok-push.ensures.items ∙ listed_put c.args.listed.now.items one
    ∙ ap (λ (blocks : List ℕ). old ++ map (block_id c.args.file) blocks)
    (c.in_ok-runs.ensures.blocks ∙ ap (blocks_of_kind Waits c.in-Some.store.states 0) size
    ∙ sym (due_blocks c.args.slot.now c.args.tree c.in-Some.is (c.is_due.ensures.0 c.if-not-is_due.false).of_tree))

pub returns-clause-runs : goal.returns-clause-runs
returns-clause-runs g c =
    let one : FileRuns = record { file = c.args.file; runs = c.in_ok-runs.runs } in
    subst (λ (listed : List FileRuns). AreListed listed) (sym c.in_ok-push.ensures.items)
    (All-push (λ (x : FileRuns). AreRuns x.runs.items) c.args.listed.now.items one c.requires c.in_ok-runs.ensures.runs)

pub returns-clause-few : goal.returns-clause-few
returns-clause-few g c =
    let one : FileRuns = record { file = c.args.file; runs = c.in_ok-runs.runs } in
    omega (arith, ap (λ (listed : List FileRuns). length listed) c.in_ok-push.ensures.items, length-append c.args.listed.now.items (one ∷ []))
