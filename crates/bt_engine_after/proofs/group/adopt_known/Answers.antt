use Rattle.std.proofs.Common.{ℕ, ◌<◌, List, length, sym, ap, ◌∙◌, arith}
use Rattle.std.specs.Prelude.{filter}
use Rattle.std.proofs.lemmas.List.Elements.{All-same}
use Rattle.bt_tree.specs.Limits.{max_block_count}
use Rattle.bt_tree.specs.Blocks.{block_count}
use Rattle.bt_store.specs.Review.{is_marked_at}
use Rattle.bt_machine.specs.Hints.{add_hints}
use Rattle.bt_engine_after.specs.MarksSteps.{unmarked_blocks, marks_in}
use Rattle.bt_engine_after.proofs.RunMarks.{unmarked_within}
use Rattle.bt_engine_after.proofs.GroupMarks.{takes_known}
use Rattle.bt_engine_after.proofs.group.adopt_known.Goals as goal

pub push_marked-requires-clause-within : goal.push_marked-requires-clause-within
push_marked-requires-clause-within g c =
    let group = c.blocks_ahead-group.result in
    All-same (λ (b : ℕ). b < max_block_count) c.as_slice.result.now (unmarked_blocks c.args.store.now.states c.blocks_ahead-group.result.first c.blocks_ahead-group.result.count)
    (c.as_slice.ensures.value ∙ c.unmarked_blocks-unmarked.ensures) (unmarked_within c.args.store.now.states group.first group.count c.blocks_ahead-group.ensures.limit)

pub push_marked-requires-clause-room : goal.push_marked-requires-clause-room
push_marked-requires-clause-room g c = omega (arith, c.in_ok-reserve.ensures.room, c.len.ensures.value, ap (λ (blocks : List ℕ). length blocks) c.as_slice.ensures.value)

pub returns-clause-ok : goal.returns-clause-ok
returns-clause-ok g c =
    let states = c.args.store.now.states in
    let pending = c.args.pending.now.hints in
    let file = c.args.file in
    let marked = is_marked_at c.adopt.new.self.states in
    let same = ap block_count c.requires.geometry in
    takes_known file pending c.in_ok-adopted.ensures.ok.1 c.push_marked.new.pending.hints (c.requires.states ∙ sym same) (omega (arith, c.requires.inside, same)) c.requires.known
    (c.push_marked.ensures ∙ ap (λ hs. add_hints hs (marks_in file (filter marked c.as_slice.result.now))) c.reserve.ensures.hints
    ∙ ap (λ (xs : List ℕ). add_hints pending (marks_in file (filter marked xs)))
    (c.as_slice.ensures.value ∙ c.unmarked_blocks-unmarked.ensures ∙ ap (λ i. unmarked_blocks states i c.blocks_ahead-group.result.count) c.blocks_ahead-group.ensures.first
    ∙ ap (unmarked_blocks states c.args.from) c.blocks_ahead-group.ensures.count))
