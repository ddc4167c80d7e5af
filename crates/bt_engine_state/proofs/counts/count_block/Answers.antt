use Rattle.std.proofs.Common.{◌+◌, ◌-◌, List, get_or, ap, ◌∙◌}
use Rattle.std.specs.Prelude.{ℕ, slice_set}
use Rattle.std.proofs.lemmas.List.{with_items_is}
use Rattle.bt_engine_state.specs.BlockChangeSteps.{mark_count}
use Rattle.bt_engine_state.proofs.counts.count_block.Goals as goal

pub count_unmarked-requires-clause-inside : goal.count_unmarked-requires-clause-inside
count_unmarked-requires-clause-inside c = rw c.deref_mut.ensures.value c.requires.inside

pub count_unmarked-requires-clause-room : goal.count_unmarked-requires-clause-room
count_unmarked-requires-clause-room c = rw c.deref_mut.ensures.value c.requires.room

pub count_unmarked-requires-clause-some : goal.count_unmarked-requires-clause-some
count_unmarked-requires-clause-some c = rw c.deref_mut.ensures.value c.requires.some

pub returns-clause-unmarked : goal.returns-clause-unmarked
returns-clause-unmarked c =
    with_items_is c.args.counts.now.unmarked c.count_unmarked.new.unmarked (c.count_unmarked.auto.unmarked ∙ c.deref_mut.ensures.len)
    ∙ c.count_unmarked.ensures
    ∙ ap (λ (xs : List ℕ). slice_set xs c.args.piece (get_or xs c.args.piece 0 + mark_count c.args.was - mark_count c.args.now)) c.deref_mut.ensures.value
