use Rattle.std.proofs.Common.{ap, refl, sym, ◌∙◌}
use Rattle.std.specs.Prelude.{min}
use Rattle.bt_sparse.specs.Answer.{max_run_length}
use Rattle.bt_machine.proofs.Lists.{some_below}
use Rattle.bt_engine_state.proofs.Chains.{roots_numbered}
use Rattle.bt_engine_messages.proofs.HashEvents.{leads_lent, idle_lent, room_found}
use Rattle.bt_engine_messages.proofs.Learnings.{root_found, root_lacks}
use Rattle.bt_engine_messages.proofs.hashes.room_for_notes.Goals as goal

pub returns-in-Some-clause-room : goal.returns-in-Some-clause-room
returns-in-Some-clause-room g c =
    let has = root_found c.args.parts.now.trees.items c.args.parts.now.roots.trees (roots_numbered c.requires.tied) c.args.key.now.root c.in-Some.index (sym c.in-Some.ensures) in
    room_found c.args.parts.now c.args.key.now c.in-Some.index c.deref.result.now c.min.result c.room_for.result
    c.requires.shaped c.deref.ensures.value has.1
    (c.min.ensures ∙ ap (λ n. min n max_run_length) c.settled_count.ensures.value) c.room_for.ensures.value

pub returns-in-None-clause-room : goal.returns-in-None-clause-room
returns-in-None-clause-room g c = record {
  known = λ tree k of.
      absurd (root_lacks c.args.parts.now.trees.items c.args.parts.now.roots.trees (roots_numbered c.requires.tied) c.args.key.now.root (sym c.in-None.ensures)
      tree k (record { here = of.here; same_root = of.same_root }));
  unknown = λ none. refl;
}

pub room_for-requires-clause-idle : goal.room_for-requires-clause-idle
room_for-requires-clause-idle g c = λ none. idle_lent c.args.parts.now c.deref.result.now c.deref.ensures.value c.requires.tied none

pub room_for-requires-clause-lead : goal.room_for-requires-clause-lead
room_for-requires-clause-lead g c =
    let parts = c.args.parts.now in
    let has = root_found parts.trees.items parts.roots.trees (roots_numbered c.requires.tied) c.args.key.now.root c.in-Some.index (sym c.in-Some.ensures) in
    leads_lent parts parts.trees.items c.deref.result.now refl c.deref.ensures.value c.requires.tied c.requires.shaped
    c.in-Some.index (some_below parts.trees.items c.in-Some.index has.1.here)
