use Rattle.std.proofs.Common.{[], refl, ◌∙◌, rules, Result, Ok, Err}
use Rattle.std.specs.Prelude.{IfErr}
use Rattle.bt_machine.specs.Request.{ignored, no_place, not_marked}
use Rattle.bt_engine_state.specs.Parts.{disks_of}
use Rattle.bt_engine_state.proofs.DeviceCalls.{have_none}
use Rattle.bt_engine_state.proofs.Lists.{get_read}
use Rattle.bt_engine_messages.proofs.KeptHints.{keeps_none}
use Rattle.bt_engine_messages.proofs.Requests.{choking_is}
use Rattle.bt_engine_messages.proofs.request.take_request.Goals as goal

pub returns-then-index-clause-takes : goal.returns-then-index-clause-takes
returns-then-index-clause-takes g c =
    let old = c.args.parts.now in
    let here = get_read old.peers.items c.args.index c.index.result.now c.requires.there c.index.ensures in
    record {
      calls = [];
      proofs = [];
      made = have_none g.D.Disk.conduct (disks_of old);
      handles = λ x at. ignored (choking_is old c.args.index here x at ∙ c.if-index.true) refl refl refl;
      keeps = keeps_none old refl;
    }

pub returns-in_default-clause-takes : goal.returns-in_default-clause-takes
returns-in_default-clause-takes g c =
    let old = c.args.parts.now in
    let here = get_read old.peers.items c.args.index c.index.result.now c.requires.there c.index.ensures in
    record {
      calls = [];
      proofs = [];
      made = have_none g.D.Disk.conduct (disks_of old);
      handles = λ x at. no_place (choking_is old c.args.index here x at ∙ c.if-index.false) (rw c.in_default.is at c.place_of.ensures.none) refl refl refl;
      keeps = keeps_none old refl;
    }

pub returns-then-not-are_marked-clause-takes : goal.returns-then-not-are_marked-clause-takes
returns-then-not-are_marked-clause-takes g c =
    let old = c.args.parts.now in
    let here = get_read old.peers.items c.args.index c.index.result.now c.requires.there c.index.ensures in
    record {
      calls = [];
      proofs = [];
      made = have_none g.D.Disk.conduct (disks_of old);
      handles = λ x at. not_marked c.in-Some.span (choking_is old c.args.index here x at ∙ c.if-index.false) c.in-Some.ensures.some c.if-not-are_marked.ensures.no refl refl refl;
      keeps = keeps_none old refl;
    }

if_err : {X E T : Type 0} (r : Result X E) → T → IfErr r (λ e. T)
if_err (Ok x) t = tt
if_err (Err e) t = t

-- the blocks are found marked before room is made: a fact that an answer by name could not show to be missed
pub returns-in_err-room-clause-needed : goal.returns-in_err-room-clause-needed
returns-in_err-room-clause-needed g c =
    let old = c.args.parts.now in
    let here = get_read old.peers.items c.args.index c.index.result.now c.requires.there c.index.ensures in
    if_err c.from_residual.result (record {
      open_to = λ x at. choking_is old c.args.index here x at ∙ c.if-index.false;
      span = c.in-Some.span;
      place = c.in-Some.ensures.some;
      marked = search rules;
    })

pub serve-requires-clause-looked : goal.serve-requires-clause-looked
serve-requires-clause-looked g c =
    let old = c.args.parts.now in
    record {
      peer = c.index.result.now;
      tied = c.requires.tied;
      shaped = c.requires.shaped;
      inside = c.requires.inside;
      there = c.requires.there;
      here = get_read old.peers.items c.args.index c.index.result.now c.requires.there c.index.ensures;
      open_to = c.if-index.false;
      place = c.in-Some.ensures.some;
      are = c.if-not-are_marked.ensures.yes;
    }
