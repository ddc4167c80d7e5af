use Rattle.std.proofs.Common.{sym, ap, ◌∙◌, refl, subst, arith}
use Rattle.std.specs.Prelude.{is_some}
use Rattle.bt_tree.specs.Blocks.{block_count}
use Rattle.bt_store.specs.declared.adoption.Adopted.{Adopted}
use Rattle.bt_engine_state.specs.Parts.{pending_of}
use Rattle.bt_engine_after.specs.GroupSteps.{file_view}
use Rattle.bt_engine_after.proofs.Logs.{logged_same}
use Rattle.bt_engine_after.proofs.Takings.{AreTaking, taking_begun, taking_more, taking_stopped, if_err_by}
use Rattle.bt_engine_after.proofs.groups.adopt_groups.Goals as goal

pub loop-total-init : goal.loop-total-init
loop-total-init g c = record { taking = taking_begun c.calls_compose.ensures.none; log = refl }

pub adopt_group-requires-clause-geometry : goal.adopt_group-requires-clause-geometry
adopt_group-requires-clause-geometry g c =
    c.loop-total.invariant.taking.takes.still.long ∙ c.requires ∙ sym c.loop-total.invariant.taking.takes.same_file

pub adopt_group-requires-clause-inside : goal.adopt_group-requires-clause-inside
adopt_group-requires-clause-inside g c =
    omega (arith, c.loop-total-test.true, c.blocks-blocks.ensures.value, ap block_count c.geometry.ensures.value, ap block_count c.loop-total.invariant.taking.takes.same_file)

pub adopt_group-requires-clause-states : goal.adopt_group-requires-clause-states
adopt_group-requires-clause-states g c =
    let takes = c.loop-total.invariant.taking.takes in
    takes.same_size ∙ c.geometry.ensures.states ∙ sym (ap block_count takes.same_file)

pub returns-in_err-group-clause-stop : goal.returns-in_err-group-clause-stop
returns-in_err-group-clause-stop g c =
    let stopped = taking_stopped c.calls_compose.ensures.none c.loop-total.invariant.taking c.in_err-group.ensures.stop in
    if_err_by c.from_residual.result (rw (c.in_err-group.ensures.tree, c.in_err-group.ensures.pending) stopped)

pub returns-in_err-group-clause-unknown : goal.returns-in_err-group-clause-unknown
returns-in_err-group-clause-unknown g c =
    if_err_by c.from_residual.result (λ bare. (
      c.loop-total.total.next,
      omega (arith, c.loop-total-test.true, c.blocks-blocks.ensures.value, ap block_count c.geometry.ensures.value, c.geometry.ensures.states),
      rw c.in_err-group.ensures.tree (c.in_err-group.ensures.unknown (logged_same c.loop-total.log c.args.log.now c.loop-total.invariant.log ∙ bare)),
    ))

pub returns-in_err-group-clause-log : goal.returns-in_err-group-clause-log
returns-in_err-group-clause-log g c = c.adopt_group.ensures.log ∙ c.loop-total.invariant.log

pub together-total-requires-clause-marked : goal.together-total-requires-clause-marked
together-total-requires-clause-marked g c =
    let same = ap block_count (c.geometry.ensures.value ∙ sym c.requires) in
    let group = rw (logged_same c.loop-total.log c.args.log.now c.loop-total.invariant.log) at c.in_ok-group.ensures.ok in
    let more = taking_more c.calls_compose.ensures.both c.root.ensures.sound.rooted c.loop-total.invariant.taking (omega (arith, c.loop-total-test.true, c.blocks-blocks.ensures.value, same))
    group
    (omega (arith, c.in_ok-group.ensures.within, ap block_count c.loop-total.invariant.taking.takes.same_file, ap block_count c.requires)) in
    omega (arith, more.marked, c.in_ok-group.ensures.within)

pub together-total-requires-clause-faults : goal.together-total-requires-clause-faults
together-total-requires-clause-faults g c =
    let same = ap block_count (c.geometry.ensures.value ∙ sym c.requires) in
    let group = rw (logged_same c.loop-total.log c.args.log.now c.loop-total.invariant.log) at c.in_ok-group.ensures.ok in
    let more = taking_more c.calls_compose.ensures.both c.root.ensures.sound.rooted c.loop-total.invariant.taking (omega (arith, c.loop-total-test.true, c.blocks-blocks.ensures.value, same))
    group
    (omega (arith, c.in_ok-group.ensures.within, ap block_count c.loop-total.invariant.taking.takes.same_file, ap block_count c.requires)) in
    omega (arith, more.faulty, c.in_ok-group.ensures.within)

pub loop-total-preserved : goal.loop-total-preserved
loop-total-preserved g c =
    let d = g.D.Disk in
    let same = ap block_count (c.geometry.ensures.value ∙ sym c.requires) in
    let group = rw (logged_same c.loop-total.log c.args.log.now c.loop-total.invariant.log) at c.in_ok-group.ensures.ok in
    record {
      taking = subst (λ (t : Adopted). AreTaking d.conduct g.H.NodeHash.digest c.args.file (is_some c.args.log.now)
          (file_view c.args.tree.now c.args.store.now (pending_of c.args.log.now)) t (file_view c.adopt_group.new.tree c.adopt_group.new.store (pending_of c.adopt_group.new.log))) (sym c.together-total.ensures)
          (taking_more c.calls_compose.ensures.both c.root.ensures.sound.rooted c.loop-total.invariant.taking (omega (arith, c.loop-total-test.true, c.blocks-blocks.ensures.value, same))
          group
          (omega (arith, c.in_ok-group.ensures.within, ap block_count c.loop-total.invariant.taking.takes.same_file, ap block_count c.requires)));
      log = c.adopt_group.ensures.log ∙ c.loop-total.invariant.log;
    }

pub returns-clause-all : goal.returns-clause-all
returns-clause-all g c =
    omega (
      arith,
      c.loop-total-test.false,
      c.loop-total.invariant.taking.inside,
      c.blocks-blocks.ensures.value,
      ap block_count (c.geometry.ensures.value ∙ sym c.requires),
      ap block_count c.requires,
      c.geometry.ensures.states,
    )

pub returns-clause-log : goal.returns-clause-log
returns-clause-log g c = c.loop-total.invariant.log
