use Rattle.std.proofs.Common.{◌+◌, ◌<◌, length, sym, ap, ◌∙◌, subst, arith}
use Rattle.bt_engine_state.specs.declared.parts.Parts.{Parts}
use Rattle.bt_engine_after.specs.PartsSteps.{KeepsRest}
use Rattle.bt_engine_state.proofs.Chains.{stands_there, none_passed, walk_begins, walk_goes_on}
use Rattle.bt_engine_after.proofs.OtherFiles.{as_many_trees, rest_then, next_read, AreSettled, settled_begun, settled_more, settled_skipped, settled_past, settled_done}
use Rattle.bt_engine_after.proofs.settling.settle_others.Goals as goal
use Rattle.bt_engine_after.proofs.settling.settle_others.Goals.{then-other-file, else-other-file}

pub loop-other-init : goal.loop-other-init
loop-other-init g c =
    let is = walk_begins c.requires.lead c.index-other.result.now c.index-other.ensures in
    record {
      stands = stands_there is;
      settled = settled_past c.index-other.result.now (settled_begun c.requires.here c.requires.in_line) is.inside (none_passed is);
    }

pub settle_file-requires-clause-alone : goal.settle_file-requires-clause-alone
settle_file-requires-clause-alone g c =
    ap (λ (p : Parts g.row.D.Denot g.row.H.Denot). p.peers.items) c.loop-other.invariant.settled.rest.others ∙ c.requires.alone

pub settle_file-requires-clause-inside : goal.settle_file-requires-clause-inside
settle_file-requires-clause-inside g c = omega (arith, c.loop-other-test.true, c.len.ensures)

pub settle_file-requires-clause-here : goal.settle_file-requires-clause-here
settle_file-requires-clause-here g c =
    omega (arith, c.requires.here, as_many_trees c.loop-other.invariant.settled.rest, c.loop-other.parts.trees.ok.0, c.args.parts.now.trees.ok.0)

pub loop-other-preserved : goal.loop-other-preserved
loop-other-preserved g c =
    let d = g.D.Disk in
    let l = c.loop-other in
    let next = c.index-other-in-loop-other.result.now in
    let old = c.args.parts.now in
    let lt : l.other < length old.slots.items = omega (arith, c.loop-other-test.true, c.len.ensures, l.parts.slots.ok.0, l.invariant.settled.rest.count) in
    elim c.if-other-file.branch [
      | then-other-file w ↦
          let now = settled_more l.invariant.settled w.if-other-file.true w.settle_file.ensures.settles w.settle_file.ensures.log w.settle_file.ensures.rest w.settle_file.ensures.in_line in
          let same = subst (λ (p : Parts g.row.D.Denot g.row.H.Denot). AreSettled d.conduct g.H.NodeHash.digest c.args.file c.args.tree old (l.other + 1) p) (sym w.parts-is) now in
          let is = walk_goes_on c.requires.lead next l.invariant.stands lt (next_read same.rest l.other next c.index-other-in-loop-other.ensures) in
          record { stands = stands_there is; settled = settled_past next same is.inside (none_passed is) }
      | else-other-file w ↦
          let same = subst (λ (p : Parts g.row.D.Denot g.row.H.Denot). AreSettled d.conduct g.H.NodeHash.digest c.args.file c.args.tree old (l.other + 1) p) (sym w.parts-is)
          (settled_skipped l.invariant.settled w.if-other-file.false) in
          let is = walk_goes_on c.requires.lead next l.invariant.stands lt (next_read same.rest l.other next c.index-other-in-loop-other.ensures) in
          record { stands = stands_there is; settled = settled_past next same is.inside (none_passed is) }
    ]

pub loop-other-smaller : goal.loop-other-smaller
loop-other-smaller g c =
    let d = g.D.Disk in
    let l = c.loop-other in
    let next = c.index-other-in-loop-other.result.now in
    let old = c.args.parts.now in
    let lt : l.other < length old.slots.items = omega (arith, c.loop-other-test.true, c.len.ensures, l.parts.slots.ok.0, l.invariant.settled.rest.count) in
    elim c.if-other-file.branch [
      | then-other-file w ↦
          let rest = rest_then l.invariant.settled.rest w.settle_file.ensures.rest in
          let is = walk_goes_on c.requires.lead next l.invariant.stands lt (next_read (subst (λ (p : Parts g.row.D.Denot g.row.H.Denot). KeepsRest old p) (sym w.parts-is) rest) l.other next c.index-other-in-loop-other.ensures) in
          omega (arith, is.inside, lt)
      | else-other-file w ↦
          let is = walk_goes_on c.requires.lead next l.invariant.stands lt
          (next_read (subst (λ (p : Parts g.row.D.Denot g.row.H.Denot). KeepsRest old p) (sym w.parts-is) l.invariant.settled.rest) l.other next c.index-other-in-loop-other.ensures) in
          omega (arith, is.inside, lt)
    ]

pub returns-clause-settles : goal.returns-clause-settles
returns-clause-settles g c =
    let l = c.loop-other in
    settled_done l.invariant.settled
    (omega (arith, c.loop-other-test.false, c.len.ensures, l.parts.slots.ok.0, l.invariant.settled.rest.count, l.invariant.stands.limit))

pub returns-clause-log : goal.returns-clause-log
returns-clause-log g c = c.loop-other.invariant.settled.log

pub returns-clause-rest : goal.returns-clause-rest
returns-clause-rest g c = c.loop-other.invariant.settled.rest

pub returns-clause-in_line : goal.returns-clause-in_line
returns-clause-in_line g c = c.loop-other.invariant.settled.in_line
