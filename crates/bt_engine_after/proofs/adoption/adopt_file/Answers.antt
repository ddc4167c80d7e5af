use Rattle.std.proofs.Common.{Some, ◌∙◌}
use Rattle.bt_machine.proofs.Lists.{set_same}
use Rattle.bt_engine_state.specs.Parts.{state_of}
use Rattle.bt_engine_after.proofs.Slots.{here_at, has_file, not_empty, tree_there, stands_at, if_ok_two, if_err_then, if_err_two, either_way, adopts_in, stops_in, unknown_in, both_changed, kept_taken, kept_stopped, parts_with}
use Rattle.bt_engine_after.proofs.LeftOut.{follows_still, in_line_again, rest_again, adopts_again, stops_again, unknown_again}
use Rattle.bt_engine_after.proofs.adoption.adopt_file.Goals as goal

pub leave_out-requires : goal.leave_out-requires
leave_out-requires g c =
    let old = c.args.parts.now in
    (state_of old, has_file old (here_at old c.requires.inside c.index_mut-slot.ensures.value), c.requires.in_line.follows)

pub unreachable-requires : goal.unreachable-requires
unreachable-requires g c =
    not_empty c.args.parts.now c.args.file (here_at c.args.parts.now c.requires.inside c.index_mut-slot.ensures.value) c.requires.some c.in_default.is

pub index_mut-tree-requires : goal.index_mut-tree-requires
index_mut-tree-requires g c =
    tree_there c.args.parts.now c.args.file (here_at c.args.parts.now c.requires.inside c.index_mut-slot.ensures.value) c.requires.in_line.fits c.in-Some.is

pub adopt_groups-adopted-requires : goal.adopt_groups-adopted-requires
adopt_groups-adopted-requires g c =
    let here = here_at c.args.parts.now c.requires.inside c.index_mut-slot.ensures.value in
    (stands_at c.args.parts.now c.args.file here c.requires.in_line.fits c.in-Some.is c.index_mut-tree.ensures.value).same

pub count_in-requires : goal.count_in-requires
count_in-requires g c =
    let old = c.args.parts.now in
    let a = c.adopt_groups-adopted in
    let slot = c.index_mut-slot.result.now in
    let here = here_at old c.requires.inside c.index_mut-slot.ensures.value in
    let at = stands_at old c.args.file here c.requires.in_line.fits c.in-Some.is c.index_mut-tree.ensures.value in
    let changes = both_changed at (either_way a.result a.ensures.ok a.ensures.stop (λ total takes. kept_taken takes) (λ stops. kept_stopped stops)) c.requires.in_line.fits a.new.log a.ensures.log in
    let mid = parts_with old c.args.file slot a.new.store a.new.tree a.new.log in (
      state_of mid,
      has_file mid {slot = record slot { store = Some a.new.store }} (set_same old.slots.items c.args.file here),
      follows_still old mid.slots mid.trees mid.log changes (c.leave_out.ensures.followed (state_of old) (has_file old here) c.requires.in_line.follows),
    )

pub returns-clause-ok : goal.returns-clause-ok
returns-clause-ok g c =
    let a = c.adopt_groups-adopted in
    let n = c.count_in.new in
    let mid = parts_with c.args.parts.now c.args.file c.index_mut-slot.result.now a.new.store a.new.tree a.new.log in
    let here = here_at c.args.parts.now c.requires.inside c.index_mut-slot.ensures.value in
    let at = stands_at c.args.parts.now c.args.file here c.requires.in_line.fits c.in-Some.is c.index_mut-tree.ensures.value in
    if_ok_two a.result a.ensures.ok a.ensures.all (λ total takes all. adopts_again mid n.book n.counts c.requires.alone c.args.parts.now (adopts_in at a.new.log a.ensures.log takes all))

pub returns-clause-stop : goal.returns-clause-stop
returns-clause-stop g c =
    let a = c.adopt_groups-adopted in
    let n = c.count_in.new in
    let mid = parts_with c.args.parts.now c.args.file c.index_mut-slot.result.now a.new.store a.new.tree a.new.log in
    let here = here_at c.args.parts.now c.requires.inside c.index_mut-slot.ensures.value in
    let at = stands_at c.args.parts.now c.args.file here c.requires.in_line.fits c.in-Some.is c.index_mut-tree.ensures.value in
    if_err_then a.result a.ensures.stop
    (λ stops. stops_again mid n.book n.counts c.requires.alone c.args.parts.now (stops_in at a.new.log a.ensures.log c.calls_compose.ensures.both c.requires.some stops))

pub returns-clause-unknown : goal.returns-clause-unknown
returns-clause-unknown g c =
    let a = c.adopt_groups-adopted in
    let n = c.count_in.new in
    let mid = parts_with c.args.parts.now c.args.file c.index_mut-slot.result.now a.new.store a.new.tree a.new.log in
    let here = here_at c.args.parts.now c.requires.inside c.index_mut-slot.ensures.value in
    let at = stands_at c.args.parts.now c.args.file here c.requires.in_line.fits c.in-Some.is c.index_mut-tree.ensures.value in
    if_err_two a.result a.ensures.stop a.ensures.unknown
    (λ stops leaf bare. unknown_again mid n.book n.counts c.requires.alone (unknown_in at a.new.log a.ensures.log stops (leaf bare)))

pub returns-clause-rest : goal.returns-clause-rest
returns-clause-rest g c =
    let old = c.args.parts.now in
    let a = c.adopt_groups-adopted in
    let here = here_at old c.requires.inside c.index_mut-slot.ensures.value in
    let at = stands_at old c.args.file here c.requires.in_line.fits c.in-Some.is c.index_mut-tree.ensures.value in
    let changes = both_changed at (either_way a.result a.ensures.ok a.ensures.stop (λ total takes. kept_taken takes) (λ stops. kept_stopped stops)) c.requires.in_line.fits a.new.log a.ensures.log in
    let mid = parts_with old c.args.file c.index_mut-slot.result.now a.new.store a.new.tree a.new.log in
    rest_again old mid.slots mid.trees mid.log changes c.count_in.new.book c.count_in.new.counts (c.count_in.ensures.peers ∙ c.leave_out.ensures.peers)

pub returns-clause-in_line : goal.returns-clause-in_line
returns-clause-in_line g c =
    let old = c.args.parts.now in
    let a = c.adopt_groups-adopted in
    let here = here_at old c.requires.inside c.index_mut-slot.ensures.value in
    let at = stands_at old c.args.file here c.requires.in_line.fits c.in-Some.is c.index_mut-tree.ensures.value in
    let changes = both_changed at (either_way a.result a.ensures.ok a.ensures.stop (λ total takes. kept_taken takes) (λ stops. kept_stopped stops)) c.requires.in_line.fits a.new.log a.ensures.log in
    let slot = c.index_mut-slot.result.now in
    let mid = parts_with old c.args.file slot a.new.store a.new.tree a.new.log in
    in_line_again old mid.slots mid.trees mid.log changes c.count_in.new.book c.count_in.new.counts
    (c.count_in.ensures.followed (state_of mid) (has_file mid {slot = record slot { store = Some a.new.store }} (set_same old.slots.items c.args.file here))
    (follows_still old mid.slots mid.trees mid.log changes (c.leave_out.ensures.followed (state_of old) (has_file old here) c.requires.in_line.follows)))
