use Rattle.std.proofs.Common.{length, sym, ap, ◌∙◌, arith, rules}
use Rattle.bt_sparse.specs.SparseTree.{Facts}
use Rattle.bt_machine.proofs.Lists.{some_is}
use Rattle.bt_engine_state.proofs.Chains.{numbered_tree, number_below}
use Rattle.bt_engine_state.proofs.Lists.{get_at, fits_below}
use Rattle.bt_engine_start.proofs.Takings.{on_ok, on_err, set_alike, read_alike, none_takes, one_takes}
use Rattle.bt_engine_start.proofs.taking.take_proof.Goals as goal

pub bounds-trees-number : goal.bounds-trees-number
bounds-trees-number g c =
    number_below c.args.trees.now c.args.roots.now.trees c.args.key.now.root c.requires.numbered c.in-Some.number (sym c.in-Some.ensures)

pub offset_bounds-trees-number : goal.offset_bounds-trees-number
offset_bounds-trees-number g c =
    fits_below c.in-Some.number (length c.args.trees.now) _
    (number_below c.args.trees.now c.args.roots.now.trees c.args.key.now.root c.requires.numbered c.in-Some.number (sym c.in-Some.ensures))
    (first_of (omega arith, search rules))

pub take_where_acceptable-requires : goal.take_where_acceptable-requires
take_where_acceptable-requires g c =
    let trees = c.args.trees.now in
    let numbers = c.args.roots.now.trees in
    let root = c.args.key.now.root in
    let here = get_at trees c.in-Some.number c.index-trees-number.result (number_below trees numbers root c.requires.numbered c.in-Some.number (sym c.in-Some.ensures)) in
    let there = numbered_tree trees numbers root c.requires.numbered c.in-Some.number (sym c.in-Some.ensures) in
    record { root = ap (λ (k : Facts). k.root) (some_is (sym here ∙ there.1)) ∙ there.2 }

pub returns-in-Some-clause-taken : goal.returns-in-Some-clause-taken
returns-in-Some-clause-taken g c =
    let trees = c.args.trees.now in
    let numbers = c.args.roots.now.trees in
    let here = get_at trees c.in-Some.number c.index-trees-number.result (number_below trees numbers c.args.key.now.root c.requires.numbered c.in-Some.number (sym c.in-Some.ensures)) in
    on_ok c.take_where_acceptable.result c.take_where_acceptable.ensures.taken
    (one_takes trees numbers c.args.key.now c.requires.numbered g.H.NodeHash.digest c.args.digests.now c.in-Some.number (sym c.in-Some.ensures) here)

pub returns-in-Some-clause-refused : goal.returns-in-Some-clause-refused
returns-in-Some-clause-refused g c =
    let trees = c.args.trees.now in
    let here = get_at trees c.in-Some.number c.index-trees-number.result
    (number_below trees c.args.roots.now.trees c.args.key.now.root c.requires.numbered c.in-Some.number (sym c.in-Some.ensures)) in
    on_err c.take_where_acceptable.result c.take_where_acceptable.ensures.refused (set_alike trees c.in-Some.number here)

pub returns-in-Some-clause-roots : goal.returns-in-Some-clause-roots
returns-in-Some-clause-roots g c =
    let trees = c.args.trees.now in
    let here = get_at trees c.in-Some.number c.index-trees-number.result
    (number_below trees c.args.roots.now.trees c.args.key.now.root c.requires.numbered c.in-Some.number (sym c.in-Some.ensures)) in
    read_alike (λ (k : Facts). k.root) trees c.in-Some.number {new = c.take_where_acceptable.new.tree} here c.take_where_acceptable.ensures.root

pub returns-in-Some-clause-lengths : goal.returns-in-Some-clause-lengths
returns-in-Some-clause-lengths g c =
    let trees = c.args.trees.now in
    let here = get_at trees c.in-Some.number c.index-trees-number.result
    (number_below trees c.args.roots.now.trees c.args.key.now.root c.requires.numbered c.in-Some.number (sym c.in-Some.ensures)) in
    read_alike (λ (k : Facts). k.file_length) trees c.in-Some.number {new = c.take_where_acceptable.new.tree} here c.take_where_acceptable.ensures.length

pub returns-in-None-clause-taken : goal.returns-in-None-clause-taken
returns-in-None-clause-taken g c =
    none_takes c.args.trees.now c.args.roots.now.trees c.args.key.now c.requires.numbered g.H.NodeHash.digest c.args.digests.now (sym c.in-None.ensures)
