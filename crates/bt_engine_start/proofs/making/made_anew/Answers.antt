use Rattle.std.proofs.Common.{List, ℕ, map, sym, ◌∙◌, subst}
use Rattle.std.proofs.lemmas.List.{with_items_is}
use Rattle.bt_sparse.specs.SparseTree.{Facts}
use Rattle.bt_engine_state.specs.Roots.{AreNumbered}
use Rattle.bt_engine_state.specs.Ties.{EachIsFirst}
use Rattle.bt_engine_start.specs.TreesSteps.{AreTreesOf}
use Rattle.bt_engine_start.proofs.ProvenTrees.{trees_from}
use Rattle.bt_engine_start.proofs.RootTrees.{roots_of_trees}
use Rattle.bt_engine_start.proofs.making.made_anew.Goals as goal

pub new_trees-requires-clause-firsts : goal.new_trees-requires-clause-firsts
new_trees-requires-clause-firsts g c = subst (λ (ns : List ℕ). EachIsFirst c.args.torrent.now.files ns) (sym c.deref.ensures.value) c.requires.firsts

pub take_hints-requires : goal.take_hints-requires
take_hints-requires g c =
    let numbers = c.args.roots.now.trees in
    let made = subst (λ (ns : List ℕ). AreTreesOf g.H.NodeHash.digest c.args.torrent.now ns c.in_ok-trees.trees.items) c.deref.ensures.value c.in_ok-trees.ensures in
    record {
      numbered = subst (λ (ks : List Facts). AreNumbered (map (λ k. k.root) ks) numbers) (sym c.deref_mut.ensures.value)
          (subst (λ (roots : List (List ℕ)). AreNumbered roots numbers) (sym (roots_of_trees made)) c.requires.numbered);
    }

pub returns-clause-trees : goal.returns-clause-trees
returns-clause-trees g c =
    let trees = c.in_ok-trees.trees in
    let made = c.take_hints.new.trees in
    trees_from trees c.in_ok-trees.ensures c.deref.ensures.value c.deref_mut.ensures.value
    (with_items_is trees made (c.take_hints.auto.trees ∙ c.deref_mut.ensures.len)) c.in_ok-runs.ensures.taken c.take_hints.ensures.roots
    c.take_hints.ensures.lengths
