use Rattle.std.proofs.Common.{rules, ◌≡◌, ◌<◌, ◌≤◌, length, Some, sym, ap, ◌∙◌, subst, arith}
use Rattle.std.specs.List.{All}
use Rattle.std.proofs.lemmas.List.Elements.{All-contains}
use Rattle.bt_tree.specs.Limits.{max_height}
use Rattle.bt_tree.specs.Blocks.{IsFileLength}
use Rattle.bt_tree.specs.TreeShape.{height_of}
use Rattle.bt_sparse.specs.SparseTree.{Facts, blocks_of, height, held_at, IsRooted}
use Rattle.bt_sparse.specs.Claim.{HasShape, top_layer, top_node, top_digest}
use Rattle.bt_sparse.specs.Acceptance.{top_differs, clash}
use Rattle.bt_sparse.specs.ExpansionSteps.{claimed_pairs, IsExpansion}
use Rattle.bt_sparse.specs.AcceptanceSteps.{IsPairIn, IsPadded, HasNoDifference, IsHighestIn, IsHighestOf}
use Rattle.bt_sparse.specs.PaddingSteps.{HasPaddedRun}
use Rattle.bt_sparse.proofs.Expansions.{short_run}
use Rattle.bt_sparse.proofs.Paddings.{run_padded}
use Rattle.bt_sparse.proofs.Acceptances.{lawful_height, pairs_in, pairs_few, padding_shown, agrees, is_clash, apart_bytes, equal_bytes, refused_memory}
use Rattle.bt_sparse.proofs.sparse_tree.SparseTree.check.Goals as goal

pub returns-in_err-expansion-clause-refused : goal.returns-in_err-expansion-clause-refused
returns-in_err-expansion-clause-refused g c =
    refused_memory g.H.NodeHash.digest c.args.self.now c.args.claim.now _ c.from_residual-in_err-expansion.ensures.1 c.in_ok-top.ensures.ok.shape

pub expand_covered-requires-clause-shape : goal.expand_covered-requires-clause-shape
expand_covered-requires-clause-shape g c = subst (λ n. HasShape (height_of n) c.args.claim.now) (sym (ap blocks_of c.self.view_is)) c.in_ok-top.ensures.ok.shape

pub expand_covered-requires-clause-high : goal.expand_covered-requires-clause-high
expand_covered-requires-clause-high g c =
    let high = lawful_height c.args.self.now (subst (λ (k : Facts). IsFileLength k.file_length) c.self.view_is c.self.invariant.lawful) in
    subst (λ n. height_of n ≤ max_height) (sym (ap blocks_of c.self.view_is)) high

pub expand_covered-requires-clause-padded : goal.expand_covered-requires-clause-padded
expand_covered-requires-clause-padded g c =
    let hangs = c.in_ok-top.ensures.ok in
    let high = lawful_height c.args.self.now (subst (λ (k : Facts). IsFileLength k.file_length) c.self.view_is c.self.invariant.lawful) in
    subst (λ n. HasPaddedRun g.H.NodeHash.digest n c.args.claim.now) (sym (ap blocks_of c.self.view_is))
    (run_padded g.H.NodeHash.digest c.args.self.now c.args.claim.now hangs.shape (short_run (height c.args.self.now) c.args.claim.now hangs.shape high) hangs.padding)

pub returns-then-ne-clause-refused : goal.returns-then-ne-clause-refused
returns-then-ne-clause-refused g c =
    let hangs = c.in_ok-top.ensures.ok in
    top_differs c.in_ok-top.top hangs.shape hangs.padding hangs.held (λ e. apart_bytes _ _ _ c.ne.ensures c.if-ne.true (e ∙ sym c.in_ok-expansion.ensures.digest))

pub highest_difference-requires-clause-inside : goal.highest_difference-requires-clause-inside
highest_difference-requires-clause-inside g c =
    let high = lawful_height c.args.self.now (subst (λ (k : Facts). IsFileLength k.file_length) c.self.view_is c.self.invariant.lawful) in
    let expansion = subst (λ n. IsExpansion g.H.NodeHash.digest n c.args.claim.now c.in_ok-expansion.expansion) (ap blocks_of c.self.view_is) c.in_ok-expansion.ensures in
    let pairs : c.as_slice.result.now ≡ claimed_pairs g.H.NodeHash.digest (blocks_of c.args.self.now) c.args.claim.now = c.as_slice.ensures.value ∙ expansion.pairs in
    subst (All (IsPairIn (height c.args.self.now))) (sym pairs) (pairs_in g.H.NodeHash.digest (blocks_of c.args.self.now) (height c.args.self.now) c.args.claim.now c.in_ok-top.ensures.ok.shape high)

pub highest_difference-requires-clause-padded : goal.highest_difference-requires-clause-padded
highest_difference-requires-clause-padded g c =
    let hangs = c.in_ok-top.ensures.ok in
    let expansion = subst (λ n. IsExpansion g.H.NodeHash.digest n c.args.claim.now c.in_ok-expansion.expansion) (ap blocks_of c.self.view_is) c.in_ok-expansion.ensures in
    let pairs : c.as_slice.result.now ≡ claimed_pairs g.H.NodeHash.digest (blocks_of c.args.self.now) c.args.claim.now = c.as_slice.ensures.value ∙ expansion.pairs in
    subst (All (IsPadded g.H.NodeHash.digest (blocks_of c.args.self.now))) (sym pairs)
    (padding_shown g.H.NodeHash.digest c.args.self.now c.args.claim.now hangs.shape hangs.padding)

pub highest_difference-requires-clause-rooted : goal.highest_difference-requires-clause-rooted
highest_difference-requires-clause-rooted g c = subst (IsRooted g.H.NodeHash.digest) c.self.view_is c.self.invariant.rooted

pub overflow_add-result : goal.overflow_add-result
overflow_add-result g c =
    let high = lawful_height c.args.self.now (subst (λ (k : Facts). IsFileLength k.file_length) c.self.view_is c.self.invariant.lawful) in
    let expansion = subst (λ n. IsExpansion g.H.NodeHash.digest n c.args.claim.now c.in_ok-expansion.expansion) (ap blocks_of c.self.view_is) c.in_ok-expansion.ensures in
    let pairs : c.as_slice.result.now ≡ claimed_pairs g.H.NodeHash.digest (blocks_of c.args.self.now) c.args.claim.now = c.as_slice.ensures.value ∙ expansion.pairs in
    let found : IsHighestIn g.H.NodeHash.digest c.args.self.now (claimed_pairs g.H.NodeHash.digest (blocks_of c.args.self.now) c.args.claim.now) c.in-Some.found =
    subst (λ ps. IsHighestIn g.H.NodeHash.digest c.args.self.now ps c.in-Some.found) pairs c.in-Some.ensures in
    let inside = All-contains (IsPairIn (height c.args.self.now)) (claimed_pairs g.H.NodeHash.digest (blocks_of c.args.self.now) c.args.claim.now) c.in-Some.found.pair
    (pairs_in g.H.NodeHash.digest (blocks_of c.args.self.now) (height c.args.self.now) c.args.claim.now c.in_ok-top.ensures.ok.shape high) found.among in
    omega (arith, inside.high)

pub returns-in-Some-clause-refused : goal.returns-in-Some-clause-refused
returns-in-Some-clause-refused g c =
    let hangs = c.in_ok-top.ensures.ok in
    let expansion = subst (λ n. IsExpansion g.H.NodeHash.digest n c.args.claim.now c.in_ok-expansion.expansion) (ap blocks_of c.self.view_is) c.in_ok-expansion.ensures in
    let pairs : c.as_slice.result.now ≡ claimed_pairs g.H.NodeHash.digest (blocks_of c.args.self.now) c.args.claim.now = c.as_slice.ensures.value ∙ expansion.pairs in
    let rooted : IsRooted g.H.NodeHash.digest c.args.self.now = subst (IsRooted g.H.NodeHash.digest) c.self.view_is c.self.invariant.rooted in
    let top : held_at c.args.self.now (top_layer c.args.claim.now) (top_node c.args.claim.now) ≡ Some (top_digest g.H.NodeHash.digest c.args.claim.now) =
    hangs.held ∙ ap (λ d. Some d) (equal_bytes _ _ _ c.ne.ensures c.if-ne.false ∙ c.in_ok-expansion.ensures.digest) in
    let found : IsHighestIn g.H.NodeHash.digest c.args.self.now (claimed_pairs g.H.NodeHash.digest (blocks_of c.args.self.now) c.args.claim.now) c.in-Some.found =
    subst (λ ps. IsHighestIn g.H.NodeHash.digest c.args.self.now ps c.in-Some.found) pairs c.in-Some.ensures in
    rw (c.pair_bytes.ensures, c.pair_bytes-in-Some.ensures)
    (clash _ _ _ _ hangs.shape hangs.padding top
    (is_clash g.H.NodeHash.digest c.args.self.now c.args.claim.now c.in-Some.found hangs.shape rooted hangs.padding top found
    (search rules) (search rules)))

pub returns-clause-ok : goal.returns-clause-ok
returns-clause-ok g c =
    let hangs = c.in_ok-top.ensures.ok in
    let high = lawful_height c.args.self.now (subst (λ (k : Facts). IsFileLength k.file_length) c.self.view_is c.self.invariant.lawful) in
    let expansion = subst (λ n. IsExpansion g.H.NodeHash.digest n c.args.claim.now c.in_ok-expansion.expansion) (ap blocks_of c.self.view_is) c.in_ok-expansion.ensures in
    let pairs : c.as_slice.result.now ≡ claimed_pairs g.H.NodeHash.digest (blocks_of c.args.self.now) c.args.claim.now = c.as_slice.ensures.value ∙ expansion.pairs in
    let rooted : IsRooted g.H.NodeHash.digest c.args.self.now = subst (IsRooted g.H.NodeHash.digest) c.self.view_is c.self.invariant.rooted in
    let top : held_at c.args.self.now (top_layer c.args.claim.now) (top_node c.args.claim.now) ≡ Some (top_digest g.H.NodeHash.digest c.args.claim.now) =
    hangs.held ∙ ap (λ d. Some d) (equal_bytes _ _ _ c.ne.ensures c.if-ne.false ∙ c.in_ok-expansion.ensures.digest) in
    record {
      conditions = record {
        shape = hangs.shape;
        padding = hangs.padding;
        top = top;
        agrees = agrees g.H.NodeHash.digest c.args.self.now c.args.claim.now hangs.shape rooted top
            (subst (All (HasNoDifference g.H.NodeHash.digest c.args.self.now)) pairs
            (subst (IsHighestOf g.H.NodeHash.digest c.args.self.now c.as_slice.result.now) c.in_default.is c.highest_difference.ensures));
      };
      expansion = expansion;
      inside = subst (All (IsPairIn (height c.args.self.now))) (sym expansion.pairs) (pairs_in g.H.NodeHash.digest (blocks_of c.args.self.now) (height c.args.self.now) c.args.claim.now hangs.shape high);
      narrow = subst (λ ps. length ps < 268435456) (sym expansion.pairs) (pairs_few g.H.NodeHash.digest (blocks_of c.args.self.now) (height c.args.self.now) c.args.claim.now hangs.shape high);
    }
