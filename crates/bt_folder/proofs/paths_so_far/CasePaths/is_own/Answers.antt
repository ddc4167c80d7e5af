use Rattle.std.proofs.Common.{◌∙◌, ℕ, List, map, ap, sym, string_bytes, arith}
use Rattle.std.specs.Borrow.{Bor}
use Rattle.std.proofs.lemmas.List.{length-map, take-map}
use Rattle.bt_folder.specs.CasePaths.{texts}
use Rattle.bt_folder.proofs.Looks.{all_own, another, goes, looks_on, one_longer, refused, shared_of, starts}
use Rattle.bt_folder.proofs.Twins.{element_at, rest_length}
use Rattle.bt_folder.proofs.paths_so_far.CasePaths.is_own.Goals as goal

pub loop-element-init : goal.loop-element-init
loop-element-init g c =
    let shared = c.shared_len-shared.result in
    record {
      depth = omega (arith, c.truncate.ensures.len, c.shared_len-shared.ensures.in_path);
      looked = starts (g.R.Lookup.lists c.args.rt.now) c.args.dir.now c.args.self.now (texts c.args.elements.now) shared _ c.saturating_add.result
          (grind (arith, c.saturating_add.ensures, c.shared_len-shared.ensures.in_path, c.args.self.now.path.ok.0))
          (ap (map string_bytes) c.truncate.ensures.items ∙ c.shared_len-shared.ensures.same
          ∙ sym (take-map (λ (e : Bor (List ℕ)). e.now) shared c.args.elements.now))
          c.truncate-2.ensures.items (omega (arith, c.truncate-2.ensures.len));
    }

pub returns-then-not-branch-clause-answer : goal.returns-then-not-branch-clause-answer
returns-then-not-branch-clause-answer g c =
    let shared = c.shared_len-shared.result in
    let step = c.in_ok-is_own_name.ensures in
    refused (g.R.Lookup.lists c.args.rt.now) c.args.dir.now c.args.self.now (texts c.args.elements.now) shared c.loop-element.self c.is_own_name.new.self
    c.loop-element.element-index _ _ c.in_ok-is_own_name.field-0 c.loop-element.invariant.depth
    (shared_of c.args.self.now.path.items c.args.elements.now shared c.shared_len-shared.ensures.same c.shared_len-shared.ensures.apart)
    c.loop-element.invariant.looked
    (element_at c.args.elements.now shared c.loop-element.element-index _ _ c.loop-element.invariant.depth
    (omega (arith, c.loop-element-test.true, rest_length c.args.elements.now shared)))
    c.if-not-branch.true (record { path = step.path; folders = step.folders; kept = step.kept; added = step.added; answer = step.answer })

pub returns-then-not-branch-clause-of_another : goal.returns-then-not-branch-clause-of_another
returns-then-not-branch-clause-of_another g c =
    another (g.R.Lookup.lists c.args.rt.now) c.args.dir.now c.args.self.now c.is_own_name.new.self (texts c.args.elements.now)
    (returns-then-not-branch-clause-answer g c)

pub loop-element-preserved : goal.loop-element-preserved
loop-element-preserved g c =
    let shared = c.shared_len-shared.result in
    let step = c.in_ok-is_own_name.ensures in
    record {
      depth = omega (arith, one_longer c.loop-element.self c.is_own_name.new.self _ step.path, c.loop-element.invariant.depth);
      looked = looks_on (g.R.Lookup.lists c.args.rt.now) c.args.dir.now c.args.self.now (texts c.args.elements.now) shared c.loop-element.self c.is_own_name.new.self
          c.loop-element.element-index _ _ c.in_ok-is_own_name.field-0 c.loop-element.invariant.depth c.loop-element.invariant.looked
          (element_at c.args.elements.now shared c.loop-element.element-index _ _ c.loop-element.invariant.depth
          (omega (arith, c.loop-element-test.true, rest_length c.args.elements.now shared)))
          c.if-not-branch.false (record { path = step.path; folders = step.folders; kept = step.kept; added = step.added; answer = step.answer });
    }

pub returns-clause-answer : goal.returns-clause-answer
returns-clause-answer g c =
    let shared = c.shared_len-shared.result in
    all_own (g.R.Lookup.lists c.args.rt.now) c.args.dir.now c.args.self.now (texts c.args.elements.now) shared c.loop-element.self
    c.loop-element.element-index c.loop-element.invariant.looked
    (omega (arith, c.loop-element-test.false, rest_length c.args.elements.now shared, length-map c.args.elements.now (λ (e : Bor (List ℕ)). e.now)))
    (shared_of c.args.self.now.path.items c.args.elements.now shared c.shared_len-shared.ensures.same c.shared_len-shared.ensures.apart)

pub returns-clause-goes : goal.returns-clause-goes
returns-clause-goes g c =
    let shared = c.shared_len-shared.result in
    goes (g.R.Lookup.lists c.args.rt.now) c.args.dir.now c.args.self.now (texts c.args.elements.now) shared c.loop-element.self
    c.loop-element.element-index c.loop-element.invariant.looked
    (omega (arith, c.loop-element-test.false, rest_length c.args.elements.now shared, length-map c.args.elements.now (λ (e : Bor (List ℕ)). e.now)))
    (shared_of c.args.self.now.path.items c.args.elements.now shared c.shared_len-shared.ensures.same c.shared_len-shared.ensures.apart)
