use Rattle.std.proofs.Common.{rules, sym, ap, ◌∙◌, ◌≡◌}
use Rattle.std.specs.FinMap as finite
use Rattle.bt_sparse.specs.NodeMap.{digest_at}
use Rattle.bt_wire_tests.proofs.MapBodies.{map_get, map_insert}
use Rattle.bt_wire_tests.proofs.map_body.OrderedNodes.insert.Goals as goal

pub returns-clause-is_new : goal.returns-clause-is_new
returns-clause-is_new c =
    let before : digest_at c.args.self.now c.args.layer c.args.index ≡ c.in_ok-before.before =
    sym (ap (λ m. digest_at m c.args.layer c.args.index) c.self.view_is) ∙ map_get c.self.inside.digests (c.args.layer, c.args.index)
    ∙ sym c.in_ok-before.ensures.old in
    rw before (search rules)

pub returns-clause-value : goal.returns-clause-value
returns-clause-value c =
    map_insert c.self.inside.digests c.insert.new.self (c.args.layer, c.args.index) c.args.digest c.in_ok-before.ensures.updates.0
    ∙ ap (λ m. finite.insert m (c.args.layer, c.args.index) c.args.digest) c.self.view_is
