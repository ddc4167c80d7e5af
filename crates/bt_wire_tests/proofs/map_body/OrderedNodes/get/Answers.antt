use Rattle.std.proofs.Common.{sym, ap, ◌∙◌}
use Rattle.bt_sparse.specs.NodeMap.{digest_at}
use Rattle.bt_wire_tests.proofs.MapBodies.{map_get}
use Rattle.bt_wire_tests.proofs.map_body.OrderedNodes.get.Goals as goal

pub returns : goal.returns
returns c = c.copied.ensures ∙ c.get.ensures.value ∙ sym (map_get c.self.inside.digests (c.args.layer, c.args.index))
    ∙ ap (λ m. digest_at m c.args.layer c.args.index) c.self.view_is
