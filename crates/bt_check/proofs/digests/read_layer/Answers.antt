use Rattle.std.proofs.Common.{rules, ◌≡◌, ◌++◌, length, arith, ap, ◌∙◌}
use Rattle.bt_check.proofs.DigestLayer.{layering_done, layering_more, layering_place}
use Rattle.bt_check.proofs.digests.read_layer.Goals as goal

pub read_pieces-requires-clause-rest : goal.read_pieces-requires-clause-rest
read_pieces-requires-clause-rest g c = layering_place _ _ _ _ _ _ _ c.loop-rest-test.true c.loop-rest.invariant

pub loop-rest-preserved : goal.loop-rest-preserved
loop-rest-preserved g c =
    let given = rw c.in-Some.is at c.in_ok-pieces.ensures in
    let few = given.few in
    let eight : length c.in-Some.pieces.digests ≡ 8 = search rules in
    layering_more _ _ _ _ _ _ _ _ _ c.in-Some.pieces c.loop-rest-test.true (omega (arith, few, eight))
    (c.in_ok-extend_from_slice.ensures.items ∙ ap (λ l. c.loop-rest.layer.items ++ l) c.as_flattened.ensures.value) c.loop-rest.invariant given

pub returns-clause-given : goal.returns-clause-given
returns-clause-given g c = layering_done _ _ _ _ _ _ _ (omega (arith, c.loop-rest-test.false)) c.loop-rest.invariant
