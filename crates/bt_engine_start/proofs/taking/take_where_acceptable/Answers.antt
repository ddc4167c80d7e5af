use Rattle.bt_engine_start.proofs.Takings.{whole_told, on_ok, taken, passed_by_key, passed_by_tree}
use Rattle.bt_engine_start.proofs.taking.take_where_acceptable.Goals as goal

pub returns-in-Err-clause-taken : goal.returns-in-Err-clause-taken
returns-in-Err-clause-taken g c =
    let digests = c.args.digests.now in
    on_ok c.passed_unless_memory.result c.passed_unless_memory.ensures.passed
    (passed_by_key g.H.NodeHash.digest c.args.key.now digests c.as_flattened.result.now (whole_told digests c.told-digests) c.as_flattened.ensures.value
    c.as_flattened.ensures.len c.in-Err.ensures.refused)

pub returns-in-Ok-accept-clause-taken : goal.returns-in-Ok-accept-clause-taken
returns-in-Ok-accept-clause-taken g c =
    let digests = c.args.digests.now in
    taken g.H.NodeHash.digest c.args.key.now digests c.as_flattened.result.now (whole_told digests c.told-digests) c.as_flattened.ensures.value
    c.as_flattened.ensures.len c.requires.root c.in-Ok.ensures.claim c.in-Ok-accept.ensures.ok

pub returns-clause-taken : goal.returns-clause-taken
returns-clause-taken g c =
    let digests = c.args.digests.now in
    on_ok c.passed_unless_memory-in-Err-accept.result c.passed_unless_memory-in-Err-accept.ensures.passed
    (passed_by_tree g.H.NodeHash.digest c.args.key.now digests c.as_flattened.result.now (whole_told digests c.told-digests) c.as_flattened.ensures.value
    c.as_flattened.ensures.len c.in-Ok.ensures.claim c.in-Err-accept.ensures.refused c.in-Err-accept.ensures.unchanged)
