use Rattle.std.proofs.Common.{refl}
use Rattle.std.proofs.KnownBytes.{Keeps-refl}
use Rattle.bt_session.specs.declared.end.SessionEnd.TheVariants.{Memory}
use Rattle.bt_session.proofs.OnePeer.{greeting_some}
use Rattle.bt_session.proofs.OwnSteps.{own_connect}
use Rattle.bt_session.proofs.Whole.{not_greeted}
use Rattle.bt_session.proofs.session.converse.Goals as goal

pub returns-in_default-clause-ends : goal.returns-in_default-clause-ends
returns-in_default-clause-ends g c first step =
    let contents = g.W.Write.contents c.args.writer.now in
    not_greeted g.D.Disk.conduct g.H.NodeHash.digest _ _ _ c.args.turns first c.args.engine.now _ contents contents c.args.greeting.now
    c.args.greeting.now.send Memory step refl
    (Keeps-refl contents, greeting_some _ c.args.greeting.now (own_connect g.H.NodeHash.digest _ step.step))
