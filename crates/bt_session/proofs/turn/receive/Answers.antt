use Rattle.std.proofs.Common.{refl}
use Rattle.std.proofs.lemmas.Result.{err_from_is_err_and}
use Rattle.bt_session.proofs.Receives.{read_failed, read_ended, fed_part}
use Rattle.bt_session.proofs.turn.receive.Goals as goal

pub returns-in_err-count-clause-part : goal.returns-in_err-count-clause-part
returns-in_err-count-clause-part g c contents flushing given taken first h few =
    let p = err_from_is_err_and c.from_residual.result c.from_residual.ensures.1 in
    rw (p.1, p.2)
    (read_failed g.D.Disk.conduct g.H.NodeHash.digest _ _ _ given taken first _ _ _ contents _ c.in_err-count.ensures.fault
    c.in_err-count.ensures.kept h few)

pub returns-then-count-eq0-clause-part : goal.returns-then-count-eq0-clause-part
returns-then-count-eq0-clause-part g c contents flushing given taken first h few =
    read_ended g.D.Disk.conduct g.H.NodeHash.digest _ _ _ given taken first _ _ _ contents _ _ c.if-count-eq0.true
    c.in_ok-count.ensures.given h few

pub returns-in-Ok-clause-part : goal.returns-in-Ok-clause-part
returns-in-Ok-clause-part g c contents flushing given taken first h few =
    fed_part g.D.Disk.conduct g.H.NodeHash.digest _ _ _ given taken first _ _ _ _ contents _ c.read.new.self _ _
    c.in-Ok.ensures.step c.in-Ok.ensures.refused c.in_ok-count.ensures.given c.if-count-eq0.false c.in_ok-count.ensures.whole refl h few

pub returns-in-Err-clause-part : goal.returns-in-Err-clause-part
returns-in-Err-clause-part g c contents flushing given taken first h few =
    fed_part g.D.Disk.conduct g.H.NodeHash.digest _ _ _ given taken first _ _ _ _ contents _ c.read.new.self _ _
    c.in-Err.ensures.step c.in-Err.ensures.refused c.in_ok-count.ensures.given c.if-count-eq0.false c.in_ok-count.ensures.whole refl h few

pub feed-requires : goal.feed-requires
feed-requires g c = record {
  alone = c.requires.alone;
  within = c.in_ok-count.ensures.given.within;
}
