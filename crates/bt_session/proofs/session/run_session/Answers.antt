use Rattle.bt_session.proofs.session.run_session.Goals as goal

pub returns-in-Ok-Ok-clause-session : goal.returns-in-Ok-Ok-clause-session
returns-in-Ok-Ok-clause-session g c = rw c.in-Ok-Ok.field-0-is at c.in-Ok-Ok.ensures.session
