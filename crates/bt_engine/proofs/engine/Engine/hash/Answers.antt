use Rattle.bt_engine.proofs.engine.Engine.hash.Goals as goal

pub returns : goal.returns
returns g c = record { digest = c.self.invariant.digest }
