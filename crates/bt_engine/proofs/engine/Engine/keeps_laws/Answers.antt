use Rattle.bt_engine.proofs.engine.Engine.keeps_laws.Goals as goal

pub returns-clause-lawful : goal.returns-clause-lawful
returns-clause-lawful g c = rw (← c.self.view_is) c.self.invariant.lawful

pub returns-clause-shaped : goal.returns-clause-shaped
returns-clause-shaped g c = rw (← c.self.view_is) c.self.invariant.shaped

pub returns-clause-orderly : goal.returns-clause-orderly
returns-clause-orderly g c = rw (← c.self.view_is) c.self.invariant.orderly

pub returns-clause-rooted : goal.returns-clause-rooted
returns-clause-rooted g c = rw (← c.self.view_is) c.self.invariant.rooted

pub returns-clause-sparse : goal.returns-clause-sparse
returns-clause-sparse g c = rw (← c.self.view_is) c.self.invariant.sparse

pub returns-clause-sound : goal.returns-clause-sound
returns-clause-sound g c = rw (← c.self.view_is) c.self.invariant.sound
