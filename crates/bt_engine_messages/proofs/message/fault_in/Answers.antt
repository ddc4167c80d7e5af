use Rattle.std.proofs.Common.{refl}
use Rattle.bt_engine_state.specs.Parts.{state_of}
use Rattle.bt_engine_messages.proofs.message.fault_in.Goals as goal

pub returns-in-Hello-clause-step : goal.returns-in-Hello-clause-step
returns-in-Hello-clause-step g c = λ dig x at. rw c.in-Hello.is (refl, c.hello_fault.ensures (state_of c.args.parts.now) refl, refl)
