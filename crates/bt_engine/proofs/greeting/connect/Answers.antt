use Rattle.std.proofs.Common.{Ok, sym, subst}
use Rattle.bt_machine.specs.Output.{Output}
use Rattle.bt_machine.specs.Peers.{StepConnect}
use Rattle.bt_engine_state.specs.Parts.{state_of}
use Rattle.bt_engine.proofs.greeting.connect.Goals as goal

pub returns-in-Ok-connect-clause-step : goal.returns-in-Ok-connect-clause-step
returns-in-Ok-connect-clause-step g c =
    let said = c.greet.ensures (state_of c.args.parts.now) (sym c.connect.ensures.rest.torrent) in
    subst (λ (out : Output). StepConnect (state_of c.args.parts.now) (Ok (c.in-Ok-connect.key, out)) (state_of c.connect.new.parts)) (sym said)
    c.in-Ok-connect.ensures.step
