use Rattle.bt_replay.proofs.Telling.{some_weaker}
use Rattle.bt_replay.proofs.event.fitting_answer.Goals as goal

pub returns-clause-fit : goal.returns-clause-fit
returns-clause-fit g c =
    let laws = c.keeps_laws.ensures in
    some_weaker c.answer_of.result (λ answer h. c.events_send_what_fits.ensures.step _ _ _ h.event h.step.calls answer
    laws.lawful laws.shaped laws.sparse h.step.step) c.answer_of.ensures.some
