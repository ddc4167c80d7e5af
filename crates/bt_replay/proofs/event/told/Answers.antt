use Rattle.bt_replay.specs.Event.{does_event}
use Rattle.bt_replay.proofs.event.told.Goals as goal

pub returns-in_ok-text_of-in-Some : goal.returns-in_ok-text_of-in-Some
returns-in_ok-text_of-in-Some g c =
    let h = c.in-Some.ensures.some in
    record { told = does_event h.event c.in-Some.answer h.asked h.step c.in_ok-text_of-in-Some.ensures; idle = tt; memory = tt }
