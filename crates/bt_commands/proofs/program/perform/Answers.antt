use Rattle.bt_commands.proofs.program.perform.Goals as goal

pub returns-in-Fetch-clause-done : goal.returns-in-Fetch-clause-done
returns-in-Fetch-clause-done g c = rw c.in-Fetch.is c.perform_fetch.ensures.done

pub returns-in-Replay-clause-done : goal.returns-in-Replay-clause-done
returns-in-Replay-clause-done g c = rw c.in-Replay.is c.replay.ensures.answer
