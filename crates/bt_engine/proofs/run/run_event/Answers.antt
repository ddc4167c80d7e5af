use Rattle.bt_engine.proofs.run.run_event.Goals as goal

pub returns-in-Connect : goal.returns-in-Connect
returns-in-Connect g c = rw c.in-Connect.is c.connect.ensures.step

pub returns-in-Feed : goal.returns-in-Feed
returns-in-Feed g c = rw c.in-Feed.is (rw c.as_slice.ensures at c.feed.ensures.step)

pub returns-in-Next : goal.returns-in-Next
returns-in-Next g c = rw c.in-Next.is c.next.ensures.step

pub returns-in-Lost : goal.returns-in-Lost
returns-in-Lost g c = rw c.in-Lost.is c.lost.ensures.step

pub returns-in-Rechoke : goal.returns-in-Rechoke
returns-in-Rechoke g c = rw c.in-Rechoke.is c.rechoke.ensures.step

pub returns-in-Adopt : goal.returns-in-Adopt
returns-in-Adopt g c = rw c.in-Adopt.is c.adopt.ensures.step

pub returns-in-Flush : goal.returns-in-Flush
returns-in-Flush g c = rw c.in-Flush.is c.flush.ensures.step

pub returns-in-Restart : goal.returns-in-Restart
returns-in-Restart g c = rw c.in-Restart.is c.restart.ensures.step
