use Rattle.bt_session.proofs.peers.try_peer.Goals as goal

pub returns-clause-tried : goal.returns-clause-tried
returns-clause-tried g c = record {
  tried = record {
    reached = c.dial-reached.result;
    dialled = record {
      once = c.dial-reached.ensures.counted;
      failed = c.dial-reached.ensures.failed;
      given = c.dial-reached.ensures.given;
    };
    ended = c.meet_peer-met.ensures.ended;
  };
  read_fault = c.meet_peer-met.ensures.read_fault;
}
