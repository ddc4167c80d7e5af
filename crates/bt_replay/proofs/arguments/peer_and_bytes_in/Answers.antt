use Rattle.bt_book.specs.declared.names.PeerKey.{PeerKey}
use Rattle.bt_replay.specs.Field.{fields_in}
use Rattle.bt_replay.proofs.Fields.{err_always, no_bytes_follow, none_holds}
use Rattle.bt_replay.proofs.arguments.peer_and_bytes_in.Goals as goal

pub returns-in-None-clause-none : goal.returns-in-None-clause-none
returns-in-None-clause-none c key bytes h =
    no_bytes_follow _ _ _ key bytes c.in-Some.ensures.some (none_holds _ c.in_ok-bytes.ensures.none c.in-None.is bytes) h

pub returns-in_err-bytes-clause-memory : goal.returns-in_err-bytes-clause-memory
returns-in_err-bytes-clause-memory c =
    let key : PeerKey = record { 0 = c.in-Some-number_in.number } in
    let bytes = c.in_err-bytes.ensures.memory in
    err_always c.from_residual.result (
      key,
      bytes.0,
      record {
        field = c.in-Some.field.now;
        rest = fields_in c.in-Some.rest;
        both = c.in-Some.ensures.some;
        number = c.in-Some-number_in.ensures.some;
        bytes_follow = bytes.1;
      },
    )
