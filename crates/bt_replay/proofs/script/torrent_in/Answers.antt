use Rattle.std.proofs.Common.{Some, refl, sym, ap, ◌∙◌}
use Rattle.bt_replay.specs.Script.{other_line, refused}
use Rattle.bt_replay.proofs.Telling.{some_holds}
use Rattle.bt_replay.proofs.script.torrent_in.Goals as goal

pub returns-in_default-torrent_bytes-clause-fault : goal.returns-in_default-torrent_bytes-clause-fault
returns-in_default-torrent_bytes-clause-fault c =
    other_line c.in-Some.line (some_holds _ _ _ c.in_ok-line.ensures.some c.in-Some.is)
    (sym c.torrent_bytes.ensures ∙ c.in_default-torrent_bytes.is) refl

pub returns : goal.returns
returns c = record {
  torrent = tt;
  fault = refused c.in-Some.line c.as_slice.result.now c.in-Err.refusal (some_holds _ _ _ c.in_ok-line.ensures.some c.in-Some.is)
      (sym c.in-Some-torrent_bytes.ensures ∙ ap (λ bytes. Some bytes) (sym c.as_slice.ensures)) c.in-Err.ensures.refused c.torrent_fault.ensures;
}
