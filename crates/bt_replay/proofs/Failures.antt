-- What a script that was read comes to is no failure of its reader.
use Rattle.std.proofs.Common.{◌≢◌, Result, Ok, Err, IfErr, sym, ◌∙◌}
use Rattle.bt_disk.specs.Conduct.{Conduct}
use Rattle.bt_meta.specs.declared.error.MetaError.{MetaError}
use Rattle.bt_meta.specs.declared.error.MetaError.TheVariants.{OutOfMemory as no_room}
use Rattle.bt_session.specs.Failures.{OnlyAfterFailure}
use Rattle.bt_replay.specs.Fault.{torrent_fault}
use Rattle.bt_replay.specs.Run.{EndsEarly, at_bad_line, without_memory, unwritten}
use Rattle.bt_replay.specs.Script.{NamesNone, no_line, other_line, refused, no_memory, Replays, whole, early, unbegun, without_memory as none_begun}
use Rattle.bt_replay.specs.declared.fault.ReplayFault.{ReplayFault}
use Rattle.bt_replay.specs.declared.fault.ReplayFault.TheVariants.{Read}

not_by_torrent : (refusal : MetaError) → torrent_fault refusal ≢ Read
not_by_torrent no_room is = absurd cc
not_by_torrent refusal is = absurd cc

not_by_name : {text fault : _} → NamesNone text fault → fault ≢ Read
not_by_name (no_line spells is) read = absurd cc
not_by_name (other_line line spells none is) read = absurd cc
not_by_name (refused line bytes refusal spells has why is) read = not_by_torrent refusal (sym is ∙ read)
not_by_name (no_memory takes is) read = absurd cc

not_by_line : {D : Type 0} {conduct : Conduct D} {dig handshake first number lines old new fault : _}
    → EndsEarly conduct dig handshake first number lines old new fault → fault ≢ Read
not_by_line (at_bad_line good rest bad now parted ran is_bad is) read = absurd cc
not_by_line (without_memory good rest next now parted ran takes is) read = absurd cc
not_by_line (unwritten is) read = absurd cc

not_by_reader : {script old new fault : _} → Replays script old new (Err fault) → fault ≢ Read
not_by_reader (whole first lines rest torrent engine now count cut named begun ran is) read = absurd cc
not_by_reader (early first lines rest torrent engine count why cut named begun ended is) read = not_by_line ended cc
not_by_reader (unbegun first lines why cut names keeps is) read = not_by_name names cc
not_by_reader (none_begun first lines torrent cut named keeps is) read = absurd cc

-- it fails by none at all
pub failed_by_none : {script old new : _} (outcome : Result (Unit {0}) ReplayFault) (failed : Type 0) → Replays script old new outcome
    → IfErr outcome (OnlyAfterFailure Read failed)
failed_by_none (Ok done) failed replays = tt
failed_by_none (Err fault) failed replays = λ is. absurd (not_by_reader replays is)
