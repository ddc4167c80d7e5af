use Rattle.std.proofs.Common.{refl, subst}
use Rattle.std.specs.Prelude.{string_bytes}
use Rattle.std.specs.Io.KnownBytes.{Appends}
use Rattle.std.proofs.KnownBytes.{Keeps-refl}
use Rattle.std.proofs.lemmas.Result.{err_from_is_err_and, on_ok_weaker}
use Rattle.bt_replay.specs.Event.{idle}
use Rattle.bt_replay.specs.Run.{bad_line, no_memory, TakesMemory}
use Rattle.bt_replay.proofs.Fields.{none_holds}
use Rattle.bt_replay.proofs.Memory.{asked, for_bytes}
use Rattle.bt_replay.proofs.Telling.{some_holds}
use Rattle.bt_replay.proofs.run.run_line.Goals as goal

pub returns-in_err-spelled-clause-ended : goal.returns-in_err-spelled-clause-ended
returns-in_err-spelled-clause-ended g c =
    let p = err_from_is_err_and c.from_residual.result c.from_residual.ensures.1 in
    rw (p.1, p.2)
    (no_memory (for_bytes c.args.line.now c.in_err-spelled.ensures.memory) refl (Keeps-refl (g.W.Write.contents c.args.writer.now)))

pub returns-in_err-text-clause-ended : goal.returns-in_err-text-clause-ended
returns-in_err-text-clause-ended g c =
    let p = err_from_is_err_and c.from_residual-in_err-text.result c.from_residual-in_err-text.ensures.1 in
    let takes : TakesMemory c.args.line.now = record {
      spelled = c.in-Some.spelled;
      spells = some_holds _ _ _ c.in_ok-spelled.ensures.some c.in-Some.is;
      no_setting = asked c.args.handshake.now c.in-Some.spelled c.in_err-text.ensures.memory;
    } in
    rw (p.1, p.2) (no_memory takes refl (Keeps-refl (g.W.Write.contents c.args.writer.now)))

pub returns-in_default-2-clause-ended : goal.returns-in_default-2-clause-ended
returns-in_default-2-clause-ended g c =
    bad_line
    (idle c.in-Some.spelled (some_holds _ _ _ c.in_ok-spelled.ensures.some c.in-Some.is) (none_holds _ c.in_ok-text.ensures.idle c.in_default-2.is))
    refl (Keeps-refl (g.W.Write.contents c.args.writer.now))

pub returns-clause-done : goal.returns-clause-done
returns-clause-done g c =
    let before = g.W.Write.contents c.args.writer.now in
    let after = g.W.Write.contents c.write_text.new.writer in
    on_ok_weaker c.write_text.result (λ written. record {
      spelled = c.in-Some.spelled;
      said = string_bytes c.in-Some-2.text;
      spells = some_holds _ _ _ c.in_ok-spelled.ensures.some c.in-Some.is;
      does = some_holds _ _ _ c.in_ok-text.ensures.told c.in-Some-2.is;
      written = subst (λ text. Appends before after text) c.as_str.ensures.value written;
    }) c.write_text.ensures.text
