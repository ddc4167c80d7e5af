use Rattle.std.proofs.Common.{Result, Ok, Err, OnOk}
use Rattle.std.proofs.KnownBytes.{Appends-kept}
use Rattle.bt_check.proofs.output.print.Goals as goal

always : {T E P : Type 0} (r : Result T E) → P → OnOk r P
always (Ok x) p = p
always (Err e) p = tt

pub returns-clause-text : goal.returns-clause-text
returns-clause-text g c = always c.map_err.result (Appends-kept _ _ _ _ c.in_ok-write_text.ensures.text c.flush.ensures.bytes)
