-- A file more is in the tally: the map has its length by what was noted of its root.
use Rattle.bt_meta.proofs.Base.{sym, arith, length-append, ◌∷◌, []}
use Rattle.std.proofs.lemmas.List.Sums.{sum_by_push}
use Rattle.bt_meta.specs.GivenFiles.{given_of}
use Rattle.bt_meta.proofs.writer.Tally.take.Goals as goal

pub returns-clause-taken : goal.returns-clause-taken
returns-clause-taken c = λ files h.
    let count = h.count in
    let more = length-append files (given_of c.args.file.now ∷ []) in (
    record {
      count = omega arith;
      pieces = rw (h.pieces, c.div_ceil.ensures) (sym (sum_by_push _ files _));
      lengths = c.in_ok-check_root.ensures.noted files h.lengths;
    })
