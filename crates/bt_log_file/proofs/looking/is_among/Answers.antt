use Rattle.std.proofs.Common.{Bool, false, arith, subst}
use Rattle.bt_meta.specs.Files.{File, file_of}
use Rattle.bt_log_file.specs.Looking.{IsAt}
use Rattle.bt_log_file.proofs.Refusals.{each_more, each_of_all, file_at}
use Rattle.bt_log_file.proofs.looking.is_among.Goals as goal

pub returns-then-branch : goal.returns-then-branch
returns-then-branch g c = record {
  number = c.loop-file.file-index;
  file = file_of c.file-item.result;
  here = file_at c.args.files.now c.loop-file.file-index c.file-item.result c.loop-file-test.true c.file-item.is;
  is_at = subst (λ (b : Bool). IsAt (g.R.Lookup.tells c.args.rt.now) c.args.dir.now c.args.path.now c.args.found (file_of c.file-item.result).path b)
      c.if-branch.true c.in_ok-is_at.ensures;
}

pub loop-file-preserved : goal.loop-file-preserved
loop-file-preserved g c =
    each_more (λ (file : File). IsAt (g.R.Lookup.tells c.args.rt.now) c.args.dir.now c.args.path.now c.args.found file.path false)
    c.args.files.now c.loop-file.file-index c.file-item.result c.loop-file-test.true c.file-item.is c.loop-file.invariant
    (subst (λ (b : Bool). IsAt (g.R.Lookup.tells c.args.rt.now) c.args.dir.now c.args.path.now c.args.found (file_of c.file-item.result).path b)
    c.if-branch.false c.in_ok-is_at.ensures)

pub returns : goal.returns
returns g c =
    each_of_all (λ (file : File). IsAt (g.R.Lookup.tells c.args.rt.now) c.args.dir.now c.args.path.now c.args.found file.path false)
    c.args.files.now c.loop-file.file-index (omega (arith, c.loop-file-test.false)) c.loop-file.invariant
