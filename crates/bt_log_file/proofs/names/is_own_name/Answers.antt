use Rattle.std.proofs.Common.{arith}
use Rattle.bt_meta.specs.Files.{File, file_of}
use Rattle.bt_log_file.specs.Names.{IsNoFileByName}
use Rattle.bt_log_file.proofs.Refusals.{each_more, each_of_all, file_at, on_no, on_yes}
use Rattle.bt_log_file.proofs.names.is_own_name.Goals as goal

pub returns-then-branch-clause-is_own : goal.returns-then-branch-clause-is_own
returns-then-branch-clause-is_own g c = record {
  number = c.loop-file.file-index;
  file = file_of c.file-item.result;
  here = file_at c.args.files.now c.loop-file.file-index c.file-item.result c.loop-file-test.true c.file-item.is;
  is_file = on_yes c.in_ok-is_name_of.field-0 _ _ c.if-branch.true c.in_ok-is_name_of.ensures.is_name;
}

pub loop-file-preserved : goal.loop-file-preserved
loop-file-preserved g c =
    each_more (λ (file : File). IsNoFileByName (g.R.Lookup.tells c.args.rt.now) (g.R.Lookup.lists c.args.rt.now) c.args.dir.now file.path c.args.path.now)
    c.args.files.now c.loop-file.file-index c.file-item.result c.loop-file-test.true c.file-item.is c.loop-file.invariant
    (on_no c.in_ok-is_name_of.field-0 _ _ c.if-branch.false c.in_ok-is_name_of.ensures.is_name)

pub returns-clause-is_own : goal.returns-clause-is_own
returns-clause-is_own g c =
    each_of_all (λ (file : File). IsNoFileByName (g.R.Lookup.tells c.args.rt.now) (g.R.Lookup.lists c.args.rt.now) c.args.dir.now file.path c.args.path.now)
    c.args.files.now c.loop-file.file-index (omega (arith, c.loop-file-test.false)) c.loop-file.invariant
