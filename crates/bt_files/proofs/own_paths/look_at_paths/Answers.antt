use Rattle.std.proofs.Common.{◌∙◌, map, refl, sym, inr, arith}
use Rattle.bt_folder.specs.CasePaths.{GoesTo, HasNameOfAnother}
use Rattle.bt_meta.specs.Files.{file_of}
use Rattle.bt_log_file.proofs.Refusals.{file_at}
use Rattle.bt_files.specs.OwnPaths.KnowsPaths.{none_yet, one_more}
use Rattle.bt_files.proofs.PathNames.{on_false, on_true, own_more, own_of_all}
use Rattle.bt_files.proofs.own_paths.look_at_paths.Goals as goal

pub loop-entry-init : goal.loop-entry-init
loop-entry-init g c = record {
  known = none_yet _ c.new-paths.ensures;
  own = λ number file below. absurd (omega (arith, below));
}

pub loop-entry-preserved : goal.loop-entry-preserved
loop-entry-preserved g c =
    let here = file_at c.args.entries.now c.loop-entry.entry-index c.entry-item.result c.loop-entry-test.true c.entry-item.is in
    record {
      known = one_more c.loop-entry.entry-index c.loop-entry.paths c.is_own_path.new.paths (file_of c.entry-item.result) c.loop-entry.invariant.known here
          (on_true c.in_ok-is_own_path.field-0 (GoesTo c.loop-entry.paths c.is_own_path.new.paths c.entry-item.result.path) c.if-not-branch.false c.in_ok-is_own_path.ensures.goes);
      own = own_more (g.R.Lookup.lists c.args.rt.now) c.args.dir.now (map file_of c.args.entries.now) c.loop-entry.entry-index (file_of c.entry-item.result)
          c.loop-entry.paths c.is_own_path.new.paths c.in_ok-is_own_path.field-0 here c.loop-entry.invariant.own c.loop-entry.invariant.known
          c.if-not-branch.false c.in_ok-is_own_path.ensures.answer;
    }

pub returns-then-not-branch-clause-fault : goal.returns-then-not-branch-clause-fault
returns-then-not-branch-clause-fault g c =
    inr (
      refl,
      (
        sym c.is_read_only.ensures ∙ c.if-is_read_only.false,
        record {
          number = c.loop-entry.entry-index;
          file = file_of c.entry-item.result;
          listed = file_at c.args.entries.now c.loop-entry.entry-index c.entry-item.result c.loop-entry-test.true c.entry-item.is;
          old = c.loop-entry.paths;
          before = c.loop-entry.invariant.known;
          new = c.is_own_path.new.paths;
          of_another = on_false c.in_ok-is_own_path.field-0
              (HasNameOfAnother c.loop-entry.paths c.is_own_path.new.paths c.entry-item.result.path) c.if-not-branch.true
              c.in_ok-is_own_path.ensures.of_another;
        },
      ),
    )

pub returns-clause-own : goal.returns-clause-own
returns-clause-own g c = λ writes.
    own_of_all (g.R.Lookup.lists c.args.rt.now) c.args.dir.now c.args.entries.now c.loop-entry.entry-index
    (omega (arith, c.loop-entry-test.false)) c.loop-entry.invariant.own
