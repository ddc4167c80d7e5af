use Rattle.std.proofs.Common.{sym, subst}
use Rattle.std.specs.Prelude.{IfOk, IfSome, IsSomeAnd, MatchBool, OnOk}
use Rattle.bt_folder.specs.KnownFiles.{IsKnown}
use Rattle.bt_files.specs.OpenFolder.{IsAdded}
use Rattle.bt_files.proofs.Refusals.{added, is_own, none_added}
use Rattle.bt_files.proofs.open_folder.OpenFolder.is_own_file.Goals as goal

pub returns-in-Some-clause-is_own : goal.returns-in-Some-clause-is_own
returns-in-Some-clause-is_own c =
    subst (λ identity. IfOk c.insert.result (λ is_own.
    MatchBool is_own (IfSome identity (λ file. ¬ IsKnown c.args.self.now.files file)) (IsSomeAnd identity (IsKnown c.args.self.now.files))))
    (sym c.in-Some.is) (is_own c.insert.result c.args.self.now.files c.in-Some.file c.insert.ensures.is_further c.insert.ensures.known)

pub returns-in-Some-clause-added : goal.returns-in-Some-clause-added
returns-in-Some-clause-added c =
    subst (λ identity. OnOk c.insert.result (IsAdded c.args.self.now.files identity c.insert.new.self)) (sym c.in-Some.is)
    (added c.insert.result c.args.self.now.files c.insert.new.self c.in-Some.file c.insert.ensures.added)

pub returns-in-None-clause-added : goal.returns-in-None-clause-added
returns-in-None-clause-added c =
    subst (λ identity. IsAdded c.args.self.now.files identity c.args.self.now.files) (sym c.in-None.is) (none_added c.args.self.now.files)
