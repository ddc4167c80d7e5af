use Rattle.std.proofs.Common.{sym, subst}
use Rattle.std.specs.Prelude.{IfOk, IfSome, IsSomeAnd, MatchBool, OnOk}
use Rattle.bt_folder.specs.KnownFiles.{IsKnown}
use Rattle.bt_log_file.specs.Opening.{IsAdded}
use Rattle.bt_log_file.proofs.Refusals.{added, is_further, none_added}
use Rattle.bt_log_file.proofs.opening.is_further.Goals as goal

pub returns-in-Some-clause-is_further : goal.returns-in-Some-clause-is_further
returns-in-Some-clause-is_further c =
    subst (λ identity. IfOk c.insert.result (λ is_further.
    MatchBool is_further (IfSome identity (λ file. ¬ IsKnown c.args.known.now file)) (IsSomeAnd identity (IsKnown c.args.known.now))))
    (sym c.in-Some.is) (is_further c.insert.result c.args.known.now c.in-Some.file c.insert.ensures.is_further c.insert.ensures.known)

pub returns-in-Some-clause-added : goal.returns-in-Some-clause-added
returns-in-Some-clause-added c =
    subst (λ identity. OnOk c.insert.result (IsAdded c.args.known.now identity c.insert.new.self)) (sym c.in-Some.is)
    (added c.insert.result c.args.known.now c.insert.new.self c.in-Some.file c.insert.ensures.added)

pub returns-in-None-clause-added : goal.returns-in-None-clause-added
returns-in-None-clause-added c =
    subst (λ identity. IsAdded c.args.known.now identity c.args.known.now) (sym c.in-None.is) (none_added c.args.known.now)
