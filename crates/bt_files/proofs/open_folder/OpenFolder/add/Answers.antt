use Rattle.std.proofs.Common.{sym, subst}
use Rattle.bt_files.specs.OpenFolder.{IsAdded}
use Rattle.bt_files.proofs.open_folder.OpenFolder.add.Goals as goal

pub returns-clause-added : goal.returns-clause-added
returns-clause-added g c = λ written.
    subst (IsAdded c.args.self.now.files c.args.opening.identity) (sym c.keep.ensures) c.in_ok-add_file.ensures.added
