use Rattle.std.proofs.Common.{rules}
use Rattle.bt_meta.proofs.file_path.FilePath.elements.Goals as goal

pub returns : goal.returns
returns c = search rules
