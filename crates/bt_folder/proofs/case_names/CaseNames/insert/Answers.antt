use Rattle.std.proofs.Common.{arith}
use Rattle.std.proofs.lemmas.Map.Text.{text_keys}
use Rattle.bt_folder.proofs.case_names.CaseNames.insert.Goals as goal

pub returns-clause-added : goal.returns-clause-added
returns-clause-added c = grind (arith, text_keys)
