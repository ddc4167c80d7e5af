use Rattle.bt_meta.proofs.Base.{rules, nat_tests, arith, sym, ◌∙◌, dictionary, entries_of}
use Rattle.bt_meta.proofs.FileLayers.{fault_of_string}
use Rattle.bt_meta.proofs.layers.add_layer.Goals as goal

pub check_once-requires-clause-noted : goal.check_once-requires-clause-noted
check_once-requires-clause-noted c noted =
    sym (fault_of_string c.args.piece_length (dictionary (entries_of c.args.entries.now)) c.args.file.now.length c.args.file.now.root c.in-Some.layer.now
    (grind (arith, nat_tests)) (search rules)) ∙ c.requires.right _ _ noted
