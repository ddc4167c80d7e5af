use Rattle.bt_meta.proofs.Base.{rules, string_bytes, length-map, is_element}
use Rattle.std.proofs.Common.{tests}
use Rattle.std.proofs.lemmas.Iterator.{YieldsList-from_slice}
use Rattle.std.proofs.lemmas.Iterator.Search.{all_from_yields_List}
use Rattle.std.proofs.lemmas.List.Folds.{list_all-map}
use Rattle.bt_meta.proofs.writer.is_path.Goals as goal

pub returns-then-not-is_empty : goal.returns-then-not-is_empty
returns-then-not-is_empty c =
    rw (list_all-map is_element string_bytes c.args.path.now, length-map, ← c.if-not-is_empty.ensures)
    (all_from_yields_List (λ e. is_element (string_bytes e)) _ _ c.all.result c.all.ensures.ran (YieldsList-from_slice c.args.path.now cc)
    (λ x b q k. search (rules, tests)))
