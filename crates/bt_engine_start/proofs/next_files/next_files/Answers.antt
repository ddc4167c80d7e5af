use Rattle.bt_meta.specs.Files.{file_of}
use Rattle.std.proofs.Common.{map, sym, ◌∙◌, subst}
use Rattle.std.proofs.lemmas.List.{with_items_is}
use Rattle.bt_engine_state.specs.Roots.{AreNextFiles}
use Rattle.bt_engine_start.proofs.next_files.next_files.Goals as goal

pub returns : goal.returns
returns c =
    subst (λ ns. AreNextFiles (map file_of c.args.files.now) ns) (sym (with_items_is c.in_ok-nexts.nexts c.fill_next_files.new.nexts (c.fill_next_files.auto.nexts ∙ c.deref_mut.ensures.len)))
    c.in_ok-fill_next_files.ensures
