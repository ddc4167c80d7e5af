use Rattle.bt_meta.proofs.Base.{refl}
use Rattle.bt_meta.proofs.TreeWalk.{start, whole_tree}
use Rattle.bt_meta.proofs.walk.read_tree.Goals as goal

pub returns : goal.returns
returns c =
    let begun = start _ _ c.new.ensures.items refl c.new-2.ensures.empty in
    whole_tree _ _ c.if-has.ensures begun c.in_ok-walk_folder.ensures.passed (rw c.as_slice.ensures.value at c.if-is_empty.ensures) refl refl
