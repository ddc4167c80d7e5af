use Rattle.bt_meta.proofs.Base.{arith, ◌∙◌, overlap, err_from_is_err_and}
use Rattle.bt_meta.specs.Writer.{too_long}
use Rattle.bt_meta.proofs.MakeFiles.{same_overlap, tree_paths, files_refused, files_unlawful, memory_short}
use Rattle.bt_meta.proofs.MadeText.{made_of_given, infohash_made, has_info}
use Rattle.bt_meta.proofs.writer.make_torrent.Goals as goal

pub returns-in_err-check_files-clause-refused : goal.returns-in_err-check_files-clause-refused
returns-in_err-check_files-clause-refused c =
    let q = err_from_is_err_and c.from_residual.result c.from_residual.ensures.1 in
    rw (q.1, q.2) (files_unlawful _ c.if-not-is_lawful_length.ensures c.if-is_empty.ensures c.in_err-check_files.ensures.checked)

pub returns-in_err-ordered-clause-refused : goal.returns-in_err-ordered-clause-refused
returns-in_err-ordered-clause-refused c =
    let q = err_from_is_err_and c.from_residual-in_err-ordered.result c.from_residual-in_err-ordered.ensures.1 in
    rw (q.1, q.2) (memory_short _ c.if-not-is_lawful_length.ensures c.if-is_empty.ensures)

pub returns-in_err-value-clause-refused : goal.returns-in_err-value-clause-refused
returns-in_err-value-clause-refused c =
    let q = err_from_is_err_and c.from_residual-in_err-value.result c.from_residual-in_err-value.ensures.1 in
    rw (q.1, q.2) (memory_short _ c.if-not-is_lawful_length.ensures c.if-is_empty.ensures)

pub returns-in_err-text-clause-refused : goal.returns-in_err-text-clause-refused
returns-in_err-text-clause-refused c =
    let q = err_from_is_err_and c.from_residual-in_err-text.result c.from_residual-in_err-text.ensures.1 in
    rw (q.1, q.2) (memory_short _ c.if-not-is_lawful_length.ensures c.if-is_empty.ensures)

pub returns-then-has_overlap-clause-refused : goal.returns-then-has_overlap-clause-refused
returns-then-has_overlap-clause-refused c =
    overlap (files_refused _ _ c.if-not-is_lawful_length.ensures c.if-is_empty.ensures ∙ c.in_ok-check_files.ensures.checked)
    (same_overlap c.in_ok-ordered.ensures (rw (c.deref.ensures.value) at c.if-has_overlap.ensures))

pub value_of-requires-clause-tree_paths : goal.value_of-requires-clause-tree_paths
value_of-requires-clause-tree_paths c =
    rw (c.deref-2.ensures.value) (tree_paths c.in_ok-ordered.ensures (rw (c.deref.ensures.value) at c.if-has_overlap.ensures))

pub returns-then-len-gt-MAX_TEXT_LENGTH-clause-refused : goal.returns-then-len-gt-MAX_TEXT_LENGTH-clause-refused
returns-then-len-gt-MAX_TEXT_LENGTH-clause-refused c =
    let value = rw (c.deref-2.ensures.value) at c.in_ok-value.ensures in
    too_long (files_refused _ _ c.if-not-is_lawful_length.ensures c.if-is_empty.ensures ∙ c.in_ok-check_files.ensures.checked)
    (same_overlap c.in_ok-ordered.ensures (rw (c.deref.ensures.value) at c.if-has_overlap.ensures))
    (record {
      ordered = _;
      in_order = c.in_ok-ordered.ensures;
      layers = value.layers;
      layered = value.layered;
      long = rw (← value.made, ← c.in_ok-text.ensures) (omega arith);
    })

pub returns-clause-made : goal.returns-clause-made
returns-clause-made c =
    made_of_given c.args.files.now c.if-not-is_lawful_length.ensures c.if-is_empty.ensures c.in_ok-check_files.ensures.checked
    c.in_ok-check_files.ensures.rooted c.in_ok-ordered.ensures (rw (c.deref.ensures.value) at c.if-has_overlap.ensures)
    (rw (c.deref-2.ensures.value) at c.in_ok-value.ensures) c.in_ok-text.ensures (omega arith)

pub returns-clause-apart : goal.returns-clause-apart
returns-clause-apart c = same_overlap c.in_ok-ordered.ensures (rw (c.deref.ensures.value) at c.if-has_overlap.ensures)

pub infohash_in-infohash-requires-clause-there : goal.infohash_in-infohash-requires-clause-there
infohash_in-infohash-requires-clause-there c = has_info (rw (c.deref-2.ensures.value) at c.in_ok-value.ensures)

pub returns-clause-infohash : goal.returns-clause-infohash
returns-clause-infohash c =
    infohash_made c.args.files.now c.if-not-is_lawful_length.ensures c.if-is_empty.ensures c.in_ok-check_files.ensures.checked
    c.in_ok-check_files.ensures.rooted c.in_ok-ordered.ensures (rw (c.deref.ensures.value) at c.if-has_overlap.ensures)
    (rw (c.deref-2.ensures.value) at c.in_ok-value.ensures) c.in_ok-text.ensures (omega arith) c.infohash_in-infohash.ensures
