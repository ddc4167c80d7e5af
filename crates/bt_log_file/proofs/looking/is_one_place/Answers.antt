use Rattle.std.proofs.Common.{◌∙◌, sym, inl, inr, false}
use Rattle.std.proofs.lemmas.Bool.{false≢true}
use Rattle.bt_log_file.specs.Looking.{unlike}
use Rattle.bt_log_file.proofs.Places.{below, last}
use Rattle.bt_log_file.proofs.looking.is_one_place.Goals.{then-is_some-via-then-is_some, then-is_some-via-else-is_some+then-is_some-2, then-is_some-via-else-is_some+else-is_some-2+then-folder-path}
use Rattle.bt_log_file.proofs.looking.is_one_place.Goals as goal

pub returns-then-is_some : goal.returns-then-is_some
returns-then-is_some g c =
    c.places.invariant.2 c.are_one.result
    (last (g.R.Lookup.tells c.args.rt.now) c.places.path.now c.places.other.now c.folder_of-folder.result.now c.folder_of-other_folder.result.now
    c.identity_at-told.result c.identity_at-other_told.result c.are_one.result c.folder_of-folder.ensures c.folder_of-other_folder.ensures
    (c.end_alike.ensures.0 c.places-test.true) c.identity_at-told.ensures c.identity_at-other_told.ensures c.are_one.ensures
    (elim c.then-is_some.branch [
      | then-is_some-via-then-is_some w ↦ inl (sym c.is_some.ensures ∙ w.if-is_some.true)
      | then-is_some-via-else-is_some+then-is_some-2 w ↦ inr (inl (sym w.is_some-else-is_some.ensures ∙ w.if-is_some-2.true))
      | then-is_some-via-else-is_some+else-is_some-2+then-folder-path w ↦ inr (inr w.if-folder-path.true)
    ]))

pub places-preserved : goal.places-preserved
places-preserved g c = (
  c.folder_of-folder.utf8,
  c.folder_of-other_folder.utf8,
  λ is_one place.
      c.places.invariant.2 is_one
      (below (g.R.Lookup.tells c.args.rt.now) c.places.path.now c.places.other.now c.folder_of-folder.result.now c.folder_of-other_folder.result.now
      c.identity_at-told.result c.identity_at-other_told.result is_one c.folder_of-folder.ensures c.folder_of-other_folder.ensures
      (c.end_alike.ensures.0 c.places-test.true) c.identity_at-told.ensures c.identity_at-other_told.ensures
      (sym c.is_some.ensures ∙ c.if-is_some.false) (sym c.is_some-else-is_some.ensures ∙ c.if-is_some-2.false) place),
)

pub returns : goal.returns
returns g c =
    c.places.invariant.2 false (unlike c.places.path.now c.places.other.now (λ alike. false≢true (sym c.places-test.false ∙ c.end_alike.ensures.1 alike)))
