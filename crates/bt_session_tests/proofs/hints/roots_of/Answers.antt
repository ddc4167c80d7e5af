use Rattle.std.proofs.Common.{[], ◌∷◌, ◌≡◌, None, Some, Option, ℕ, false, refl, sym, ◌∙◌}
use Rattle.std.specs.Prelude.{is_some}
use Rattle.bt_engine_start.proofs.Numbers.{no_number, none_numbered, number_added}
use Rattle.bt_session_tests.proofs.hints.roots_of.Goals as goal

none_by : (o : Option ℕ) → is_some o ≡ false → o ≡ None
none_by None e = refl
none_by (Some t) e = absurd cc

pub returns : goal.returns
returns c =
    let empty = c.new-trees.ensures.empty in
    let one = number_added [] c.new-trees.result c.insert.new.self c.args.first (none_numbered c.new-trees.result empty) (no_number c.new-trees.result empty c.args.first)
    c.in_ok-insert.ensures.updates in
    number_added (c.args.first ∷ []) c.insert.new.self c.insert-2.new.self c.args.second one
    (sym c.in_ok-insert-2.ensures.old ∙ none_by c.in_ok-insert-2.field-0 (sym c.is_some.ensures ∙ c.if-is_some.false)) c.in_ok-insert-2.ensures.updates
