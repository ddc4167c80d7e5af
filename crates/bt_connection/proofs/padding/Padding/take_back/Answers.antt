use Rattle.std.proofs.Common.{rules, not, ◌∙◌, ap}
use Rattle.std.proofs.lemmas.Fn.{filter_same}
use Rattle.bt_connection.specs.Padding.{Memory, is_ask, without}
use Rattle.bt_connection.proofs.padding.Padding.take_back.Goals as goal

pub returns : goal.returns
returns c =
    filter_same _ (λ other. not (is_ask c.args.ask other)) _ (λ x b f' k. search rules) _ _ c.retain.ensures.filtered
    ∙ ap (λ (asked : Memory). without asked c.args.ask) c.self.view_is
