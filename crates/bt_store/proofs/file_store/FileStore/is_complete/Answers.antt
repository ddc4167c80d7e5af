use Rattle.std.proofs.Common.{◌≡◌, length, sym, ◌∙◌, ap, eq-eqb, eqb-true}
use Rattle.bt_store.proofs.Counts.{all_marked, marked_count}
use Rattle.bt_store.proofs.file_store.FileStore.is_complete.Goals as goal

pub returns : goal.returns
returns g c =
    let states = c.args.self.now.states in
    let count : c.blocks-2.result ≡ length states = c.blocks-2.ensures.value ∙ sym c.self.invariant ∙ ap (λ s. length s.states) c.self.view_is in (
      λ yes. all_marked states (sym c.marked.ensures ∙ eqb-true c.marked.result c.blocks-2.result yes ∙ count),
      λ all. eq-eqb c.marked.result c.blocks-2.result (c.marked.ensures ∙ marked_count states all ∙ sym count),
    )
