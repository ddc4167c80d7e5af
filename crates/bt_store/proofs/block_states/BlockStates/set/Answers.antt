use Rattle.std.proofs.Common.{◌≡◌, ◌<◌, List, length, get_or, set, ap, sym, ◌∙◌, subst, arith}
use Rattle.bt_store.specs.BlockStates.{is_marked, is_waiting, HasCounts}
use Rattle.bt_store.specs.StateChunks.{states_of, HavePlaces}
use Rattle.bt_store.specs.declared.block_states.BlockState.{BlockState}
use Rattle.bt_store.specs.declared.block_states.BlockState.TheVariants.{Missing}
use Rattle.bt_store.proofs.StateChunks.{has_chunk, has_place, states_length, chunk_written, states_set, places_set, counts_set, counted, few_counted}
use Rattle.bt_store.proofs.block_states.BlockStates.set.Goals as goal

pub recount-self-inside-requires-clause-there : goal.recount-self-inside-requires-clause-there
recount-self-inside-requires-clause-there c = λ was.
    let states = states_of c.self.inside.count c.self.inside.chunks.items in
    let inside : c.args.block < length states = omega (arith, c.requires, ap length c.self.view_is) in
    let before = c.state-before.ensures ∙ ap (λ (s : List BlockState). get_or s c.args.block Missing) (sym c.self.view_is) in
    let some = counted is_marked states c.args.block inside _ before (sym c.is_marked.ensures ∙ was) in
    omega (arith, some, c.self.invariant.0.marked_count)

pub recount-self-inside-requires-clause-room : goal.recount-self-inside-requires-clause-room
recount-self-inside-requires-clause-room c =
    few_counted is_marked _ _ c.self.invariant.0.marked_count c.self.invariant.0.few

pub recount-self-inside-requires-2-clause-there : goal.recount-self-inside-requires-2-clause-there
recount-self-inside-requires-2-clause-there c = λ was.
    let states = states_of c.self.inside.count c.self.inside.chunks.items in
    let inside : c.args.block < length states = omega (arith, c.requires, ap length c.self.view_is) in
    let before = c.state-before.ensures ∙ ap (λ (s : List BlockState). get_or s c.args.block Missing) (sym c.self.view_is) in
    let some = counted is_waiting states c.args.block inside _ before (sym c.is_waiting.ensures ∙ was) in
    omega (arith, some, c.self.invariant.0.waiting_count)

pub recount-self-inside-requires-2-clause-room : goal.recount-self-inside-requires-2-clause-room
recount-self-inside-requires-2-clause-room c =
    few_counted is_waiting _ _ c.self.invariant.0.waiting_count c.self.invariant.0.few

pub index_mut-chunk-requires : goal.index_mut-chunk-requires
index_mut-chunk-requires c =
    let size : length c.args.self.now ≡ c.self.inside.count = ap length (sym c.self.view_is) ∙ states_length _ _ in
    let inside : c.args.block < c.self.inside.count = omega (arith, c.requires) in
    omega (arith, has_chunk _ _ _ c.self.invariant.1 inside, c.self.inside.chunks.ok.0)

pub set-requires : goal.set-requires
set-requires c =
    let size : length c.args.self.now ≡ c.self.inside.count = ap length (sym c.self.view_is) ∙ states_length _ _ in
    let inside : c.args.block < c.self.inside.count = omega (arith, c.requires) in
    has_place _ _ _ _ c.self.invariant.1 inside c.index_mut-chunk.ensures.value

pub invariant_of-self : goal.invariant_of-self
invariant_of-self c =
    let count = c.self.inside.count in
    let chunks = c.self.inside.chunks.items in
    let size : length c.args.self.now ≡ count = ap length (sym c.self.view_is) ∙ states_length _ _ in
    let inside : c.args.block < count = omega (arith, c.requires) in
    let here : c.args.block < length (states_of count chunks) = omega (arith, inside, states_length count chunks) in
    let before = c.state-before.ensures ∙ ap (λ (s : List BlockState). get_or s c.args.block Missing) (sym c.self.view_is) in
    let written = chunk_written _ _ _ c.args.state _ _ c.self.invariant.1 inside c.index_mut-chunk.ensures.value c.set.ensures in
    let now = ap (states_of count) written ∙ states_set chunks count c.args.block c.self.invariant.1 inside c.args.state in
    let marked = rw (c.is_marked.ensures, c.is_marked-2.ensures) at c.recount-self-inside.ensures in
    let waiting = rw (c.is_waiting.ensures, c.is_waiting-2.ensures) at c.recount-self-inside-2.ensures in (
      subst (λ (states : List BlockState). HasCounts states c.recount-self-inside.result c.recount-self-inside-2.result) (sym now)
          (counts_set _ _ _ _ _ _ _ _ c.self.invariant.0 here before marked waiting),
      subst (HavePlaces count) (sym written) (places_set chunks count c.args.block c.self.invariant.1 inside c.args.state),
    )

pub returns : goal.returns
returns c =
    let count = c.self.inside.count in
    let chunks = c.self.inside.chunks.items in
    let size : length c.args.self.now ≡ count = ap length (sym c.self.view_is) ∙ states_length _ _ in
    let inside : c.args.block < count = omega (arith, c.requires) in
    let written = chunk_written _ _ _ c.args.state _ _ c.self.invariant.1 inside c.index_mut-chunk.ensures.value c.set.ensures in
    ap (states_of count) written
    ∙ states_set chunks count c.args.block c.self.invariant.1 inside c.args.state
    ∙ ap (λ s. set s c.args.block c.args.state) c.self.view_is
