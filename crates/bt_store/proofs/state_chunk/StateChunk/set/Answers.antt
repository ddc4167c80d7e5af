use Rattle.std.proofs.Common.{◌≡◌, ◌<◌, length, ap, sym, ◌∙◌, set, arith}
use Rattle.std.proofs.lemmas.List.{length-set}
use Rattle.bt_store.proofs.StateChunks.{padded_length, padded_set}
use Rattle.bt_store.proofs.state_chunk.StateChunk.set.Goals as goal

pub overflow_add-index : goal.overflow_add-index
overflow_add-index c =
    let size : length c.args.self.now ≡ c.self.inside.count = ap length (sym c.self.view_is) ∙ padded_length _ _ in
    let inside = c.requires in
    let room = c.self.invariant.1 in
    let small = c.self.inside.states.small in
    omega arith

pub fill_up-requires : goal.fill_up-requires
fill_up-requires c =
    let size : length c.args.self.now ≡ c.self.inside.count = ap length (sym c.self.view_is) ∙ padded_length _ _ in
    let inside = c.requires in
    let room = c.self.invariant.1 in
    omega arith

pub invariant_of-self : goal.invariant_of-self
invariant_of-self c =
    let size : length c.args.self.now ≡ c.self.inside.count = ap length (sym c.self.view_is) ∙ padded_length _ _ in
    let inside = c.requires in
    let written = length-set c.fill_up.new.states.items c.args.index c.args.state in
    let filled = c.fill_up.ensures.size in
    let few = c.self.invariant.0 in
    let room = c.self.invariant.1 in
    let kept = c.fill_up.ensures.room in (
      omega arith,
      omega arith,
    )

pub returns : goal.returns
returns c =
    let size : length c.args.self.now ≡ c.self.inside.count = ap length (sym c.self.view_is) ∙ padded_length _ _ in
    let inside : c.args.index < c.self.inside.count = omega (arith, c.requires) in
    let filled = c.fill_up.ensures.size in
    padded_set _ _ _ _ c.args.state inside (omega arith) c.fill_up.ensures.same
    ∙ ap (λ s. set s c.args.index c.args.state) c.self.view_is
