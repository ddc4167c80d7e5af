-- Interest by the wanted blocks.
use Rattle.bt_machine.proofs.Base.{Bool, true, false, Option, refl, BlockId}
use Rattle.std.specs.Prelude.{◌↔◌, IsTrue}
use Rattle.std.specs.Bool.{OnTrue, OnFalse}
use Rattle.bt_book.specs.Blocks.{GivesFirst}
use Rattle.bt_book.specs.Book.{HasWanted, HasNoneWanted}
use Rattle.bt_machine.specs.State.{PeerState}
use Rattle.bt_machine.specs.Shape.{IsShaped}
use Rattle.bt_machine.specs.FollowUp.{IsInteresting}
use Rattle.bt_engine_state.specs.Parts.{state_of}
use Rattle.bt_engine_state.specs.Ties.{IsTied}
use Rattle.bt_engine_state.specs.declared.parts.Parts.{Parts}
use Rattle.bt_engine_after.specs.HeldSteps.{is_held}
use Rattle.bt_engine_after.proofs.Blocks.{has_of_held, held_of_has}

module _ {D H : Type 0} (parts : Parts D H) (p : PeerState) (tied : IsTied parts) (shaped : IsShaped parts.torrent (state_of parts))
    {next : BlockId → Option BlockId → Type 0} (gives : GivesFirst next parts.book.wanted (is_held parts.torrent p.has)) where
  pub interest_is : (wants : Bool) → OnTrue wants ((has : BlockId → Bool) → GivesFirst next parts.book.wanted has → HasWanted has parts.book)
      → OnFalse wants ((has : BlockId → Bool) → GivesFirst next parts.book.wanted has → HasNoneWanted has parts.book)
      → IsTrue wants ↔ IsInteresting (state_of parts) p
  interest_is true given never = (
    λ _. (let w = given (is_held parts.torrent p.has) gives in (w.0, has_of_held (state_of parts) shaped p w.0 w.2, (tied.wanted w.0).0 w.1)),
    λ _. refl,
  )
  interest_is false given never = (
    λ e. absurd cc,
    λ i. absurd (let out = never (is_held parts.torrent p.has) gives i.0 ((tied.wanted i.0).1 i.2) in
        let held = held_of_has (state_of parts) shaped p i.0 i.2 i.1 in cc),
  )
