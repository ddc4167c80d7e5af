-- What a reader takes of its inner reader and gives, and what a writer takes and gives on.
use Rattle.std.proofs.Common.{◌≡◌, ◌<◌, ◌+◌, ℕ, List, [], ◌++◌, take, length, Option, Some, sym, ◌∙◌, ap, subst, arith, take_at, length-append}
use Rattle.std.specs.Prelude.{min}
use Rattle.std.specs.Io.KnownBytes.{Appends}
use Rattle.bt_wire.specs.declared.message.Ask.{Ask}
use Rattle.bt_connection.specs.declared.translation.Side.{Side}
use Rattle.bt_connection.specs.Flow.{Flow}
use Rattle.bt_connection.proofs.Parts.{nil_of}
use Rattle.bt_connection.specs.Padded.{PaddedState, DirectionState, padded_state, TakesParts, one_more, IsFilled, IsRead, IsWritten}
use Rattle.bt_connection.specs.Translation.{Receives}
use Rattle.bt_connection.specs.TranslationSteps.{IsCollected}

abbrev state : {T : Type 0} → T → Side → List Ask → Flow → List ℕ → PaddedState T
state inner side blocks flow waiting = record { inner = inner; side = side; blocks = blocks; flow = flow; waiting = waiting }

-- what one read collects is one part more
pub part_more : {R : Type 0} (remaining : R → Option (List ℕ)) (count : ℕ) (inner inner' : R) (d d' : DirectionState) (first : PaddedState R) (came : List ℕ)
    → d.waiting ≡ [] → (c : IsCollected (remaining inner) (remaining inner') d count d') → TakesParts remaining first came (padded_state inner d)
    → TakesParts remaining first (came ++ c.part) (padded_state inner' d')
part_more remaining count inner inner' d d' first came none c so =
    let few = c.few in
    let size = c.counted in
    one_more came c.part (padded_state inner d) (padded_state inner' d') so (record {
      given = d'.waiting;
      few = omega (arith, few, size);
      lost = c.lost;
      receives = c.receives;
      waits = ap (λ (xs : List ℕ). xs ++ d'.waiting) (sym none);
      side = c.side;
      blocks = c.blocks;
    })

-- what a read gives of what was filled, and is none only at the end
pub given_of : {R : Type 0} (remaining : R → Option (List ℕ)) (old : PaddedState R) (inner : R) (d d' : DirectionState) (count : ℕ) (old_buffer buffer : List ℕ)
    → IsFilled remaining old (padded_state inner d) → count ≡ min (length d.waiting) (length old_buffer) → length buffer ≡ length old_buffer
    → d.waiting ≡ take count buffer ++ d'.waiting → d' ≡ record d { waiting = d'.waiting } → IsRead remaining old count buffer (padded_state inner d')
given_of remaining old inner d d' count old_buffer buffer fills size long split others =
    let none_left : count ≡ 0 → 0 < length buffer → d.waiting ≡ [] = λ none room. nil_of d.waiting (omega (arith, none, room, size, long)) in
    record {
      filled = padded_state inner d;
      fills = fills;
      gives = record {
        first = split;
        all = λ none room. nil_of d'.waiting (omega (arith, ap length split, length-append (take count buffer) d'.waiting, ap length (none_left none room)));
        others = ap (λ (e : DirectionState). padded_state inner e) others;
      };
      ended = λ none room. fills.ended (none_left none room);
    }

same_but : {W : Type 0} (inner : W) (old : PaddedState W) (d : DirectionState) → old.side ≡ d.side → old.blocks ≡ d.blocks → old.waiting ≡ []
    → padded_state inner (record d { waiting = [] }) ≡ record old { inner = inner; flow = d.flow }
same_but inner old d side blocks none =
    ap (λ (s : Side). state inner s d.blocks d.flow []) (sym side) ∙ ap (λ (bs : List Ask). state inner old.side bs d.flow []) (sym blocks)
    ∙ ap (λ (xs : List ℕ). state inner old.side old.blocks d.flow xs) (sym none)

-- what is taken of bytes, and written
pub written : {W : Type 0} (contents : W → Option (List ℕ)) (count : ℕ) (bytes rest : List ℕ) (inner inner' : W) (d d' : DirectionState) (new : DirectionState)
    (old : PaddedState W) → padded_state inner d ≡ old → d.waiting ≡ [] → IsCollected (Some bytes) (Some rest) d count d'
    → Appends (contents inner) (contents inner') d'.waiting → new ≡ record d' { waiting = [] } → IsWritten contents old bytes count (padded_state inner' new)
written contents count bytes rest inner inner' d d' new old view none c appended cleared =
    let size = c.counted in
    let front : take count bytes ≡ c.part = ap (λ (xs : List ℕ). take count xs) c.lost ∙ take_at c.part rest count size in
    let lengths : length bytes ≡ length c.part + length rest = ap length c.lost ∙ length-append c.part rest in
    let sides : old.side ≡ d'.side = sym (ap (λ (p : PaddedState _). p.side) view) ∙ sym c.side in
    let lists : old.blocks ≡ d'.blocks = sym (ap (λ (p : PaddedState _). p.blocks) view) ∙ sym c.blocks in
    record {
      given = d'.waiting;
      few = omega (arith, size, lengths);
      some = λ zero. nil_of bytes (omega (arith, zero, size, lengths, ap length (c.ended zero)));
      receives = subst (λ (e : DirectionState). Receives old.blocks old.side old.flow (take count bytes) e.flow d'.waiting) (sym cleared)
          (subst (λ (xs : List ℕ). Receives old.blocks old.side old.flow xs d'.flow d'.waiting) (sym front)
          (subst (λ (p : PaddedState _). Receives p.blocks p.side p.flow c.part d'.flow d'.waiting) view c.receives));
      appended = subst (λ i. Appends (contents i) (contents inner') d'.waiting) (ap (λ (p : PaddedState _). p.inner) view) appended;
      others = ap (λ (e : DirectionState). padded_state inner' e) cleared ∙ same_but inner' old d' sides lists (sym (ap (λ (p : PaddedState _). p.waiting) view) ∙ none)
          ∙ ap (λ (f : Flow). record old { inner = inner'; flow = f }) (sym (ap (λ (e : DirectionState). e.flow) cleared));
    }
