-- What a direction takes of bytes that come, as it is seen from outside.
use Rattle.std.proofs.Common.{◌≡◌, ◌≤◌, ◌<◌, ◌-◌, ◌++◌, ℕ, List, [], take, drop, length, Option, refl, inl, inr, sym, ◌∙◌, ap, subst, arith}
use Rattle.std.proofs.lemmas.List.{take_all, drop_all}
use Rattle.std.specs.Io.KnownBytes.{IsAtEnd}
use Rattle.bt_wire.specs.declared.message.Ask.{Ask}
use Rattle.bt_connection.specs.Room.{IsTakenIn}
use Rattle.bt_connection.specs.declared.translation.Side.{Side}
use Rattle.bt_connection.specs.Flow.{flow, Waits}
use Rattle.bt_connection.specs.Padded.{DirectionState, direction_state}
use Rattle.bt_connection.specs.FrameSteps.{IsMissing}
use Rattle.bt_connection.specs.Translation.{Settles, waits, Receives, passes, settles}
use Rattle.bt_connection.specs.TranslationSteps.{IsApart, IsOrderly, EndsWithFrame, IsWanted, IsCollected}
use Rattle.bt_connection.proofs.Frames.{ends_with_frame}
use Rattle.bt_connection.proofs.Rooms.{none_ready}

-- as many bytes as are wanted come, and these are received
gathered : (old new : DirectionState) (before after : Option (List ℕ)) (room room' : List ℕ) (count most : ℕ)
    → (t : IsTakenIn before after room count room') → IsWanted old most → length old.flow.unread ≡ length room → count ≤ most
    → (count ≡ 0 → 0 < most → IsAtEnd after) → Receives old.blocks old.side old.flow t.came new.flow new.waiting
    → new.side ≡ old.side → new.blocks ≡ old.blocks → IsCollected before after old count new
gathered old new before after room room' count most t wanted same few ended receives side blocks =
    let fits = wanted.fits in
    record {
      part = t.came;
      counted = t.size;
      few = omega (arith, few, fits);
      lost = t.lost;
      ended = λ none. ended none wanted.some;
      receives = receives;
      side = side;
      blocks = blocks;
    }

module _ (side : Side) (blocks : List Ask) (passing ready : ℕ) (room : List ℕ) (none : take ready room ≡ []) (inside : ready ≤ length room) where
  abbrev seen : ℕ → ℕ → List ℕ → DirectionState
  seen passing ready room = direction_state side blocks passing room ready

  abbrev old : DirectionState
  old = seen passing ready room

  unready : ready ≡ 0
  unready = none_ready ready room inside none

  all_unread : drop ready room ≡ room
  all_unread = ap (λ n. drop n room) unready

  pub missing_wanted : (bytes : List ℕ) (most : ℕ) → bytes ≡ room → passing ≤ 0 → IsMissing bytes most → IsWanted old most
  missing_wanted bytes most same zero m =
      let is : IsMissing (drop ready room) most = subst (λ (xs : List ℕ). IsMissing xs most) (same ∙ sym all_unread) m in
      record {
        some = is.some;
        fits = is.fits;
        pass = λ some. absurd (omega (arith, some, zero));
        missing = λ _. is;
      }

  module _ (before after : Option (List ℕ)) (count most : ℕ) (room' : List ℕ) (t : IsTakenIn before after room count room') (wanted : IsWanted old most)
      (few : count ≤ most) (ended : count ≡ 0 → 0 < most → IsAtEnd after) where
    -- `count` of the bytes that pass
    pub pass_collected : IsApart passing (drop ready room) → 0 < passing → IsCollected before after old count (seen (passing - count) count room')
    pass_collected apart some =
        let empty : room ≡ [] = elim apart [ inl zero ↦ absurd (omega (arith, zero, some)) | inr nothing ↦ sym all_unread ∙ nothing ] in
        let is : room' ≡ t.came = t.behind ∙ ap (λ (xs : List ℕ). xs ++ t.came) empty in
        let size = t.size in
        let enough = wanted.pass some in
        let nothing : drop count room' ≡ [] = drop_all count room' (omega (arith, ap length is, size)) in
        let whole : take count room' ≡ t.came = take_all count room' (omega (arith, ap length is, size)) ∙ is in
        gathered old (seen (passing - count) count room') before after room room' count most t wanted (ap length all_unread) few ended
        (passes (omega (arith, size, few, enough))
        (ap (λ (xs : List ℕ). flow (passing - count) xs) (nothing ∙ sym (all_unread ∙ empty)) ∙ ap (λ n. flow (passing - n) (drop ready room)) (sym size)) whole)
        refl refl

    pub ends_whole : (bytes : List ℕ) → bytes ≡ room' → passing ≤ 0 → EndsWithFrame bytes
    ends_whole bytes same zero =
        let m : IsMissing room most = subst (λ (xs : List ℕ). IsMissing xs most) all_unread (wanted.missing (omega (arith, zero))) in
        let size = t.size in
        subst EndsWithFrame (sym (same ∙ t.behind)) (ends_with_frame room t.came most m (omega (arith, size, few)))

    abbrev joined : List ℕ
    joined = drop ready room ++ t.came

    as_joined : (bytes : List ℕ) → bytes ≡ room' → bytes ≡ joined
    as_joined bytes same = same ∙ t.behind ∙ ap (λ (xs : List ℕ). xs ++ t.came) (sym all_unread)

    -- what is missing of a frame, and is given on
    pub settled_collected : (bytes now : List ℕ) (behind all : ℕ) → bytes ≡ room' → passing ≤ 0 → all ≡ length now
        → Settles blocks side bytes (flow behind []) now → IsCollected before after old count (seen behind all now)
    settled_collected bytes now behind all same zero whole s =
        let nothing : drop all now ≡ [] = drop_all all now (omega (arith, whole)) in
        let given : take all now ≡ now = take_all all now (omega (arith, whole)) in
        let come : Settles blocks side joined (flow behind []) now = subst (λ (xs : List ℕ). Settles blocks side xs (flow behind []) now) (as_joined bytes same) s in
        let left : Settles blocks side joined (flow behind (drop all now)) now = subst (λ (xs : List ℕ). Settles blocks side joined (flow behind xs) now) (sym nothing) come in
        gathered old (seen behind all now) before after room room' count most t wanted (ap length all_unread) few ended
        (settles (omega (arith, zero)) (subst (λ (xs : List ℕ). Settles blocks side joined (flow behind (drop all now)) xs) (sym given) left)) refl refl

    -- and waits
    pub kept_collected : (bytes now : List ℕ) → bytes ≡ room' → passing ≤ 0 → Waits bytes → now ≡ bytes
        → IsCollected before after old count (seen passing ready now)
    kept_collected bytes now same zero w is =
        let nothing : take ready now ≡ [] = ap (λ n. take n now) unready in
        let come : Waits joined = subst Waits (as_joined bytes same) w in
        let left : flow passing (drop ready now) ≡ flow 0 joined
        = ap (λ n. flow passing (drop n now)) unready ∙ ap (λ n. flow n now) (omega (arith, zero)) ∙ ap (λ (xs : List ℕ). flow 0 xs) (is ∙ as_joined bytes same) in
        gathered old (seen passing ready now) before after room room' count most t wanted (ap length all_unread) few ended
        (settles (omega (arith, zero)) (waits come left nothing)) refl refl

  pub waits_unready : (now : List ℕ) → Waits now → passing ≤ 0 → IsOrderly passing now ready
  waits_unready now w zero = (
    omega (arith, unready),
    subst Waits (sym (ap (λ n. drop n now) unready)) w,
    inl (omega (arith, zero)),
  )
