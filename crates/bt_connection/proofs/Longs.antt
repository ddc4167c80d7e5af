-- Messages as long as a piece with a whole block, by how many bytes are left where they begin.
use Rattle.std.proofs.Common.{◌≡◌, ◌≤◌, ℕ, ◌+◌, ◌-◌, List, [], ◌∷◌, ◌++◌, length, take, drop, sym, ◌∙◌, ap, subst, arith, length-drop, drop-drop}
use Rattle.std.specs.Prelude.{All}
use Rattle.std.proofs.lemmas.List.{length-take-le}
use Rattle.std.proofs.lemmas.List.Elements.{All-weaker, All-push, All-take}
use Rattle.bt_wire.specs.declared.frames.TheConstants.{BLOCK_MESSAGE_LEN}
use Rattle.bt_wire.specs.Frames.{BeginsFrame}
use Rattle.bt_connection.specs.Messages.{IsBlockLong, IsLongAt}
use Rattle.bt_connection.specs.MessageSteps.{HasLong}

pub long_later : (bytes : List ℕ) (at next : ℕ) (lefts : List ℕ) → at ≤ next → All (IsLongAt bytes at) lefts → All (IsLongAt bytes next) lefts
long_later bytes at next lefts more = All-weaker (IsLongAt bytes at) (IsLongAt bytes next)
    (λ left is. record { there = is.there; message = is.message; within = omega (arith, is.within, more) })
    lefts

-- one more of them stands after the others
pub long_more : (bytes : List ℕ) (at len most : ℕ) (lefts : List ℕ) → All (IsLongAt bytes at) lefts → BeginsFrame (drop at bytes) len
    → at ≤ length bytes → len ≡ BLOCK_MESSAGE_LEN → All (IsLongAt bytes (at + len)) (take most (lefts ++ (length bytes - at) ∷ []))
long_more bytes at len most lefts all begins inside size =
    let left : ℕ = length bytes - at in
    let place : length bytes - left ≡ at = omega arith in
    let message : IsBlockLong (take len (drop at bytes))
    = record { frame = begins.frame; size = length-take-le len (drop at bytes) begins.inside ∙ size } in
    All-take (IsLongAt bytes (at + len)) most (lefts ++ left ∷ [])
    (All-push (IsLongAt bytes (at + len)) lefts left (long_later bytes at (at + len) lefts (omega arith) all) record {
      there = omega arith;
      message = subst (λ (n : ℕ). IsBlockLong (take BLOCK_MESSAGE_LEN (drop n bytes))) (sym place)
          (subst (λ (n : ℕ). IsBlockLong (take n (drop at bytes))) size message);
      within = omega (arith, place, size);
    })

-- where as many bytes are left, the same bytes follow, whatever stands before
same_left : (bytes : List ℕ) (before left : ℕ) → before ≤ length bytes → left ≤ length (drop before bytes)
    → drop (length (drop before bytes) - left) (drop before bytes) ≡ drop (length bytes - left) bytes
same_left bytes before left inside there =
    let place : before + (length (drop before bytes) - left) ≡ length bytes - left = omega (arith, there, length-drop before bytes) in
    drop-drop (length (drop before bytes) - left) before bytes ∙ ap (λ (n : ℕ). drop n bytes) place

-- bytes stand before them
pub long_behind : (bytes : List ℕ) (before ready : ℕ) (lefts : List ℕ) → before ≤ length bytes
    → All (IsLongAt (drop before bytes) ready) lefts → (next : ℕ) → before + ready ≤ next → HasLong bytes next lefts
long_behind bytes before ready lefts inside all next more = record {
  each = All-weaker (IsLongAt (drop before bytes) ready) (λ left. left ≤ length bytes → IsLongAt bytes next left)
      (λ left is there. record {
        there = there;
        message = subst (λ (l : List ℕ). IsBlockLong (take BLOCK_MESSAGE_LEN l)) (same_left bytes before left inside is.there) is.message;
        within = omega (arith, is.there, is.within, inside, more, length-drop before bytes);
      })
      lefts all;
}

-- bytes in front are given
pub long_after : (bytes : List ℕ) (count ready : ℕ) (lefts : List ℕ) → count ≤ length bytes → HasLong bytes ready lefts
    → HasLong (drop count bytes) (ready - count) lefts
long_after bytes count ready lefts inside all = record {
  each = All-weaker (λ left. left ≤ length bytes → IsLongAt bytes ready left)
      (λ left. left ≤ length (drop count bytes) → IsLongAt (drop count bytes) (ready - count) left)
      (λ left has there.
      let is : IsLongAt bytes ready left = has (omega (arith, there, length-drop count bytes)) in
      record {
        there = there;
        message = subst (λ (l : List ℕ). IsBlockLong (take BLOCK_MESSAGE_LEN l)) (sym (same_left bytes count left inside there)) is.message;
        within = omega (arith, there, is.within, length-drop count bytes);
      })
      lefts all.each;
}
