-- Frames at the front of a list of bytes.
use Rattle.std.proofs.Common.{◌≡◌, ◌≤◌, ◌<◌, ◌+◌, ◌-◌, ◌^◌, inl, inr, ℕ, List, [], ◌++◌, take, drop, length, refl, sym, ◌∙◌, ap, arith, length-append, length-take}
use Rattle.std.specs.Int.{w32, to_be_bytes}
use Rattle.std.proofs.lemmas.List.{append_assoc, append-nil, take_at, drop_at, take-append-drop, take-append-le}
use Rattle.std.proofs.lemmas.Bool.{cases_lt}
use Rattle.bt_tree.specs.Limits.{full_block_length}
use Rattle.bt_wire.specs.Frames.{IsFrame}
use Rattle.bt_wire.proofs.SameFrames.{same_number}
use Rattle.bt_wire.proofs.FrameLengths.{begins_frame}
use Rattle.bt_connection.specs.Flow.{IsOther, Waits}
use Rattle.bt_connection.specs.FrameSteps.{IsMissing}
use Rattle.bt_connection.specs.TranslationSteps.{EndsWithFrame}

-- a frame has a length field at least
pub frame_long : (frame : List ℕ) → IsFrame frame → 4 ≤ length frame
frame_long frame is =
    let size = ap length is.spelled ∙ length-append (to_be_bytes w32 (length is.body)) is.body in
    omega (arith, size)

-- two frames at the front of one list are one
pub record AreOne (p q r s : List ℕ) : Type 0 where
  pub frame : p ≡ q
  pub rest : r ≡ s

pub one_frame : (p q r s : List ℕ) → IsFrame p → IsFrame q → p ++ r ≡ q ++ s → AreOne p q r s
one_frame p q r s p-is q-is same =
    let left : p ++ r ≡ to_be_bytes w32 (length p-is.body) ++ (p-is.body ++ r)
    = ap (λ (xs : List ℕ). xs ++ r) p-is.spelled ∙ append_assoc (to_be_bytes w32 (length p-is.body)) p-is.body r in
    let right : q ++ s ≡ to_be_bytes w32 (length q-is.body) ++ (q-is.body ++ s)
    = ap (λ (xs : List ℕ). xs ++ s) q-is.spelled ∙ append_assoc (to_be_bytes w32 (length q-is.body)) q-is.body s in
    let p-fits : length p-is.body < 2 ^ 32 = let l = p-is.limit in omega arith in
    let q-fits : length q-is.body < 2 ^ 32 = let l = q-is.limit in omega arith in
    let size : length p-is.body ≡ length q-is.body
    = same_number (length p-is.body) (length q-is.body) (p-is.body ++ r) (q-is.body ++ s) p-fits q-fits (sym left ∙ same ∙ right) in
    let long : length p ≡ length q
    = ap length p-is.spelled ∙ length-append (to_be_bytes w32 (length p-is.body)) p-is.body
    ∙ ap (λ n. 4 + n) size ∙ sym (ap length q-is.spelled ∙ length-append (to_be_bytes w32 (length q-is.body)) q-is.body) in
    record {
      frame = sym (take_at p r (length p) refl) ∙ ap (λ (xs : List ℕ). take (length p) xs) same ∙ take_at q s (length p) (sym long);
      rest = sym (drop_at p r (length p) refl) ∙ ap (λ (xs : List ℕ). drop (length p) xs) same ∙ drop_at q s (length p) (sym long);
    }

-- none stands where bytes of a message are missing
pub not_yet : (bytes more frame rest : List ℕ) (missing : ℕ) → IsOther bytes missing → length more < missing → IsFrame frame
    → bytes ++ more ≡ frame ++ rest → ⊥
not_yet bytes more frame rest missing t few is same =
    let body : List ℕ = is.body in
    let limit = is.limit in
    let long : 4 ≤ length bytes = t.has_field in
    let whole : bytes ++ more ≡ to_be_bytes w32 (length body) ++ (body ++ rest)
    = same ∙ ap (λ (xs : List ℕ). xs ++ rest) is.spelled ∙ append_assoc (to_be_bytes w32 (length body)) body rest in
    let front : to_be_bytes w32 t.field ++ [] ≡ to_be_bytes w32 (length body) ++ []
    = append-nil (to_be_bytes w32 t.field) ∙ t.front ∙ sym (take-append-le 4 bytes more long) ∙ ap (λ (xs : List ℕ). take 4 xs) whole
    ∙ sym (append-nil (to_be_bytes w32 (length body))) in
    let one = same_number t.field (length body) [] [] t.number limit front in
    let size = t.whole in
    omega (arith, one, size, few, ap length whole, length-append bytes more, length-append (to_be_bytes w32 (length body)) (body ++ rest), length-append body rest)

-- ---- how many bytes are missing

-- Bytes that wait are fewer than there is room for, with those that are missing.
pub missing_few : (unread : List ℕ) (field : ℕ) → Waits unread → 4 ≤ length unread → field < 2 ^ 32 → to_be_bytes w32 field ≡ take 4 unread
    → IsMissing unread (4 + field - length unread)
missing_few unread field w long number front =
    let less : length unread < 4 + field = elim (cases_lt (length unread) (4 + field)) [
      | inl l ↦ l
      | inr whole ↦
          let b = begins_frame unread field front number whole in
          absurd (w.no_frame (take (4 + field) unread) (drop (4 + field) unread) b.frame (sym (take-append-drop (4 + field) unread)))
    ] in
    let fits : field ≤ 9 + full_block_length = elim w.kind [
      | inl short ↦ absurd (omega (arith, short, long))
      | inr k ↦
          let small : k.0 ≤ 9 + full_block_length = elim k.2 [
            | inl alone ↦ alone.1
            | inr more ↦ elim more.1 [ inl request ↦ omega (arith, request.1) | inr piece ↦ piece.2 ]
          ] in
          let one : k.0 ≡ field
          = same_number k.0 field [] [] (omega (arith, small)) number (append-nil (to_be_bytes w32 k.0) ∙ k.1 ∙ sym front ∙ sym (append-nil (to_be_bytes w32 field))) in
          omega (arith, small, one)
    ] in
    record {
      some = omega (arith, less);
      fits = omega (arith, less, fits);
      kind = inr (field, record { number = number; front = front; has_field = long; whole = omega (arith, less) });
    }

-- with no more than are missing after them they end with a frame, if they begin with one
pub ends_with_frame : (unread came : List ℕ) (missing : ℕ) → IsMissing unread missing → length came ≤ missing → EndsWithFrame (unread ++ came)
ends_with_frame unread came missing m few n b =
    let body : List ℕ = b.frame.body in
    let limit = b.frame.limit in
    let all : List ℕ = unread ++ came in
    let inside = b.inside in
    let size : n ≡ 4 + length body
    = omega (arith, inside, length-take n all, ap length b.frame.spelled, length-append (to_be_bytes w32 (length body)) body) in
    elim m.kind [
      | inl field ↦ omega (arith, field, few, inside, size, length-append unread came)
      | inr k ↦
          let t = k.1 in
          let long = t.has_field in
          let whole = t.whole in
          let split : all ≡ to_be_bytes w32 (length body) ++ (body ++ drop n all)
          = sym (take-append-drop n all) ∙ ap (λ (xs : List ℕ). xs ++ drop n all) b.frame.spelled
          ∙ append_assoc (to_be_bytes w32 (length body)) body (drop n all) in
          let front : to_be_bytes w32 k.0 ++ [] ≡ to_be_bytes w32 (length body) ++ []
          = append-nil (to_be_bytes w32 k.0) ∙ t.front ∙ sym (take-append-le 4 unread came long) ∙ ap (λ (xs : List ℕ). take 4 xs) split
          ∙ sym (append-nil (to_be_bytes w32 (length body))) in
          let one : k.0 ≡ length body = same_number k.0 (length body) [] [] t.number (omega (arith, limit)) front in
          omega (arith, one, whole, few, inside, size, length-append unread came)
    ]
