-- Lemmas on the text of a torrent, which is read up to a limit.
use Rattle.std.proofs.Common.{◌≡◌, ℕ, ◌-◌, ◌<◌, ◌≤◌, List, [], ◌++◌, Option, None, Some, IfSome, arith, length, take, sym, ap, ◌∙◌, length-append, take_all, length-take-le, append-nil}
use Rattle.std.proofs.lemmas.Bool.{cases_lt}
use Rattle.std.proofs.Common.{inl, inr}
use Rattle.std.proofs.KnownBytes.{Consumes-trans}
use Rattle.std.specs.Io.KnownBytes.{Consumes}
use Rattle.bt_check.specs.Reader.{Gives}
use lib.Seq.{take-append-le}

-- the text so far is what the reader gave
pub record IsText (old new : Option (List ℕ)) (limit : ℕ) (text : List ℕ) : Type 0 where
  pub taken : Consumes old new text
  pub within : length text ≤ limit

pub text_more : (old mid new : Option (List ℕ)) (limit count wanted : ℕ) (text run next : List ℕ) → IsText old mid limit text
    → length run ≡ wanted → wanted ≤ limit - length text → count ≤ wanted → Gives mid new (length run) (take count run)
    → next ≡ text ++ take count run → IsText old new limit next
text_more old mid new limit count wanted text run next t size room fits gives e =
    let came : length (take count run) ≡ count = length-take-le count run (omega (arith, size, fits)) in
    let joined = length-append text (take count run) in
    let inside = t.within in
    rw e (record {
      taken = Consumes-trans old mid new text (take count run) t.taken gives.taken;
      within = omega (arith, came, joined, room, fits, inside);
    })

pub text_ended : (old mid new : Option (List ℕ)) (limit count wanted : ℕ) (text run next : List ℕ) → IsText old mid limit text
    → length run ≡ wanted → wanted ≤ limit - length text → count < wanted → Gives mid new (length run) (take count run)
    → next ≡ text ++ take count run → Gives old new limit next
text_ended old mid new limit count wanted text run next t size room short gives e =
    let came : length (take count run) ≡ count = length-take-le count run (omega (arith, size, short)) in
    let whole = text_more old mid new limit count wanted text run next t size room (omega (arith, short)) gives e in
    record { taken = whole.taken; within = whole.within; ended = λ _. gives.ended (omega (arith, came, size, short)) }

pub text_full : (old new : Option (List ℕ)) (limit : ℕ) (text : List ℕ) → IsText old new limit text → limit ≤ length text
    → Gives old new limit text
text_full old new limit text t full =
    record { taken = t.taken; within = t.within; ended = λ less. absurd (omega (arith, less, full)) }

front_of : (limit : ℕ) (text rest : List ℕ) → length text ≤ limit → (length text < limit → rest ≡ []) → text ≡ take limit (text ++ rest)
front_of limit text rest within ended = elim (cases_lt (length text) limit) [
  | inl less ↦ rw (ended less, append-nil text) (sym (take_all limit text within))
  | inr full ↦ sym (take-append-le limit text rest full ∙ take_all limit text within)
]

-- of a reader that tells its bytes, it is their beginning
pub text_told : (old new : Option (List ℕ)) (limit : ℕ) (text : List ℕ) → Gives old new limit text → IfSome old (λ bytes. text ≡ take limit bytes)
text_told None new limit text g = tt
text_told (Some xs) None limit text g = absurd g.taken
text_told (Some xs) (Some ys) limit text g = front_of limit text ys g.within g.ended ∙ ap (take limit) (sym g.taken)
