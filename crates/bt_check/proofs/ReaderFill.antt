-- Lemmas on buffers that are filled from a reader by several reads.
use Rattle.std.proofs.Common.{◌≡◌, ℕ, ◌+◌, ◌≤◌, List, ◌++◌, Option, arith, length, take, drop, sym, ap, ◌∙◌, subst, le_refl, drop_at, length-take-le, length-append}
use Rattle.std.proofs.lemmas.Slice.{take-put_mid_below}
use Rattle.std.specs.Io.KnownBytes.{Consumes, Keeps}
use Rattle.std.proofs.KnownBytes.{Consumes-trans, Consumes-kept}
use borrow.Rule.Slice.PartMut.{put_mid, post_of}
use lib.Seq.{take-add, take-append-le}

-- the first bytes of a buffer came from a reader
pub record IsFilled (old new : Option (List ℕ)) (filled : ℕ) (buffer : List ℕ) : Type 0 where
  pub within : filled ≤ length buffer
  pub taken : Consumes old new (take filled buffer)

-- one more read, after what the buffer holds
take_more : (filled count room : ℕ) (buffer part : List ℕ) → filled ≤ length buffer → count ≤ length part
    → take (filled + count) (put_mid filled room buffer part) ≡ take filled buffer ++ take count part
take_more filled count room buffer part within fits =
    let after = post_of filled room buffer in
    take-add filled count (put_mid filled room buffer part)
    ∙ ap (λ l. l ++ take count (drop filled (put_mid filled room buffer part))) (take-put_mid_below filled room buffer part filled (le_refl filled) within)
    ∙ ap (λ l. take filled buffer ++ take count l) (drop_at (take filled buffer) (part ++ after) filled (length-take-le filled buffer within))
    ∙ ap (λ l. take filled buffer ++ l) (take-append-le count part after fits)

length_more : (filled room : ℕ) (buffer part : List ℕ) → filled ≤ length buffer → filled + length part ≤ length (put_mid filled room buffer part)
length_more filled room buffer part within =
    let after = post_of filled room buffer in
    let outer = length-append (take filled buffer) (part ++ after) in
    let inner = length-append part after in
    let front = length-take-le filled buffer within in
    omega (arith, outer, inner, front)

pub filled_more : (old mid new : Option (List ℕ)) (filled count room : ℕ) (buffer part : List ℕ) → IsFilled old mid filled buffer
    → count ≤ length part → Consumes mid new (take count part) → IsFilled old new (filled + count) (put_mid filled room buffer part)
filled_more old mid new filled count room buffer part f fits came =
    let room_left = length_more filled room buffer part f.within in
    record {
      within = omega (arith, room_left, fits);
      taken = subst (Consumes old new) (sym (take_more filled count room buffer part f.within fits)) (Consumes-trans old mid new _ _ f.taken came);
    }

-- a read that was interrupted
pub filled_kept : (old mid new : Option (List ℕ)) (filled room : ℕ) (buffer part : List ℕ) → IsFilled old mid filled buffer
    → Keeps mid new → IsFilled old new filled (put_mid filled room buffer part)
filled_kept old mid new filled room buffer part f kept =
    let room_left = length_more filled room buffer part f.within in
    record {
      within = omega (arith, room_left);
      taken = subst (Consumes old new) (sym (take-put_mid_below filled room buffer part filled (le_refl filled) f.within)) (Consumes-kept old mid new _ f.taken kept);
    }
