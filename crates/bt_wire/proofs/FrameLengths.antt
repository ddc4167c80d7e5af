-- What a length field tells of the frame that begins with it.
use Rattle.std.proofs.Common.{◌≡◌, ◌≤◌, ◌<◌, ◌+◌, ◌-◌, ◌^◌, ℕ, List, ◌++◌, take, drop, length, sym, ◌∙◌, ap, subst, arith, length-take, length-drop}
use Rattle.std.specs.Int.{w32, to_be_bytes, from_be_bytes}
use Rattle.std.proofs.lemmas.Nat.{from_be_bytes-to_be_bytes_4}
use lib.Seq.{take-add}
use Rattle.bt_wire.specs.Frames.{BeginsFrame, BeginsWithField, message_length}

pub length_of : (bytes : List ℕ) (field : ℕ) → field < 2 ^ 32 → to_be_bytes w32 field ≡ take 4 bytes → 4 + field ≡ message_length bytes
unfolding message_length
length_of bytes field number front =
    ap (λ (n : ℕ). 4 + n) (sym (from_be_bytes-to_be_bytes_4 field number) ∙ ap (λ (xs : List ℕ). from_be_bytes w32 xs) front)

pub field_of : (bytes : List ℕ) (field : ℕ) → field < 2 ^ 32 → to_be_bytes w32 field ≡ take 4 bytes → BeginsWithField bytes (4 + field - 4)
field_of bytes field number front =
    let same : field ≡ 4 + field - 4 = omega arith in
    subst (λ (n : ℕ). BeginsWithField bytes n) same (record { number = number; front = front })

pub four_up : (bytes : List ℕ) → 4 ≤ message_length bytes
unfolding message_length
four_up bytes = omega arith

-- bytes that begin with a length field and have as many after it begin with a frame
pub begins_frame : (bytes : List ℕ) (n : ℕ) → to_be_bytes w32 n ≡ take 4 bytes → n < 2 ^ 32 → 4 + n ≤ length bytes
    → BeginsFrame bytes (4 + n)
begins_frame bytes n field few inside =
    let size : length (take n (drop 4 bytes)) ≡ n = omega (arith, length-take n (drop 4 bytes), length-drop 4 bytes) in
    record {
      inside = inside;
      frame = record {
        body = take n (drop 4 bytes);
        limit = omega (arith, size, few);
        spelled = take-add 4 n bytes ∙ ap (λ (xs : List ℕ). xs ++ take n (drop 4 bytes)) (sym field)
            ∙ ap (λ (m : ℕ). to_be_bytes w32 m ++ take n (drop 4 bytes)) (sym size);
      };
    }

-- the first message is such a frame
pub begins_message : (bytes : List ℕ) (len : ℕ) → len ≡ message_length bytes → BeginsWithField bytes (len - 4) → len ≤ length bytes
    → BeginsFrame bytes len
begins_message bytes len tells field inside =
    let whole : 4 + (len - 4) ≡ len = omega (arith, four_up bytes, tells) in
    subst (λ (n : ℕ). BeginsFrame bytes n) whole (begins_frame bytes (len - 4) field.front field.number (omega (arith, whole, inside)))
