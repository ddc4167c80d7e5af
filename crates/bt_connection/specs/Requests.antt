-- Requests, one after the other (BEP 3), that are held back until their connection is read or something else
-- is written to it.
use Rattle.std.specs.Prelude.{◌≡◌, ℕ, ◌<◌, Option, List, [], ◌++◌, length, take}
use Rattle.std.specs.Io.KnownBytes.{Appends, Consumes, IsAtEnd}
use Rattle.bt_wire.specs.Frames.{IsRequest}

pub data AreRequests : List ℕ → Type 0 where
  no_request : AreRequests []
  one_more : (before request : List ℕ) → AreRequests before → IsRequest request
      → AreRequests (before ++ request)

-- requests were written, whole ones, and nothing else
pub record SendsRequests (old new : Option (List ℕ)) : Type 0 where
  pub held : List ℕ
  pub requests : AreRequests held
  pub sent : Appends old new held

-- What a write comes to: all bytes are requests, which are held back; or the inner writer gets what was held,
-- and then the first `count` of the bytes.
pub data IsHeldOrWritten {W : Type 0} (contents : W → Option (List ℕ)) (old : W) (bytes : List ℕ) (count : ℕ)
    (new : W) : Type 0 where
  held : AreRequests bytes → count ≡ length bytes → new ≡ old
      → IsHeldOrWritten contents old bytes count new
  written : (mid : W) → SendsRequests (contents old) (contents mid)
      → Appends (contents mid) (contents new) (take count bytes)
      → IsHeldOrWritten contents old bytes count new

-- what a read comes to: what was held is written, and then the connection gives `count` bytes
pub record IsReadBehind {S : Type 0} (contents remaining : S → Option (List ℕ)) (old : S) (count : ℕ)
    (buffer : List ℕ) (new : S) : Type 0 where
  pub mid : S
  pub sends : SendsRequests (contents old) (contents mid)
  pub lost : Consumes (remaining mid) (remaining new) (take count buffer)
  pub ended : count ≡ 0 → 0 < length buffer → IsAtEnd (remaining new)
