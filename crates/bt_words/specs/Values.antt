-- What single words of the command line stand for.
use Rattle.std.specs.Prelude.{◌≡◌, ◌≢◌, ℕ, ◌^◌, ◌<◌, ◌≤◌, ◌++◌, List, [], ◌∷◌}
use Rattle.std.specs.Net.Grammar.{IsIpText}
use Rattle.std.specs.Str.Parse.{IsNumeral, digits_value}
use Rattle.std.specs.declared.net.ip_addr.IpAddr.{IpAddr}
use Rattle.bt_parts.specs.declared.cut.TheConstants.{MAX_PARTS}
use Rattle.bt_parts.specs.declared.cut.Part.{Part}
use Rattle.bt_words.specs.declared.peer.Peer.{Peer}

-- a decimal number of `bits` bits: digits alone, with leading zeros or not
pub record IsNumber (bits : ℕ) (text : List ℕ) (n : ℕ) : Type 0 where
  pub digits : IsNumeral 10 text
  pub value : n ≡ digits_value 10 text
  pub fits : n < 2 ^ bits

-- a number of processes: one at least, and no more than a check has parts
pub record IsJobs (text : List ℕ) (n : ℕ) : Type 0 where
  pub number : IsNumber 32 text n
  pub some : 0 < n
  pub few : n ≤ MAX_PARTS

-- a word `I/N`: the part of number I, from 0 on, of N in all. So the slash, 47, stands between the two.
pub record IsPartWord (word : List ℕ) (part : Part) : Type 0 where
  pub first : List ℕ
  pub second : List ℕ
  pub spelled : word ≡ first ++ 47 ∷ second
  pub index : IsNumber 32 first part.index
  pub count : IsNumber 32 second part.count

-- an IPv4 address (four decimal numbers) or an IPv6 address (RFC 4291, 2.2)
abbrev pub IsAddress : List ℕ → Type 0
IsAddress text = (address : IpAddr) × IsIpText text address

-- a word `A:P`: A, which is not empty, is the host, and P, in digits, the port. So the colon, 58, is the last
pub record IsPeerWord (word : List ℕ) (peer : Peer) : Type 0 where
  pub digits : List ℕ
  pub spelled : word ≡ peer.host.now ++ 58 ∷ digits
  pub named : peer.host.now ≢ []
  pub port : IsNumber 16 digits peer.port
