-- The addresses at which a host is dialled.
use Rattle.std.specs.Prelude.{◌≡◌, ◌≢◌, ◌⊎◌, ℕ, List, ◌++◌, codes}
use Rattle.std.specs.declared.net.ip_addr.IpAddr.{IpAddr}
use Rattle.std.specs.declared.net.ip_addr.IpAddr.TheVariants as Ip
use Rattle.std.specs.declared.net.ipv6_addr.Ipv6Addr.{Ipv6Addr}
use Rattle.std.specs.declared.net.socket_addr.SocketAddr.{SocketAddr}
use Rattle.std.specs.Net.Grammar.{IsIpv4Text, IsIpv6Text}
use Rattle.std.specs.Net.ToAddrs.{IsHostAndPort}

-- as an IPv6 address stands before a port (RFC 3986, 3.2.2)
abbrev pub bracketed : List ℕ → List ℕ
bracketed text = codes "[" ++ text ++ codes "]"

-- The host writes this IP address by this text; one of IPv6 may stand in brackets.
abbrev pub Writes : (host text : List ℕ) → IpAddr → Type 0
Writes host text (Ip.V4 a) = IsIpv4Text text a × (host ≡ text)
Writes host text (Ip.V6 a) = IsIpv6Text text a × ((host ≡ text) ⊎ (host ≡ bracketed text))

-- Where the host writes an IP address, it is that address, at the port. At which addresses a name is reached
-- is the system's to say.
abbrev pub IsAddressOf : List ℕ → ℕ → SocketAddr → Type 0
IsAddressOf host port address = (text : List ℕ) (ip : IpAddr) → Writes host text ip
    → IsHostAndPort text port address

-- the text of a host is what stands in its brackets, where that is an IPv6 address, or else all of it
abbrev pub IsTextOf : (host text : List ℕ) → Type 0
IsTextOf host text =
    ((a : Ipv6Addr) × IsIpv6Text text a × (host ≡ bracketed text))
    ⊎ (((inner : List ℕ) (a : Ipv6Addr) → IsIpv6Text inner a → host ≢ bracketed inner) × (text ≡ host))
