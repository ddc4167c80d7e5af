-- Where the host writes an IP address, the addresses that are left are that one; and so are those that were found.
use Rattle.std.specs.Prelude.{ℕ, List, All}
use Rattle.std.specs.declared.net.ip_addr.IpAddr.{IpAddr}
use Rattle.std.specs.Net.ToAddrs.{IsHostAndPort, host_addrs}
use Rattle.bt_sockets.specs.StreamSteps.{IsAddressOf, Writes}
use Rattle.bt_sockets.proofs.stream.addresses_of.Given as goal

abbrev pub invariant-loop-address : goal.invariant-loop-address
invariant-loop-address g l = ((text : List ℕ) (ip : IpAddr) → Writes l.host text ip
    → All (IsHostAndPort text l.port) (host_addrs l.address-iterator))
    × All (IsAddressOf l.host l.port) l.found.items
