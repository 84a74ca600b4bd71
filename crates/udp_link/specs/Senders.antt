-- Who may send what to a strict link.
use Rattle.std.specs.Prelude.{◌≡◌, ◌⊎◌, ℕ, ◌+◌, ◌%◌, ⊤, List, [], ◌∷◌, Option, Some, None}
use Rattle.std.specs.List.{Contains}
use Rattle.std.specs.declared.net.ip_addr.IpAddr.TheVariants.{V4}
use Rattle.std.specs.declared.net.ipv4_addr.Ipv4Addr.{Ipv4Addr}
use Rattle.std.specs.declared.net.socket_addr.SocketAddr.{SocketAddr}
use Rattle.std.specs.Net.Addr.{ipv4_octets}
use Rattle.std.specs.Net.Socket.{socket_ip, socket_port}
use Rattle.arrayvec.specs.ArrayVec.{ArrayVec}
use Rattle.outside.specs.declared.received.RawFrame.{RawFrame}

-- the port of the bridge to the bus, above the base
abbrev pub bridge : ℕ
bridge = 119

-- the node ID of the one that a frame is from, or 0 where it is anonymous
abbrev pub source_of : RawFrame → ℕ
source_of frame = frame.id % 128

-- a frame of this source may come from this port: an anonymous one from any, one of a node from the port of that node,
-- and from the port of the bridge one of any node but of those that run here
abbrev pub MaySend : (base : ℕ) (here : List ℕ) (port source : ℕ) → Type 0
MaySend base here port source =
    (source ≡ 0) ⊎ (port ≡ base + source) ⊎ ((port ≡ base + bridge) × (Contains here source → ⊥))

-- the address is 127.0.0.1, at some port
pub record IsHere (from : SocketAddr) : Type 0 where
  pub ip : Ipv4Addr
  pub is : socket_ip from ≡ V4 ip
  pub octets : ipv4_octets ip ≡ 127 ∷ 0 ∷ 0 ∷ 1 ∷ []

-- a link takes a frame from this address: where it is strict, it knows which nodes run here
abbrev pub Takes : Option (ArrayVec ℕ) → (base : ℕ) → SocketAddr → RawFrame → Type 0
Takes None base from frame = ⊤
Takes (Some here) base from frame = IsHere from × MaySend base here.items (socket_port from) (source_of frame)
