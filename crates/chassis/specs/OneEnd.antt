-- What demand 3 says of one target: from the host and from every device port it comes to the same end, in at most 32 crossings, and no
-- place on the way has two holders; except that a device port that itself claims the target refuses its own device.
mod Words
use Words.*

-- the targets that there are: all 65,536 IDs and all 2^64 addresses
abbrev pub InRange : Target → Type 0
InRange (Id rid) = rid.0 < 2 ^ 16
InRange (Addr a) = a < 2 ^ 64

-- `Came c packet w path v`: a packet that started at w has crossed the ports of the path, in order, and is now at v
pub data Came (c : Chassis) (packet : Packet) (w : Whereabouts) : List PortNo → Whereabouts → Type 0 where
  starts : Came c packet w [] w
  crosses : {v u : Whereabouts} {p : PortNo} {path : List PortNo} → Came c packet w path v → next c packet v ≡ Cross p u
      → Came c packet w (path ++ (p ∷ [])) u

-- the place where a packet is
abbrev pub place_of : Whereabouts → ℕ
place_of Root = root
place_of (Into q) = q.0
place_of (From q) = q.0
place_of (Redirected q) = q.0
place_of (Type0 q) = q.0
place_of (Type1 q) = q.0

-- no place on the way from w has two holders
abbrev pub NoTwoHolders : Chassis → Target → Whereabouts → Type 0
NoTwoHolders c t w =
    (path : List PortNo) (v : Whereabouts) → Came c (Plain t) w path v
    → (p q : PortNo) → lowest_at c (place_of v) (holds c t) ≡ Both p q → ⊥

-- the packet comes from w to the end, in at most 32 crossings, and no place on the way has two holders
pub record Comes (c : Chassis) (t : Target) (w : Whereabouts) (e : End) : Type 0 where
  pub path : List PortNo
  pub walk : Walk c (Plain t) w path e
  pub short : length path ≤ 32
  pub no_two_holders : NoTwoHolders c t w

-- the whole demand for one target
pub record OneEnd (c : Chassis) (t : Target) : Type 0 where
  pub end : End
  pub from_host : Comes c t Root end
  pub from_device : (d : PortNo) → is_device_port c.tree d.0 ≡ true → c.claims d.0 t ≡ false
      → Comes c t (starts_at c (Plain t) d.0) end
  pub own_device : (d : PortNo) → is_device_port c.tree d.0 ≡ true → c.claims d.0 t ≡ true
      → Walk c (Plain t) (starts_at c (Plain t) d.0) [] (Unsupported d) × NoTwoHolders c t (starts_at c (Plain t) d.0)
