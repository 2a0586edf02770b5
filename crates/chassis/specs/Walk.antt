-- 01, "The walk", and 02, Item 8: where a packet goes. `next` is the rules, one step at a time; `Walk` is what they give when repeated.
mod Words
use Words.*

abbrev pub target_of : Packet → Target
target_of (Plain t) = t
target_of (Config rid) = Id rid

-- "Function number being the low 3 bits, or 8 with ARI"
unfoldable pub function_number : Chassis → ℕ → Target → ℕ
function_number c q (Id rid) = cond (c.ari q) (rid.0 % 2 ^ 8) (rid.0 % 2 ^ 3)
function_number c q (Addr a) = 0

-- "A port about to be crossed decides": Type 0, Type 1 passes, or "Unsupported Request at this port, not crossed"
unfoldable pub decided : PortNo → Conversion → Step
decided p AsType0 = Cross p (Type0 p)
decided p AsType1 = Cross p (Type1 p)
decided p Refuses = Stop (Unsupported p)
decided p NotClaimed = Stop (Unsupported p)

abbrev pub decides : Chassis → Target → PortNo → Step
decides c t p = decided p (c.conversion p.0 t)

-- crossing downward: a configuration request is decided on first
unfoldable pub downward : Chassis → Packet → PortNo → Step
downward c (Plain t) p = Cross p (Into p)
downward c (Config rid) p = decides c (Id rid) p

-- "1. two or more holders: doubled, the two lowest", and what a sole one or none leads to
unfoldable pub by_holders : Holders → (PortNo → Step) → Step → Step
by_holders Nobody sole none = none
by_holders (Only p) sole none = sole p
by_holders (Both p q) sole none = Stop (Doubled p q)

-- "2. one holder: if the ID is its own, that Function is the end; else cross it downward"
unfoldable pub sole_holder : Chassis → Packet → PortNo → Step
sole_holder c packet p = cond (is_own c (target_of packet) p.0) (Stop (Function p)) (downward c packet p)

-- rules 1 and 2 at a place, and what "none" leads to there
abbrev pub at_place : Chassis → Packet → ℕ → Step → Step
at_place c packet place none = by_holders (lowest_at c place (holds c (target_of packet))) (sole_holder c packet) none

-- "4. none, come from above: a device port's device is the end; otherwise Unsupported Request at the place's port"
unfoldable pub device_or : Chassis → PortNo → ℕ → Step
device_or c q function = cond (is_device_port c.tree q.0) (Stop (Device q function)) (Stop (Unsupported q))

-- where a packet is that started at a place, or crossed a port upward to it, redirected or not
unfoldable pub come_to : Bool → ℕ → Whereabouts
come_to redirected place = cond (eqb place root) Root (cond redirected (Redirected (port_no place)) (From (port_no place)))

-- 02, Item 8: "If bit 2 (P2P Request Redirect) is set at the starting device port, and that port does not claim the address, an
-- address-routed packet first crosses every port up to the root .. IDs are not affected."
unfoldable pub is_redirected : Chassis → Packet → ℕ → Bool
is_redirected c (Plain (Addr a)) start = c.redirect start && not (c.claims start (Addr a))
is_redirected c (Plain (Id rid)) start = false
is_redirected c (Config rid) start = false

-- "A packet starts at the root (start 255) or below a device port."
abbrev pub starts_at : Chassis → Packet → ℕ → Whereabouts
starts_at c packet start = come_to (is_redirected c packet start) start

-- ".. first crosses every port up to the root and then goes as from the host": nothing is looked at on the way
unfoldable pub towards_root : Chassis → PortNo → Step
towards_root c q = Cross q (come_to true (c.tree.parent q.0))

-- "5. none, started or come from below: if the place's port claims the target, Unsupported Request at it, else cross it upward"
unfoldable pub upward : Chassis → Target → PortNo → Step
upward c t q = cond (c.claims q.0 t) (Stop (Unsupported q)) (Cross q (come_to false (c.tree.parent q.0)))

-- started or come from below; "A configuration request from a device port is an Unsupported Request there with no crossing."
unfoldable pub from_below : Chassis → Packet → PortNo → Step
from_below c (Plain t) q = at_place c (Plain t) q.0 (upward c t q)
from_below c (Config rid) q = Stop (Unsupported q)

-- "Type 0 ends at the one port there whose own ID is the target (more: doubled, as in 1); at a device port, at the device, ..;
-- otherwise Unsupported Request at the port just crossed."
unfoldable pub under_type0 : Chassis → Target → PortNo → Step
under_type0 c t q =
    by_holders (lowest_at c q.0 (is_own c t)) (λ p. Stop (Function p)) (device_or c q (function_number c q.0 t))

-- "Type 1 looks at claims only: two or more, doubled as in 1; one, decide again; none, or a device port, Unsupported Request at
-- the port just crossed."
unfoldable pub under_type1 : Chassis → Target → PortNo → Step
under_type1 c t q = by_holders (lowest_at c q.0 (λ p. c.claims p t)) (decides c t) (Stop (Unsupported q))

-- the rules: "3. none, at the root: the host is the end"
unfoldable pub next : Chassis → Packet → Whereabouts → Step
next c packet Root = at_place c packet root (Stop Host)
next c packet (Into q) = at_place c packet q.0 (device_or c q 0)
next c packet (From q) = from_below c packet q
next c packet (Redirected q) = towards_root c q
next c packet (Type0 q) = under_type0 c (target_of packet) q
next c packet (Type1 q) = under_type1 c (target_of packet) q

-- the rules repeated: the ports crossed, in order, and the end
pub data Walk (c : Chassis) (packet : Packet) : Whereabouts → List PortNo → End → Type 0 where
  ends : {w : Whereabouts} {e : End} → next c packet w ≡ Stop e → Walk c packet w [] e
  goes : {w v : Whereabouts} {p : PortNo} {path : List PortNo} {e : End} → next c packet w ≡ Cross p v → Walk c packet v path e → Walk c packet w (p ∷ path) e
