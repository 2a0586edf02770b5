-- A worked chassis, so that no demand is empty: a picture of a root port, a switch below it, and a device below each of its two
-- downstream ports. It passes the check (proofs/Worked.antt), and walks through it are computed (proofs/WorkedWalks.antt); a picture
-- that differs in one port's bus fails (proofs/Doubled.antt), and so does one of two displays (proofs/WorkedVideo.antt). Of two chains
-- that differ in one register the host finds every port of one, which passes, and loses one of the other, whose only fault is 18
-- (proofs/WorkedChain.antt). The switch in edition 2 passes too, and redirects (proofs/WorkedRedirect.antt). With patches, so that no
-- trial is empty either: proofs/WorkedTrial.antt.
use Rattle.std.specs.Prelude.{ℕ, zero, suc, ◌+◌, ◌*◌, ◌/◌, ◌%◌, List, [], ◌∷◌, ◌++◌, Ok}
use Rattle.chassis.specs.declared.End.{End}
use Rattle.chassis.specs.declared.End.TheVariants.{Device, Function, Host, Unsupported, Doubled}
use Rattle.ids.specs.Ids.{port_no}
use Rattle.paths.specs.Paths.{path_of}
use Rattle.ids.specs.declared.PortNo.{PortNo}
use Rattle.judge.specs.Walking.{WalkGives}
use Rattle.routes.specs.declared.Walked.{Walked}
use Rattle.picture.specs.declared.refusals.Refusal.{Refusal}
use Rattle.std.specs.Prelude.{Result}

unfoldable pub zeros : ℕ → List ℕ
zeros zero = []
zeros (suc n) = 0 ∷ zeros n

-- little-endian, 2 and 4 bytes
unfoldable pub u16 : ℕ → List ℕ
u16 n = n % 256 ∷ n / 256 ∷ []

unfoldable pub u32 : ℕ → List ℕ
u32 n = u16 (n % 65536) ++ u16 (n / 65536)

-- an edition, its records so long, and no vectors: they would start at the end
unfoldable pub header_in : ℕ → ℕ → ℕ → List ℕ
header_in edition bytes count = u16 edition ++ u16 count ++ u32 (16 + bytes * count) ++ u32 16 ++ u32 (16 + bytes * count)

abbrev pub header_for : ℕ → List ℕ
header_for count = header_in 1 56 count

-- Memory E0000000h to E00FFFFFh, which a Command of 2 enables; Prefetchable Base FFF0h above Limit 0; the rest 0, but for where the
-- vectors would start
unfoldable pub record_of : ℕ → ℕ → ℕ → ℕ → ℕ → ℕ → ℕ → List ℕ
record_of kind parent own command secondary subordinate vectors =
    (kind ∷ parent ∷ [])
    ++ u16 own
    ++ u16 command
    ++ (secondary ∷ subordinate ∷ [])
    ++ u16 0xE000
    ++ u16 0xE000
    ++ u16 0xFFF0
    ++ zeros 38
    ++ u32 vectors

-- ports 0 root, 1 upstream, 2 and 3 downstream; the latter has one bus, and no Memory Space Enable
unfoldable pub switch_with : ℕ → List ℕ
switch_with bus =
    header_for 4
    ++ record_of 0 255 0x0008 2 1 4 240
    ++ record_of 1 0 0x0100 2 2 4 240
    ++ record_of 2 1 0x0200 2 3 3 240
    ++ record_of 2 1 0x0208 0 bus bus 240

abbrev pub worked : List ℕ
worked = switch_with 4

-- both downstream ports have bus 3
abbrev pub doubled : List ℕ
doubled = switch_with 3

-- the worked chassis in edition 2: ACS Control of 4, P2P Request Redirect alone, at port 2, and `acs` at port 3
unfoldable pub redirecting : ℕ → List ℕ
redirecting acs =
    header_in 2 60 4
    ++ (record_of 0 255 0x0008 2 1 4 256 ++ zeros 4)
    ++ (record_of 1 0 0x0100 2 2 4 256 ++ zeros 4)
    ++ (record_of 2 1 0x0200 2 3 3 256 ++ u16 4 ++ zeros 2)
    ++ (record_of 2 1 0x0208 0 4 4 256 ++ u16 acs ++ zeros 2)

-- a root port with Memory Space Enable and VGA Enable (Bridge Control 8), without buses, windows and vectors
unfoldable pub display_of : ℕ → List ℕ
display_of own =
    (0 ∷ 255 ∷ [])
    ++ u16 own
    ++ u16 2
    ++ zeros 2
    ++ u16 0xFFF0
    ++ u16 0
    ++ u16 0xFFF0
    ++ zeros 12
    ++ u16 8
    ++ zeros 24
    ++ u32 128

-- two displays at one place
unfoldable pub displays : List ℕ
displays = header_for 2 ++ display_of 0x0008 ++ display_of 0x0010

-- a port without Memory Space Enable: kind, parent, own ID, bus pair, FPB Capabilities to RID Vector Control 2, where its vectors start
unfoldable pub bridge_of : ℕ → ℕ → ℕ → ℕ → ℕ → List ℕ → ℕ → List ℕ
bridge_of kind parent own secondary subordinate rid vectors =
    (kind ∷ parent ∷ [])
    ++ u16 own
    ++ u16 0
    ++ (secondary ∷ subordinate ∷ [])
    ++ zeros 20
    ++ rid
    ++ zeros 12
    ++ u32 vectors

-- a root port, an upstream and a downstream port in a chain. The root port has RID decoding enabled, with 256 entries, all clear, so that
-- its Secondary range counts: the one unit `start`
unfoldable pub chain_from : ℕ → List ℕ
chain_from start =
    (u16 1 ++ u16 3 ++ u32 216 ++ u32 16 ++ u32 184)
    ++ bridge_of 0 255 0x0008 1 3 (u32 1 ++ u32 1 ++ u32 (start * 8)) 184
    ++ bridge_of 1 0 0x0100 2 3 (zeros 12) 216
    ++ bridge_of 2 1 0x0200 3 3 (zeros 12) 216
    ++ zeros 32

-- the unit of the upstream port's own ID, 0100h; and that of the downstream port's, 0200h, which the root port must pass on
abbrev pub found_chain : List ℕ
found_chain = chain_from 0x20

abbrev pub taken_chain : List ℕ
taken_chain = chain_from 0x40

-- the patch of no ports
abbrev pub nothing : List ℕ
nothing = u32 0 ++ u32 8

-- one root port, of ID 0008h, without buses and windows; RID decoding is supported, with 256 entries, and enabled, with 8 IDs an entry
-- from 0 on; each entry is clear
unfoldable pub one_port : List ℕ
one_port =
    (u16 1 ++ u16 1 ++ u32 104 ++ u32 16 ++ u32 72)
    ++ ((0 ∷ 255 ∷ []) ++ u16 0x0008 ++ zeros 4 ++ u16 0xFFF0 ++ u16 0 ++ u16 0xFFF0 ++ zeros 14)
    ++ (u32 1 ++ u32 1 ++ zeros 16 ++ u32 72)
    ++ zeros 32

-- the patch of that port that sets entry 1, IDs 0008h to 000Fh
unfoldable pub own_entry : List ℕ
own_entry = u32 1 ++ u32 48 ++ u32 0 ++ u32 16 ++ (2 ∷ zeros 31)

-- the walk's answer by its end and the ports crossed, in order
abbrev pub port_nos : List ℕ → List PortNo
port_nos [] = []
port_nos (p ∷ ps) = port_no p ∷ port_nos ps

abbrev pub came_to : End → List ℕ → Result Walked Refusal
came_to end crossed = Ok (record { path = path_of (port_nos crossed); end = end })

-- Walks through it, as the call answers them: packet kind (0 ID, 1 address, 2 configuration request), start, target.
pub record WorkedWalks : Type 0 where
  -- down to the device below port 2, and across the switch to it
  pub down : WalkGives worked 0 255 0x0300 (came_to (Device (port_no 2) 0) (0 ∷ 1 ∷ 2 ∷ []))
  pub across : WalkGives worked 0 3 0x0300 (came_to (Device (port_no 2) 0) (3 ∷ 2 ∷ []))
  -- a port's own ID
  pub own_id : WalkGives worked 0 255 0x0200 (came_to (Function (port_no 2)) (0 ∷ 1 ∷ []))
  -- an address: port 2 refuses what it claims to its own device, and passes it to it from elsewhere
  pub own_device : WalkGives worked 1 2 0xE0000000 (came_to (Unsupported (port_no 2)) [])
  pub other_device : WalkGives worked 1 3 0xE0000000 (came_to (Device (port_no 2) 0) (3 ∷ 2 ∷ []))
  -- up to the host
  pub up : WalkGives worked 1 2 0 (came_to Host (2 ∷ 1 ∷ 0 ∷ []))
  -- configuration requests for Function 0 of the device below port 2, and for a device number that it cannot have
  pub configures : WalkGives worked 2 255 0x0300 (came_to (Device (port_no 2) 0) (0 ∷ 1 ∷ 2 ∷ []))
  pub refuses : WalkGives worked 2 255 0x0308 (came_to (Unsupported (port_no 2)) (0 ∷ 1 ∷ []))
  -- and where both downstream ports have bus 3, the first of these ends below port 1
  pub doubles : WalkGives doubled 0 255 0x0300 (came_to (Doubled (port_no 2) (port_no 3)) (0 ∷ 1 ∷ []))

-- The host's configuration requests for the own IDs of the two lower ports of a chain.
pub record ChainWalks : Type 0 where
  pub upstream_found : WalkGives found_chain 2 255 0x0100 (came_to (Function (port_no 1)) (0 ∷ []))
  pub downstream_found : WalkGives found_chain 2 255 0x0200 (came_to (Function (port_no 2)) (0 ∷ 1 ∷ []))
  pub upstream_still : WalkGives taken_chain 2 255 0x0100 (came_to (Function (port_no 1)) (0 ∷ []))
  -- the root port takes this one as its own, as Type 0, and below it no port has that ID
  pub downstream_lost : WalkGives taken_chain 2 255 0x0200 (came_to (Unsupported (port_no 0)) (0 ∷ []))

-- Walks through the chassis in edition 2.
pub record RedirectWalks : Type 0 where
  -- an address that port 3 does not claim goes up to the root and comes down again, to the device below port 2, or ends at the host
  pub down_again : WalkGives (redirecting 4) 1 3 0xE0000000 (came_to (Device (port_no 2) 0) (3 ∷ 1 ∷ 0 ∷ 0 ∷ 1 ∷ 2 ∷ []))
  pub to_host : WalkGives (redirecting 4) 1 3 0 (came_to Host (3 ∷ 1 ∷ 0 ∷ []))
  -- with every other bit of ACS Control it goes across the switch
  pub other_bits : WalkGives (redirecting 0xFFFB) 1 3 0xE0000000 (came_to (Device (port_no 2) 0) (3 ∷ 2 ∷ []))
  -- port 2 refuses what it claims to its own device
  pub own_device : WalkGives (redirecting 4) 1 2 0xE0000000 (came_to (Unsupported (port_no 2)) [])
  -- an ID and a configuration request are not redirected, nor is what comes from the host
  pub id_across : WalkGives (redirecting 4) 0 3 0x0300 (came_to (Device (port_no 2) 0) (3 ∷ 2 ∷ []))
  pub config_refused : WalkGives (redirecting 4) 2 3 0x0300 (came_to (Unsupported (port_no 3)) [])
  pub from_host : WalkGives (redirecting 4) 1 255 0xE0000000 (came_to (Device (port_no 2) 0) (0 ∷ 1 ∷ 2 ∷ []))
