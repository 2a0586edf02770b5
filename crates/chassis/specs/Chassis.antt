-- A chassis as the walk and the check see it: a tree of ports, what each claims, what each makes of a configuration request, and
-- which have P2P Request Redirect set.
-- It is made from a picture by one definition; nothing that speaks of a chassis speaks of bytes.
use Rattle.std.specs.Prelude.{ℕ, zero, suc, ◌^◌, Bool, true, false, ◌&&◌, ◌||◌, eqb}
use Rattle.ids.specs.Ids.{port_no}
use Rattle.ids.specs.declared.Target.{Target}
use Rattle.ids.specs.declared.Target.TheVariants.{Id, Addr}
use Rattle.ids.specs.declared.Space.{Space}
use Rattle.ids.specs.declared.Space.TheVariants.{Ids, Addresses}
use Rattle.chassis.specs.declared.Conversion.{Conversion}
use Rattle.chassis.specs.declared.Decoders.{Decoders}
use Rattle.chassis.specs.declared.Hold.{Hold}
use Rattle.chassis.specs.declared.Holders.{Holders}
use Rattle.chassis.specs.declared.Holders.TheVariants.{Nobody, Only, Both}
use Rattle.chassis.specs.Tree.{Tree, stands_at}

pub record Chassis : Type 0 where
  pub tree : Tree
  pub own_id : ℕ → ℕ
  pub ari : ℕ → Bool
  pub redirect : ℕ → Bool
  pub decoders : ℕ → Target → Decoders
  pub claims : ℕ → Target → Bool
  pub conversion : ℕ → Target → Conversion

-- the targets of a space by their numbers, and how many there are
abbrev pub target_in : Space → ℕ → Target
target_in Ids n = Id (record { 0 = n })
target_in Addresses n = Addr n

abbrev pub space_size : Space → ℕ
space_size Ids = 2 ^ 16
space_size Addresses = 2 ^ 64

-- 01, "What a port claims": "A port holds an ID that is its own or that it claims, and holds an address that it claims."
abbrev pub is_own : Chassis → Target → ℕ → Bool
is_own c (Id rid) p = eqb (c.own_id p) rid.0
is_own c (Addr a) p = false

unfoldable pub holds : Chassis → Target → ℕ → Bool
holds c t p = is_own c t p || c.claims p t

-- 02, Item 3: "Everything that asked yes or no now means "at least one""
unfoldable pub at_least_one : Decoders → Bool
at_least_one d = d.bus || d.rid || d.mem || d.pref || d.low || d.high || d.vga

-- "name all decoders that claim the target"; "`own` is no decoder and no claim; it only says why the port holds the ID"
abbrev pub hold_of : Chassis → Target → ℕ → Hold
hold_of c t p = record { port = port_no p; own = is_own c t p; decoders = c.decoders p t }

-- the port holds the target if either is so
unfoldable pub is_held : Hold → Bool
is_held h = h.own || at_least_one h.decoders

-- the two lowest of the ports below n that pass, where p is tried after those below it
unfoldable pub with_port : Holders → ℕ → Bool → Holders
with_port found p false = found
with_port Nobody p true = Only (port_no p)
with_port (Only q) p true = Both q (port_no p)
with_port (Both q r) p true = Both q r

unfoldable pub lowest_two : (ℕ → Bool) → ℕ → Holders
lowest_two test zero = Nobody
lowest_two test (suc n) = with_port (lowest_two test n) n (test n)

-- the ports at a place that pass a test
unfoldable pub passes_at : Chassis → ℕ → (ℕ → Bool) → ℕ → Bool
passes_at c place test p = stands_at c.tree place p && test p

abbrev pub lowest_at : Chassis → ℕ → (ℕ → Bool) → Holders
lowest_at c place test = lowest_two (passes_at c place test) c.tree.count
