-- 01, "Numbers given back": numbers 11 to 15, by the rows of the table, and 18 of 02, Item 7. "Least target" is over all 65,536 IDs or
-- all 2^64 addresses.
mod Words
use Words.*

-- 11, 12: "held by two ports at one place, or an ID claimed by the port whose own it is"; "a port with itself tried too"
unfoldable pub clash : Chassis → Target → ℕ → ℕ → Bool
clash c t p q =
    cond (eqb p q) (is_own c t p && c.claims p t)
    (stands_at c.tree (c.tree.parent q) p && (holds c t p && holds c t q))

unfoldable pub clashes_with : Chassis → Target → ℕ → Bool
clashes_with c t p = any_below (clash c t p) c.tree.count

-- 13, 14: "held by a port that is no root port, not claimed by its parent"
unfoldable pub strays_at : Chassis → Target → ℕ → Bool
strays_at c t p = not (eqb (c.tree.kind p) root_port) && holds c t p && not (c.claims (c.tree.parent p) t)

-- 15: "the own ID of a port of kind 1 or 2 is not both claimed by its parent and Type 0 there"
abbrev pub is_type0 : Conversion → Bool
is_type0 NotClaimed = false
is_type0 Type0 = true
is_type0 Type1 = false
is_type0 Unsupported = false

unfoldable pub own_id_lost : Chassis → ℕ → Bool
own_id_lost c p =
    not (eqb (c.tree.kind p) root_port)
    && not (c.claims (c.tree.parent p) (Id (record { 0 = c.own_id p }))
    && is_type0 (c.conversion (c.tree.parent p) (Id (record { 0 = c.own_id p }))))

-- 18, 02, Item 7: "some port claims an ID for which its parent would answer Type 0 or Unsupported Request and not pass Type 1"; a root
-- port has no parent, and an address is no configuration request's target
abbrev pub takes : Conversion → Bool
takes NotClaimed = false
takes Type0 = true
takes Type1 = false
takes Unsupported = true

abbrev pub takes_at : Chassis → Target → ℕ → Bool
takes_at c (Id rid) q = takes (c.conversion q (Id rid))
takes_at c (Addr a) q = false

unfoldable pub taken_at : Chassis → Target → ℕ → Bool
taken_at c t p = not (eqb (c.tree.kind p) root_port) && c.claims p t && takes_at c t (c.tree.parent p)

-- whether a port is at fault at a target, and whether some port is
abbrev pub at_fault : Fault → Chassis → Target → ℕ → Bool
at_fault OfShared c t = clashes_with c t
at_fault OfStray c t = strays_at c t
at_fault OfTaken c t = taken_at c t

unfoldable pub faulty : Fault → Chassis → Target → Bool
faulty fault c t = any_below (at_fault fault c t) c.tree.count

-- the least target of a space with a property
unfoldable pub test_in : (Target → Bool) → Space → ℕ → Bool
test_in test space n = test (target_in space n)

abbrev pub least_target : (Target → Bool) → Space → Option ℕ
least_target test space = first_in (test_in test space) 0 (space_size space)

-- the lowest port that passes; 255 where none does
abbrev pub found : Option ℕ → PortNo
found (Some p) = port_no p
found None = no_port

abbrev pub lowest_port : Chassis → (ℕ → Bool) → PortNo
lowest_port c test = found (first_in test 0 c.tree.count)

-- "The least target comes first, and among ports at it the pair search stops at the first pair found, by first port and then second, a
-- port with itself tried too"; of one port, the lowest
abbrev pub first_of_pair : Chassis → Target → PortNo
first_of_pair c t = lowest_port c (clashes_with c t)

-- 02, Item 3: "Numbers 11 to 14 report the decoders for each port named"; Item 7: "name the least ID and lowest port as 13 does"
abbrev pub verdict_at : Chassis → Fault → Target → Verdict
verdict_at c OfShared t = Shared t (hold_of c t (first_of_pair c t).0) (hold_of c t (lowest_port c (clash c t (first_of_pair c t).0)).0)
verdict_at c OfStray t = Stray t (hold_of c t (lowest_port c (strays_at c t)).0)
verdict_at c OfTaken t = Taken t (hold_of c t (lowest_port c (taken_at c t)).0)

-- what a row of the table finds, `Clear` where it finds nothing
abbrev pub at_least : Chassis → Fault → Space → Option ℕ → Verdict
at_least c fault space (Some n) = verdict_at c fault (target_in space n)
at_least c fault space None = Clear

abbrev pub lost_at : Option ℕ → Verdict
lost_at (Some p) = Lost (port_no p)
lost_at None = Clear

unfoldable pub row_of : Chassis → Row → Verdict
row_of c (RowAt fault space) = at_least c fault space (least_target (faulty fault c) space)
row_of c RowLost = lost_at (first_in (own_id_lost c) 0 c.tree.count)

-- "Lowest number wins"; 18 is "after 15"
unfoldable pub or_next : Verdict → Verdict → Verdict
or_next Clear next = next
or_next (Shared t p q) next = Shared t p q
or_next (Stray t p) next = Stray t p
or_next (Lost p) next = Lost p
or_next (Taken t p) next = Taken t p

abbrev pub first_of : Chassis → List Row → Verdict
first_of c [] = Clear
first_of c (row ∷ rows) = or_next (row_of c row) (first_of c rows)

unfoldable pub verdict_of : Chassis → Verdict
verdict_of c =
    first_of c
    (RowAt OfShared Ids
    ∷ RowAt OfShared Addresses
    ∷ RowAt OfStray Ids
    ∷ RowAt OfStray Addresses
    ∷ RowLost
    ∷ RowAt OfTaken Ids
    ∷ [])
