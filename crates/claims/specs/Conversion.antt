-- 01, "The walk": how a port converts a configuration request that it is about to be crossed by.
mod Words
use Words.*

-- "Control 2 bits 15:3 hold the Secondary Start, in units; Capabilities bits 7:3 hold Num Sec Dev, and n there means n + 1 device
-- numbers."
abbrev pub secondary_start : Fpb → ℕ
secondary_start f = field f.rid_control_2 3 13

abbrev pub num_sec_dev : Fpb → ℕ
num_sec_dev f = field f.capabilities 3 5

-- "The range is, for an upstream port, units Secondary Start to Secondary Start + Num Sec Dev; for others with ARI, the bus of
-- Secondary Start; without ARI, that one unit."
unfoldable pub in_secondary_range : Port → ℕ → Bool
in_secondary_range p rid =
    cond (eqb p.kind upstream)
    (between (secondary_start p.fpb) (secondary_start p.fpb + num_sec_dev p.fpb) (unit_of rid))
    (cond (with_ari p) (eqb (bus_of rid) (secondary_start p.fpb / 2 ^ 5)) (eqb (unit_of rid) (secondary_start p.fpb)))

-- "the bus pair claims the target and its bus equals Secondary: Type 0 for an upstream port, with ARI, or for device 0; otherwise
-- Unsupported Request at this port"; "else Type 1 passes"
unfoldable pub converted_by_bus : Port → ℕ → Conversion
converted_by_bus p rid =
    cond (bus_claims p.bridge rid && eqb (bus_of rid) p.bridge.secondary)
    (cond (eqb p.kind upstream || with_ari p || eqb (device_of rid) 0) Type0 Unsupported)
    Type1

-- "RID decoding enabled and target in its Secondary range: Type 0"; "conversion asked of one that does not claim the target: "not
-- claimed""
unfoldable pub converted : Port → (Mechanism → List ℕ) → ℕ → Conversion
converted p vector rid =
    cond (claims_target p vector (Id (record { 0 = rid })))
    (cond (enabled_in p.fpb Rid && in_secondary_range p rid) Type0 (converted_by_bus p rid))
    NotClaimed

-- an address is no configuration request's target
abbrev pub converted_target : Port → (Mechanism → List ℕ) → Target → Conversion
converted_target p vector (Id rid) = converted p vector rid.0
converted_target p vector (Addr a) = NotClaimed
