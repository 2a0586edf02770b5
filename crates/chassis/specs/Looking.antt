-- What it means to look through ports for those that pass a test.
use Rattle.std.specs.Prelude.{ℕ, ◌<◌, ◌≡◌, Bool, Option, Some, None}
use Rattle.ids.specs.declared.PortNo.{PortNo}
use Rattle.ids.specs.Ids.{port_no}

-- what is answered for each port below n is what the test says of its number
pub record Tells (answers : PortNo → Bool → Type 0) (n : ℕ) (test : ℕ → Bool) : Type 0 where
  pub each : (p : ℕ) (passes : Bool) → p < n → answers (port_no p) passes → passes ≡ test p

-- the number of a port, where there is one
abbrev pub number_in : Option PortNo → Option ℕ
number_in None = None
number_in (Some p) = Some p.0
