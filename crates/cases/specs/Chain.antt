-- A chain of three ports, as a picture: a root port, an upstream port, and a downstream port, number 2, with buses 3 to 5.
use Rattle.std.specs.Prelude.{ℕ, zero, suc, List, [], ◌∷◌, ◌++◌}

unfoldable pub zeros : ℕ → List ℕ
zeros zero = []
zeros (suc n) = 0 ∷ zeros n

-- a record whose own ID is device 0, Function 0 of a bus; the low byte of Device Control 2; no vectors
unfoldable pub record_of : ℕ → ℕ → ℕ → ℕ → ℕ → ℕ → List ℕ
record_of kind parent bus secondary subordinate control =
    (kind ∷ parent ∷ 0 ∷ bus ∷ 0 ∷ 0 ∷ secondary ∷ subordinate ∷ [])
    ++ zeros 16
    ++ (control ∷ [])
    ++ zeros 27
    ++ (184 ∷ 0 ∷ 0 ∷ 0 ∷ [])

unfoldable pub chain_with : ℕ → List ℕ
chain_with control =
    (1 ∷ 0 ∷ 3 ∷ 0 ∷ 184 ∷ 0 ∷ 0 ∷ 0 ∷ 16 ∷ 0 ∷ 0 ∷ 0 ∷ 184 ∷ 0 ∷ 0 ∷ 0 ∷ [])
    ++ record_of 0 255 0 1 5 0
    ++ record_of 1 0 1 2 5 0
    ++ record_of 2 1 2 3 5 control
