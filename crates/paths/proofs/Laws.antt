-- A path grows by one crossing at each step, and names the ports crossed and no others. Assumes nothing.
use Prim.Native.Nat.{ℕ, suc, ◌+◌, ◌-◌, ◌<◌}
use mathlib.Core.List.{List, [], ◌∷◌, ◌++◌, append_assoc}
use mathlib.Core.Path.{◌≡◌, refl, sym, ap, ◌∙◌}
use native.Mathlib.Omega.{arith}
use lib.ListN.{length, replicate, set, length-append}
use Rattle.ids.specs.declared.PortNo.{PortNo}
use Rattle.ids.specs.Ids.{no_port}
use Rattle.paths.specs.Paths.{path_of, extended}

-- a store at the first unused place
set_next : (xs : List PortNo) (n : ℕ) (p : PortNo) → set (xs ++ replicate (suc n) no_port) (length xs) p ≡ xs ++ (p ∷ replicate n no_port)
set_next [] n p = refl
set_next (x ∷ xs) n p = ap (λ (l : List PortNo). x ∷ l) (set_next xs n p)

-- the ports crossed, then one more
pub extended_is : (xs : List PortNo) (p : PortNo) → length xs < 32 → extended (path_of xs) p ≡ path_of (xs ++ (p ∷ []))
unfolding extended path_of
extended_is xs p room =
    let left : 32 - length xs ≡ suc (31 - length xs) = omega arith in
    let long : length (xs ++ (p ∷ [])) ≡ length xs + 1 = length-append xs (p ∷ []) in
    let used : 32 - length (xs ++ (p ∷ [])) ≡ 31 - length xs = omega arith in
    λ i.
    record {
      places = (ap (λ (n : ℕ). set (xs ++ replicate n no_port) (length xs) p) left
          ∙ set_next xs (31 - length xs) p
          ∙ sym (append_assoc xs (p ∷ []) (replicate (31 - length xs) no_port))
          ∙ ap (λ (n : ℕ). (xs ++ (p ∷ [])) ++ replicate n no_port) (sym used)) i;
      count = sym long i;
    }
