-- All that a port claims beside the video range is whole MiB, so of the first one it claims all addresses or none. Assumes nothing.
use Prim.Native.Nat.{ℕ, ◌+◌, ◌-◌, ◌*◌, ◌/◌, ◌%◌, ◌^◌, ◌≤◌, ◌<◌}
use mathlib.Core.Bool.{Bool, true, false, cond}
use mathlib.Core.List.{List}
use mathlib.Core.Path.{◌≡◌, ◌∙◌, sym}
use native.Mathlib.Decide.{dec_le}
use native.Mathlib.Nat.{div-eq_of_lt}
use native.Mathlib.Omega.{arith}
use lib.Dec.{eqb}
use lib.Pow.{pow_mono}
use borrow.Author.Tests.{le-leb, lt-leb, lt-ltb}
use Rattle.vectors.specs.Vectors.{hits}
use Rattle.vectors.proofs.Laws.{same_granule, hits_below}
use Rattle.registers.specs.declared.Bridge.{Bridge}
use Rattle.registers.specs.declared.Fpb.{Fpb}
use Rattle.registers.specs.declared.Port.{Port}
use Rattle.registers.specs.declared.Mechanism.{Mechanism}
use Rattle.registers.specs.declared.Mechanism.TheVariants.{Low, High}
use Rattle.registers.specs.Vectors.{settings_of, start_of}
use Rattle.claims.specs.Decoders.{between, base_of, limit_of, memory_claims, prefetchable_claims, vector_claims, low_claims, high_claims, address_decoders}
use Rattle.claims.specs.Beside.{beside_video}
use Rattle.claims.proofs.Laws.{same_leb}
use Rattle.claims.proofs.Joined.{beside_address}

-- a window that begins at a multiple of 1 MiB, and does not end in the first
flat_window : (lo hi t : ℕ) → (lo ≤ t → lo ≤ 0) → t ≤ hi → between lo hi t ≡ between lo hi 0
flat_window lo hi t low high = rw (same_leb lo t lo 0 low (λ l. omega arith), le-leb t hi high, le-leb 0 hi (omega arith))

-- an entry stands for at least 1 MiB
first_entry : (t start k : ℕ) → t < 2 ^ 20 → (t - start) / 2 ^ (20 + k) ≡ 0
first_entry t start k small =
    let mib : 2 ^ 20 ≤ 2 ^ (20 + k) = pow_mono {i = 20} {j = 20 + k} (omega arith) in
    div-eq_of_lt (omega arith)

module _ (t : ℕ) (small : t < 2 ^ 20) where
  flat_memory : (b : Bridge) → memory_claims b t ≡ memory_claims b 0
  unfolding memory_claims
  flat_memory b = flat_window _ _ t (λ l. omega arith) (omega arith)

  flat_prefetchable : (b : Bridge) → prefetchable_claims b t ≡ prefetchable_claims b 0
  unfolding prefetchable_claims
  flat_prefetchable b = go (eqb (b.prefetchable_base % 16) 1)
    where
      window : Bool → ℕ → Bool
      window wide =
          between (cond wide (b.prefetchable_base_upper * 2 ^ 32) 0 + base_of b.prefetchable_base)
          (cond wide (b.prefetchable_limit_upper * 2 ^ 32) 0 + limit_of b.prefetchable_limit)

      go : (wide : Bool) → window wide t ≡ window wide 0
      go true = flat_window _ _ t (λ l. omega arith) (omega arith)
      go false = flat_window _ _ t (λ l. omega arith) (omega arith)

  flat_hits : (f : Fpb) (v : List ℕ) → hits v (settings_of f Low) t ≡ hits v (settings_of f Low) 0
  unfolding settings_of
  flat_hits f v = go (dec_le (start_of f Low) t)
    where
      go : Dec (start_of f Low ≤ t) → hits v (settings_of f Low) t ≡ hits v (settings_of f Low) 0
      go (yes l) =
          same_granule v (settings_of f Low) t 0 l (omega arith) (first_entry t (start_of f Low) _ small ∙ sym (first_entry 0 (start_of f Low) _ (omega arith)))
      go (no l) = hits_below v (settings_of f Low) t (omega arith) ∙ sym (hits_below v (settings_of f Low) 0 (omega arith))

  flat_low : (f : Fpb) (v : List ℕ) → low_claims f v t ≡ low_claims f v 0
  unfolding low_claims vector_claims
  flat_low f v = rw (lt-ltb t (2 ^ 32) (omega arith), flat_hits f v)

  flat_high : (f : Fpb) (v : List ℕ) → high_claims f v t ≡ high_claims f v 0
  unfolding high_claims
  flat_high f v = rw (lt-leb (2 ^ 32) t (omega arith), lt-leb (2 ^ 32) 0 (omega arith))

  pub flat_beside : (p : Port) (vector : Mechanism → List ℕ)
      → beside_video (address_decoders p vector t) ≡ beside_video (address_decoders p vector 0)
  flat_beside p vector =
      rw (
        beside_address p vector t,
        beside_address p vector 0,
        flat_memory p.bridge,
        flat_prefetchable p.bridge,
        flat_low p.fpb (vector Low),
        flat_high p.fpb (vector High),
      )
