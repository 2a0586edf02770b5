-- The chassis of a picture, with the video range and without it. Assumes nothing.
use Prim.Native.Nat.{ℕ, ◌^◌, ◌≤◌, ◌<◌}
use mathlib.Core.Bool.{Bool, false, ◌&&◌, ◌||◌, and-true, and-false}
use mathlib.Core.List.{List}
use mathlib.Core.Path.{◌≡◌, ◌∙◌, sym}
use native.Mathlib.Omega.{arith}
use borrow.Author.Tests.{le-leb, lt-leb}
use Rattle.ids.specs.declared.Rid.{Rid}
use Rattle.ids.specs.declared.Target.{Target}
use Rattle.ids.specs.declared.Target.TheVariants.{Id, Addr}
use Rattle.chassis.specs.Chassis.{Chassis}
use Rattle.registers.specs.declared.Bridge.{Bridge}
use Rattle.registers.specs.declared.Mechanism.{Mechanism}
use Rattle.registers.specs.Record.{port_at}
use Rattle.claims.specs.Decoders.{memory_space_enabled, vga_enabled, video_claims, decoders_of}
use Rattle.claims.specs.Claims.{chassis_with}
use Rattle.claims.specs.Beside.{without_video}
use Rattle.claims.proofs.Joined.{with_video, vga_of_id, vga_of_address}
use Rattle.claims.proofs.FirstMib.{flat_beside}

-- what the search for the least address rests on
pub record OfVideo (c : Chassis) : Type 0 where
  -- a claim is one beside the video range or one of it
  pub joined : (p : ℕ) (t : Target) → c.claims p t ≡ ((without_video c).claims p t || (c.decoders p t).vga)
  -- no ID is of the video range, and no address out of it
  pub id : (p : ℕ) (rid : Rid) → (c.decoders p (Id rid)).vga ≡ false
  pub below : (p t : ℕ) → t < 0xA0000 → (c.decoders p (Addr t)).vga ≡ false
  pub above : (p t : ℕ) → 0xBFFFF < t → (c.decoders p (Addr t)).vga ≡ false
  -- a port claims all of it or nothing
  pub inside : (p t : ℕ) → 0xA0000 ≤ t → t ≤ 0xBFFFF → (c.decoders p (Addr t)).vga ≡ (c.decoders p (Addr 0xA0000)).vga
  -- and of the first MiB all or nothing, beside it
  pub flat : (p t : ℕ) → t < 2 ^ 20 → (without_video c).claims p (Addr t) ≡ (without_video c).claims p (Addr 0)

module _ (b : Bridge) where
  video_below : (t : ℕ) → t < 0xA0000 → video_claims b t ≡ false
  unfolding video_claims
  video_below t l = rw (lt-leb 0xA0000 t l) (and-false (vga_enabled b))

  video_above : (t : ℕ) → 0xBFFFF < t → video_claims b t ≡ false
  unfolding video_claims
  video_above t l = rw (le-leb 0xA0000 t (omega arith), lt-leb t 0xBFFFF l) (and-false (vga_enabled b))

  pub video_inside : (t : ℕ) → 0xA0000 ≤ t → t ≤ 0xBFFFF → video_claims b t ≡ vga_enabled b
  unfolding video_claims
  video_inside t l h = rw (le-leb 0xA0000 t l, le-leb t 0xBFFFF h) (and-true (vga_enabled b))

module _ (s : List ℕ) (vector : ℕ → Mechanism → List ℕ) where
  vga_where : (p t : ℕ) (b : Bool) → video_claims (port_at s p).bridge t ≡ b
      → ((chassis_with s vector).decoders p (Addr t)).vga ≡ (memory_space_enabled (port_at s p).bridge && b)
  vga_where p t b e = rw (vga_of_address (port_at s p) (vector p) t, e)

  pub of_video : OfVideo (chassis_with s vector)
  of_video =
      record {
        joined = λ p t. with_video (decoders_of (port_at s p) (vector p) t);
        id = λ p rid. vga_of_id (port_at s p) (vector p) rid.0;
        below = λ p t l. vga_where p t false (video_below (port_at s p).bridge t l) ∙ and-false (memory_space_enabled (port_at s p).bridge);
        above = λ p t l. vga_where p t false (video_above (port_at s p).bridge t l) ∙ and-false (memory_space_enabled (port_at s p).bridge);
        inside = λ p t l h.
            vga_where p t _ (video_inside (port_at s p).bridge t l h)
            ∙ sym (vga_where p 0xA0000 _ (video_inside (port_at s p).bridge 0xA0000 (omega arith) (omega arith)));
        flat = λ p t small. flat_beside t small (port_at s p) (vector p);
      }
