-- What decoders claim together, said of the decoders one by one: beside the video range, and with it. Assumes nothing.
use Prim.Native.Nat.{ℕ}
use mathlib.Core.Bool.{Bool, true, false, cond, ◌&&◌, ◌||◌, or-false}
use mathlib.Core.List.{List}
use mathlib.Core.Path.{◌≡◌, refl, ◌∙◌}
use Rattle.chassis.specs.declared.Decoders.{Decoders}
use Rattle.chassis.specs.Chassis.{at_least_one}
use Rattle.registers.specs.declared.Port.{Port}
use Rattle.registers.specs.declared.Mechanism.{Mechanism}
use Rattle.registers.specs.declared.Mechanism.TheVariants.{Rid, Low, High}
use Rattle.claims.specs.Decoders.{bus_claims, vector_claims, memory_claims, prefetchable_claims, low_claims, high_claims, video_claims, memory_space_enabled, no_decoders, id_decoders, address_decoders}
use Rattle.claims.specs.Beside.{beside_video}

pub with_video : (d : Decoders) → at_least_one d ≡ (beside_video d || d.vga)
unfolding at_least_one beside_video
with_video d = refl

of_two : (x y : Bool)
    → beside_video (record { bus = x; rid = y; mem = false; pref = false; low = false; high = false; vga = false }) ≡ (x || y)
unfolding beside_video
of_two true y = refl
of_two false true = refl
of_two false false = refl

of_four : (on a b x y z : Bool)
    → beside_video (cond on (record { bus = false; rid = false; mem = a; pref = b; low = x; high = y; vga = z }) no_decoders)
    ≡ (on && (a || b || x || y))
unfolding beside_video
of_four true a b x y z = refl
of_four false a b x y z = refl

module _ (p : Port) (vector : Mechanism → List ℕ) where
  pub beside_id : (rid : ℕ)
      → beside_video (id_decoders p vector rid) ≡ (bus_claims p.bridge rid || vector_claims p.fpb Rid (vector Rid) rid)
  unfolding id_decoders
  beside_id rid = of_two (bus_claims p.bridge rid) (vector_claims p.fpb Rid (vector Rid) rid)

  pub beside_address : (a : ℕ)
      → beside_video (address_decoders p vector a)
      ≡ (memory_space_enabled p.bridge
      && (memory_claims p.bridge a
      || prefetchable_claims p.bridge a
      || low_claims p.fpb (vector Low) a
      || high_claims p.fpb (vector High) a))
  unfolding address_decoders
  beside_address a =
      of_four (memory_space_enabled p.bridge) (memory_claims p.bridge a) (prefetchable_claims p.bridge a)
      (low_claims p.fpb (vector Low) a) (high_claims p.fpb (vector High) a) (video_claims p.bridge a)

  -- no ID is of the video range
  pub vga_of_id : (rid : ℕ) → (id_decoders p vector rid).vga ≡ false
  unfolding id_decoders
  vga_of_id rid = refl

  pub claims_id : (rid : ℕ)
      → at_least_one (id_decoders p vector rid) ≡ (bus_claims p.bridge rid || vector_claims p.fpb Rid (vector Rid) rid)
  unfolding id_decoders
  claims_id rid = with_video (id_decoders p vector rid) ∙ or-false _ ∙ beside_id rid

  pub vga_of_address : (a : ℕ) → (address_decoders p vector a).vga ≡ (memory_space_enabled p.bridge && video_claims p.bridge a)
  unfolding address_decoders
  vga_of_address a = go (memory_space_enabled p.bridge)
    where
      go : (on : Bool)
          → (cond on
          (record {
            bus = false;
            rid = false;
            mem = memory_claims p.bridge a;
            pref = prefetchable_claims p.bridge a;
            low = low_claims p.fpb (vector Low) a;
            high = high_claims p.fpb (vector High) a;
            vga = video_claims p.bridge a;
          })
          no_decoders).vga
          ≡ (on && video_claims p.bridge a)
      go true = refl
      go false = refl
