-- Each port that a verdict names at a target holds it, as its own or by at least one decoder; a port that is a pair with itself does both,
-- and one that 18 names the latter alone.
-- Assumes nothing.
use Prim.Native.Nat.{ℕ}
use mathlib.Core.Bool.{Bool, true, false, not, ◌&&◌}
use mathlib.Core.Path.{◌≡◌, refl, sym, ap, ◌∙◌}
use lib.Dec.{eqb}
use Rattle.ids.specs.declared.Target.{Target}
use Rattle.chassis.specs.declared.Fault.TheVariants.{Shared as OfShared}
use Rattle.chassis.specs.declared.Hold.{Hold}
use Rattle.chassis.specs.declared.Verdict.TheVariants.{Shared, Stray, Taken}
use Rattle.chassis.specs.Chassis.{Chassis, is_own, holds, at_least_one, is_held}
use Rattle.chassis.specs.Check.{strays_at, taken_at, faulty}
use Rattle.chassis.specs.Findings.{Clash, between_two, with_itself, ItsHold, Says}
use Rattle.chassis.specs.Tree.{root_port}
use Rattle.chassis.proofs.Bools.{never_both_values, and_true_parts}
use Rattle.chassis.proofs.CheckLaws.{clash_true, shared_true}

module _ (c : Chassis) (joined : (p : ℕ) (t : Target) → c.claims p t ≡ at_least_one (c.decoders p t)) where
  -- a port's hold on a target is one exactly where the port holds it
  pub held_is : (t : Target) (h : Hold) → ItsHold c t h → is_held h ≡ holds c t h.port.0
  unfolding is_held holds
  held_is t h its = rw (ap is_held its, joined h.port.0 t)

  -- two ports that clash hold the target both
  clash_held : (t : Target) (p q : ℕ) → Clash c t p q → (holds c t p ≡ true) × (holds c t q ≡ true)
  unfolding holds
  clash_held t p q (between_two two) = (two.first_holds, two.second_holds)
  clash_held t p q (with_itself same own) = (rw own.own, rw (← same, own.own))

  pub pair_held : (t : Target) (h k : Hold) → Says c (Shared t h k) → (is_held h ≡ true) × (is_held k ≡ true)
  pair_held t h k (least, second, first-hold, second-hold) =
      let both = clash_held t h.port.0 k.port.0 ((clash_true c t h.port.0 k.port.0).0 second.passes) in
      (held_is t h first-hold ∙ both.0, held_is t k second-hold ∙ both.1)

  pub stray_held : (t : Target) (h : Hold) → Says c (Stray t h) → is_held h ≡ true
  unfolding strays_at
  stray_held t h (none, least, hold) =
      let parts = and_true_parts (not (eqb (c.tree.kind h.port.0) root_port) && holds c t h.port.0) _ least.port.passes in
      held_is t h hold ∙ (and_true_parts (not (eqb (c.tree.kind h.port.0) root_port)) (holds c t h.port.0) parts.0).1

  -- a port that 18 names claims the target, by at least one decoder
  taken_claimed : (t : Target) (p : ℕ) → taken_at c t p ≡ true → c.claims p t ≡ true
  unfolding taken_at
  taken_claimed t p e =
      let parts = and_true_parts (not (eqb (c.tree.kind p) root_port) && c.claims p t) _ e in
      (and_true_parts (not (eqb (c.tree.kind p) root_port)) (c.claims p t) parts.0).1

  pub taken_held : (t : Target) (h : Hold) → Says c (Taken t h) → at_least_one h.decoders ≡ true
  taken_held t h (unshared, unstrayed, kept, least, hold) =
      ap (λ (x : Hold). at_least_one x.decoders) hold ∙ sym (joined h.port.0 t) ∙ taken_claimed t h.port.0 least.port.passes

  -- and it is not its own: a port that claims its own ID is a pair with itself
  pub taken_not_own : (t : Target) (h : Hold) → Says c (Taken t h) → h.own ≡ false
  taken_not_own t h says = go h.own refl
    where
      claimed : c.claims h.port.0 t ≡ true
      claimed = taken_claimed t h.port.0 says.3.port.passes

      go : (own : Bool) → h.own ≡ own → h.own ≡ false
      go false e = e
      go true e =
          let own = sym (ap (λ (x : Hold). x.own) says.4) ∙ e in
          let pair = with_itself refl (record { own = own; claimed = claimed }) in
          let there = says.3.port.below in
          never_both_values (faulty OfShared c t)
          ((shared_true c t).1 (record { first = h.port.0; second = h.port.0; first_below = there; second_below = there; clashing = pair }))
          (says.0 t says.3.in_range)

  self_held : (t : Target) (p q : ℕ) → Clash c t p q → p ≡ q → (is_own c t p ≡ true) × (c.claims p t ≡ true)
  self_held t p q (between_two two) same = absurd (two.distinct same)
  self_held t p q (with_itself _ own) same = (own.own, own.claimed)

  pub itself_held : (t : Target) (h k : Hold) → Says c (Shared t h k) → h.port.0 ≡ k.port.0 → (h.own ≡ true) × (at_least_one h.decoders ≡ true)
  itself_held t h k (least, second, first-hold, second-hold) same =
      let both = self_held t h.port.0 k.port.0 ((clash_true c t h.port.0 k.port.0).0 second.passes) same in
      (ap (λ (x : Hold). x.own) first-hold ∙ both.0, ap (λ (x : Hold). at_least_one x.decoders) first-hold ∙ sym (joined h.port.0 t) ∙ both.1)
