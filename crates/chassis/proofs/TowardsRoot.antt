-- A redirected packet comes to the root, and from there to where the host's packet comes; so does whatever starts below a device port
-- that does not claim its clean target.
use Prim.Native.Nat.{ℕ, ◌<◌}
use mathlib.Core.Bool.{Bool, true, false}
use mathlib.Core.List.{List, []}
use mathlib.Core.Path.{◌≡◌, refl, sym, ap, ◌∙◌, subst}
use native.Mathlib.Omega.{arith}
use Rattle.ids.specs.declared.PortNo.{PortNo}
use Rattle.ids.specs.declared.Target.{Target}
use Rattle.chassis.specs.declared.End.{End}
use Rattle.chassis.specs.declared.End.TheVariants.{Unsupported}
use Rattle.chassis.specs.declared.Packet.TheVariants.{Plain}
use Rattle.chassis.specs.declared.Whereabouts.{Whereabouts}
use Rattle.chassis.specs.declared.Whereabouts.TheVariants.{From, Redirected}
use Rattle.ids.specs.Ids.{port_no}
use Rattle.chassis.specs.Chassis.{Chassis}
use Rattle.chassis.specs.Tree.{root_port, is_device_port}
use Rattle.chassis.specs.Walk.{come_to, towards_root, is_redirected, starts_at, next, Walk}
use Rattle.chassis.proofs.Tree.{Sane, root_port_parent, other_parent, by_parents}
use Rattle.chassis.proofs.Walks.{walk_rest}
use Rattle.chassis.proofs.Clean.{Clean}
use Rattle.chassis.proofs.Homeward.{FromHost, same_end, own_device_refused, device_port_below}
use Rattle.chassis.proofs.Starts.{come_to_port, come_to_redirected, claimed_not_redirected}

module _ (c : Chassis) (t : Target) (sane : Sane c.tree) where
  abbrev RedirectedFromHost : ℕ → Type 0
  RedirectedFromHost q = (path : List PortNo) (e : End) → Walk c (Plain t) (Redirected (port_no q)) path e → FromHost c t e

  -- what is ahead of it above the port
  above : (q : ℕ) {path : List PortNo} {e : End} → Walk c (Plain t) (Redirected (port_no q)) path e
      → (rest : List PortNo) × Walk c (Plain t) (come_to true (c.tree.parent q)) rest e
  unfolding next towards_root
  above q k = walk_rest refl k

  redirected_at_root : (q : ℕ) → q < c.tree.count → c.tree.kind q ≡ root_port → RedirectedFromHost q
  unfolding come_to
  redirected_at_root q l top path e k =
      let rest = above q k in
      let at-root = root_port_parent c.tree sane q l top in
      record { path = rest.0; walk = subst (λ (place : ℕ). Walk c (Plain t) (come_to true place) rest.0 e) at-root rest.1 }

  redirected_below : (q : ℕ) → q < c.tree.count → (c.tree.kind q ≡ root_port → ⊥) → RedirectedFromHost (c.tree.parent q)
      → RedirectedFromHost q
  redirected_below q l lower up path e k =
      let rest = above q k in
      let less = other_parent c.tree sane q l lower in
      let port = come_to_redirected c sane (c.tree.parent q) (omega arith) in
      up rest.0 e (subst (λ (w : Whereabouts). Walk c (Plain t) w rest.0 e) port rest.1)

  redirected_from_host : (q : ℕ) → q < c.tree.count → RedirectedFromHost q
  redirected_from_host = by_parents c.tree sane RedirectedFromHost redirected_at_root redirected_below

  -- a device port that itself claims the target refuses its own device
  pub own_start_refused : (d : PortNo) → is_device_port c.tree d.0 ≡ true → c.claims d.0 t ≡ true
      → Walk c (Plain t) (starts_at c (Plain t) d.0) [] (Unsupported d)
  own_start_refused d device claimed =
      let there = come_to_port c sane d.0 (device_port_below c d.0 device) in
      let from : starts_at c (Plain t) d.0 ≡ From d = ap (λ (b : Bool). come_to b d.0) (claimed_not_redirected c t d.0 claimed) ∙ there in
      subst (λ (w : Whereabouts). Walk c (Plain t) w [] (Unsupported d)) (sym from) (own_device_refused c t d device claimed)

  -- the end of a packet that started below a device port which does not claim the target is the end of the host's packet
  pub start_same_end : Clean c t → (d : PortNo) {path : List PortNo} {e : End} → is_device_port c.tree d.0 ≡ true
      → c.claims d.0 t ≡ false → Walk c (Plain t) (starts_at c (Plain t) d.0) path e → FromHost c t e
  start_same_end clean d {path} {e} device unclaimed k = go (is_redirected c (Plain t) d.0) k
    where
      there : d.0 < c.tree.count
      there = device_port_below c d.0 device

      go : (b : Bool) → Walk c (Plain t) (come_to b d.0) path e → FromHost c t e
      go true way =
          redirected_from_host d.0 there path e
          (subst (λ (w : Whereabouts). Walk c (Plain t) w path e) (come_to_redirected c sane d.0 there) way)
      go false way =
          same_end c t sane clean d device unclaimed
          (subst (λ (w : Whereabouts). Walk c (Plain t) w path e) (come_to_port c sane d.0 there) way)
