-- Demand 3: where a target is neither shared nor astray, from the host and from every device port a packet comes to the same end, in
-- at most 32 crossings, and no place on the way has two holders; except that a device port that itself claims the target refuses
-- its own device.
use mathlib.Core.Bool.{true, false}
use mathlib.Core.List.{List}
use mathlib.Core.Path.{◌≡◌, subst}
use native.Mathlib.Nat.{le_trans}
use Rattle.ids.specs.declared.PortNo.{PortNo}
use Rattle.ids.specs.declared.Target.{Target}
use Rattle.chassis.specs.declared.End.{End}
use Rattle.chassis.specs.declared.Packet.TheVariants.{Plain}
use Rattle.chassis.specs.declared.Whereabouts.{Whereabouts}
use Rattle.chassis.specs.declared.Whereabouts.TheVariants.{Root}
use Rattle.chassis.specs.Chassis.{Chassis}
use Rattle.chassis.specs.Tree.{is_device_port}
use Rattle.chassis.specs.Walk.{is_redirected, starts_at, Walk}
use Rattle.chassis.specs.OneEnd.{NoTwoHolders, Comes, OneEnd, place_of}
use Rattle.chassis.proofs.Tree.{Sane}
use Rattle.chassis.proofs.Steps.{left_most, Within}
use Rattle.chassis.proofs.Walks.{walk_one, walk_exists, walk_short}
use Rattle.chassis.proofs.Clean.{Clean, never_two}
use Rattle.chassis.proofs.Homeward.{device_port_below}
use Rattle.chassis.proofs.Starts.{come_to_within}
use Rattle.chassis.proofs.TowardsRoot.{start_same_end, own_start_refused}

module _ (c : Chassis) (t : Target) (sane : Sane c.tree) (clean : Clean c t) where
  no_two : (w : Whereabouts) → NoTwoHolders c t w
  no_two w path v came = never_two c t clean (place_of v)

  comes : {w : Whereabouts} {e : End} (path : List PortNo) → Within c w → Walk c (Plain t) w path e → Comes c t w e
  comes {w} path l k =
      record {
        path = path;
        walk = k;
        short = le_trans (walk_short c (Plain t) sane l k) (left_most c w);
        no_two_holders = no_two w;
      }

  from_device_too : (e : End) (path : List PortNo) → Walk c (Plain t) Root path e → (d : PortNo)
      → is_device_port c.tree d.0 ≡ true → c.claims d.0 t ≡ false → Comes c t (starts_at c (Plain t) d.0) e
  from_device_too e path k d device unclaimed =
      let from = starts_at c (Plain t) d.0 in
      let below : Within c from = come_to_within c sane d.0 (device_port_below c d.0 device) (is_redirected c (Plain t) d.0) in
      let own = walk_exists c (Plain t) sane from below in
      let hosts = start_same_end c t sane clean d device unclaimed own.walk in
      let same = (walk_one hosts.walk k).1 in
      comes own.path below (subst (λ (f : End). Walk c (Plain t) from own.path f) same own.walk)

  pub clean_one_end : OneEnd c t
  clean_one_end =
      let host = walk_exists c (Plain t) sane Root tt in
      record {
        end = host.end;
        from_host = comes host.path tt host.walk;
        from_device = from_device_too host.end host.path host.walk;
        own_device = λ d device claimed. (own_start_refused c t sane d device claimed, no_two (starts_at c (Plain t) d.0));
      }
