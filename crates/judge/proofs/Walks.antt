-- What a walk that is not refused has, and that the call's answer is the only one it may give. Assumes nothing.
use Prim.Native.Nat.{ℕ, ◌<◌}
use mathlib.Core.Bool.{Bool, true, false, not, ◌||◌}
use mathlib.Core.List.{List, []}
use mathlib.Core.Logic.{◌⊎◌, inl, inr}
use mathlib.Core.Path.{◌≡◌, refl, sym, ap, subst, subst₂, ◌∙◌}
use native.Mathlib.Omega.{arith}
use borrow.Author.Tests.{eqb-true, ltb-true, not-false}
use lib.Dec.{eqb, ltb}
use Rattle.least.proofs.Laws.{impossible}
use Rattle.chassis.specs.declared.Packet.{Packet}
use Rattle.chassis.specs.declared.Whereabouts.{Whereabouts}
use Rattle.chassis.specs.Chassis.{Chassis}
use Rattle.chassis.specs.Tree.{Tree, root, is_device_port, has_child_below}
use Rattle.chassis.specs.Walk.{come_to, is_redirected, starts_at}
use Rattle.chassis.proofs.Bools.{or_false_parts, and_true_parts}
use Rattle.chassis.proofs.Starts.{come_to_root, come_to_within}
use Rattle.chassis.proofs.Steps.{Within}
use Rattle.chassis.proofs.Tree.{Sane}
use Rattle.chassis.proofs.Walks.{walk_one}
use Rattle.paths.specs.Paths.{path_of}
use Rattle.picture.specs.declared.Header.{Header}
use Rattle.picture.specs.declared.refusals.Refusal.{Refusal}
use Rattle.picture.specs.Reading.{reading}
use Rattle.trees.specs.Trees.{tree_of}
use Rattle.claims.specs.Claims.{chassis_of}
use Rattle.claims.specs.Over.{chassis_over}
use Rattle.claims.proofs.Over.{unpatched}
use Rattle.routes.specs.declared.Walked.{Walked}
use Rattle.routes.specs.Routes.{Arrives}
use Rattle.picture.specs.declared.refusals.Refusal.TheVariants.{AskedWrongly}
use Rattle.judge.specs.Asking.{id_too_large}
use Rattle.judge.specs.Walking.{packet_of, is_start, asked_wrongly, AskedGives, ReadGives, WalkGives}
use Rattle.std.specs.Prelude.{Result, Ok, Err}

module _ (tree : Tree) (kind start target : ℕ) (asked : asked_wrongly tree kind start target ≡ false) where
  parts : ((ltb 2 kind || id_too_large kind target) ≡ false) × (not (is_start tree start) ≡ false)
  unfolding asked_wrongly
  parts = or_false_parts (ltb 2 kind || id_too_large kind target) (not (is_start tree start)) asked

  pub id_fits : id_too_large kind target ≡ false
  id_fits = (or_false_parts (ltb 2 kind) (id_too_large kind target) parts.0).1

  start_right : is_start tree start ≡ true
  start_right = not-false (is_start tree start) parts.1

-- a start is 255 or a port
abbrev pub Starts : Tree → ℕ → Type 0
Starts tree start = (start ≡ root) ⊎ (start < tree.count)

device_port_below : (tree : Tree) (p : ℕ) → is_device_port tree p ≡ true → p < tree.count
unfolding is_device_port
device_port_below tree p e =
    ltb-true p tree.count (and_true_parts (ltb p tree.count) _ (and_true_parts _ (not (has_child_below tree tree.count p)) e).0).0

pub starts : (tree : Tree) (start : ℕ) → is_start tree start ≡ true → Starts tree start
unfolding is_start
starts tree start e = go (eqb start root) (is_device_port tree start) refl refl e
  where
    go : (a b : Bool) → eqb start root ≡ a → is_device_port tree start ≡ b → (a || b) ≡ true → Starts tree start
    go true b ea eb e = inl (eqb-true start root ea)
    go false true ea eb e = inr (device_port_below tree start eb)
    go false false ea eb e = impossible (cc)

module _ (c : Chassis) (sane : Sane c.tree) (start : ℕ) where
  pub start_small : Starts c.tree start → start < 256
  start_small (inl e) = omega arith
  start_small (inr l) = omega (arith, sane.few)

  pub start_within : (redirected : Bool) → Starts c.tree start → Within c (come_to redirected start)
  start_within redirected (inl e) =
      subst (λ (n : ℕ). Within c (come_to redirected n)) (sym e) (subst (Within c) (sym (come_to_root redirected)) tt)
  start_within redirected (inr l) = come_to_within c sane start l redirected

-- where the rules lead is one place, by one path
arrives_one : {c : Chassis} {packet : Packet} {start : Whereabouts} (a b : Walked) → Arrives c packet start a → Arrives c packet start b → a ≡ b
arrives_one a b x y =
    let one = walk_one x.walk y.walk in
    λ i. record { path = (x.named ∙ ap path_of one.0 ∙ sym y.named) i; end = one.1 i }

-- the walk call has one answer
pub walk_only : (s : List ℕ) (kind start target : ℕ) (a b : Result Walked Refusal) → WalkGives s kind start target a → WalkGives s kind start target b → a ≡ b
walk_only s kind start target a b = read (reading s)
  where
    asked : (wrong : Bool) → AskedGives wrong (chassis_of s) kind start target a → AskedGives wrong (chassis_of s) kind start target b → a ≡ b
    asked true x y = x ∙ sym y
    asked false x y = x.2 ∙ ap Ok (arrives_one x.0 y.0 x.1 y.1) ∙ sym y.2

    read : (got : Result Header Refusal) → ReadGives got s kind start target a → ReadGives got s kind start target b → a ≡ b
    read (Err r) x y = x ∙ sym y
    read (Ok h) x y = asked (asked_wrongly (chassis_of s).tree kind start target) x y

-- the two ways in which a call ends that has read
module _ (c : Chassis) (kind start target : ℕ) (answer : Result Walked Refusal) where
  abbrev Gives : Bool → Type 0
  Gives wrong = AskedGives wrong c kind start target answer

  pub gives_16 : asked_wrongly c.tree kind start target ≡ true → answer ≡ Err AskedWrongly → Gives (asked_wrongly c.tree kind start target)
  gives_16 asked e = subst Gives (sym asked) e

  pub gives_end : {packet : Packet} {from : Whereabouts} (w : Walked) → asked_wrongly c.tree kind start target ≡ false
      → packet ≡ packet_of kind target → from ≡ starts_at c packet start → Arrives c packet from w → answer ≡ Ok w
      → Gives (asked_wrongly c.tree kind start target)
  gives_end w asked what where-from arrives e =
      let from-there = where-from ∙ ap (λ (p : Packet). starts_at c p start) what in
      subst Gives (sym asked) (w, subst₂ (λ (p : Packet) (x : Whereabouts). Arrives c p x w) what from-there arrives, e)

-- the two ways in which the walk call ends
module _ (s : List ℕ) (kind start target : ℕ) (answer : Result Walked Refusal) where
  pub gives_unread : (r : Refusal) → reading s ≡ Err r → answer ≡ Err r → WalkGives s kind start target answer
  gives_unread r unread e = subst (λ (got : Result Header Refusal). ReadGives got s kind start target answer) (sym unread) e

  pub gives_read : (h : Header) → reading s ≡ Ok h → AskedGives (asked_wrongly (tree_of s) kind start target) (chassis_of s) kind start target answer
      → WalkGives s kind start target answer
  gives_read h read gives = subst (λ (got : Result Header Refusal). ReadGives got s kind start target answer) (sym read) gives

  pub gives_alone : (h : Header) (none : List ℕ) → reading s ≡ Ok h → none ≡ []
      → AskedGives (asked_wrongly (tree_of s) kind start target) (chassis_over s none) kind start target answer → WalkGives s kind start target answer
  gives_alone h none read empty gives =
      gives_read h read
      (subst (λ (c : Chassis). AskedGives (asked_wrongly (tree_of s) kind start target) c kind start target answer) (unpatched s none empty) gives)

-- what a call that is not refused gives the walk
module _ (c : Chassis) (sane : Sane c.tree) (kind start target : ℕ) (asked : asked_wrongly c.tree kind start target ≡ false) where
  pub started : Starts c.tree start
  started = starts c.tree start (start_right c.tree kind start target asked)

  pub small_start : start < 256
  small_start = start_small c sane start started

  pub within_start : {from : Whereabouts} (packet : Packet) → from ≡ starts_at c packet start → Within c from
  within_start packet e = subst (Within c) (sym e) (start_within c sane start (is_redirected c packet start) started)
