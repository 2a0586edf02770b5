-- What the loops over the ports of a picture have found when they stop, and what the header's checks leave.
-- Assumes nothing.
use Prim.Native.Nat.{ℕ, ◌<◌, ◌≤◌}
use mathlib.Core.Bool.{Bool, true, false, cond, ◌||◌}
use mathlib.Core.List.{List}
use mathlib.Core.Path.{◌≡◌, refl, ap, ◌∙◌}
use Prim.Native.Nat.{zero-le}
use borrow.Author.Tests.{eq-eqb, ne_eqb, ltb-false}
use lib.ListN.{length}
use lib.Dec.{eqb, ltb}
use Rattle.least.proofs.Laws.{impossible, NoneIn, at_is, none_is}
use Rattle.least.specs.Least.{first_in, or_else}
use Rattle.registers.specs.declared.Fpb.{Fpb}
use Rattle.registers.specs.declared.Mechanism.{Mechanism}
use Rattle.registers.specs.declared.Mechanism.TheVariants.{Rid, Low, High}
use Rattle.registers.specs.Record.{port_at}
use Rattle.registers.specs.Vectors.{vector_bytes}
use Rattle.trees.specs.Trees.{count_of}
use Rattle.picture.specs.declared.Header.{Header}
use Rattle.picture.specs.Header.{header_of, count_wrong}
use Rattle.picture.specs.Layout.{all_bytes, running_offset, place_wrong, end_wrong, offset_in}
use Rattle.picture.specs.declared.refusals.Refusal.{Refusal}
use Rattle.picture.specs.Onward.{unless}
use Rattle.picture.specs.Reading.{breaks, misplaced_in, refused_at, ports_reading}
use Rattle.picture.specs.declared.refusals.Rule.{Rule}
use Rattle.picture.specs.declared.refusals.Rule.TheVariants.{Tree, Chain, Settings, Start}
use Rattle.picture.specs.declared.refusals.Refusal.TheVariants.{Breaks, Misplaced}
use Rattle.ids.specs.declared.PortNo.{PortNo}
use Rattle.ids.specs.Ids.{port_no}
use Rattle.std.specs.Prelude.{Option, Some, None, Result, Ok, Err}

-- whether a port's vectors start at the running offset
module _ (s : List ℕ) (p offset start : ℕ) (is : start ≡ (port_at s p).vectors_at) (at : offset ≡ running_offset s p) where
  pub place_wrong_lem : (start ≡ offset → ⊥) → place_wrong s p ≡ true
  unfolding place_wrong
  place_wrong_lem differs = rw (← is, ← at, ne_eqb _ _ differs)

  pub place_kept : start ≡ offset → place_wrong s p ≡ false
  unfolding place_wrong
  place_kept same = rw (← is, ← at, eq-eqb _ _ same)

-- the bytes of a port's vectors are so many as their sizes say
pub all_bytes_same : (f g : Fpb) → ((m : Mechanism) → vector_bytes f m ≡ vector_bytes g m) → all_bytes f ≡ all_bytes g
all_bytes_same f g same = rw (same Rid, same Low, same High)

-- number 10 at a port, at the end and nowhere
pub misplaced_here : (s : List ℕ) (p : ℕ) → p < count_of s → place_wrong s p ≡ true → NoneIn (place_wrong s) 0 p → Some p ≡ misplaced_in s
unfolding misplaced_in
misplaced_here s p below wrong none =
    ap (λ (f : Option ℕ). or_else f (cond (end_wrong s) (Some 255) None))
    (at_is (record { from = zero-le; below = below; holds = wrong; first = none }))

module _ (s : List ℕ) (p offset : ℕ) (end : p ≡ count_of s) (at : offset ≡ running_offset s p) (none : NoneIn (place_wrong s) 0 p) where
  rest : (found : Option ℕ) → cond (end_wrong s) (Some 255) None ≡ found → found ≡ misplaced_in s
  unfolding misplaced_in
  rest found e = rw (← none_is (rw end at none), e)

  pub misplaced_end : (offset ≡ length s → ⊥) → Some 255 ≡ misplaced_in s
  unfolding end_wrong
  misplaced_end differs = rest (Some 255) (rw (← end, ← at, ne_eqb _ _ differs))

  pub misplaced_nowhere : offset ≡ length s → None ≡ misplaced_in s
  unfolding end_wrong
  misplaced_nowhere same = rest None (rw (← end, ← at, eq-eqb _ _ same))

-- a vector's place among those of its port hangs on their sizes
pub offset_same : (f g : Fpb) → ((m : Mechanism) → vector_bytes f m ≡ vector_bytes g m) → (m : Mechanism) → offset_in f m ≡ offset_in g m
offset_same f g same Rid = refl
offset_same f g same Low = same Rid
offset_same f g same High = rw (same Rid, same Low)

-- the count of the header that was read
pub count_of_lem : (s : List ℕ) (h : Header) → h ≡ header_of s → h.count ≡ count_of s
unfolding header_of
count_of_lem s h e = ap (λ (x : Header). x.count) e

-- a count that is not refused is at most 64
pub count_small : (h : Header) → count_wrong h ≡ false → h.count ≤ 64
unfolding count_wrong
count_small h right = go (eqb h.count 0) (ltb 64 h.count) refl right
  where
    go : (a b : Bool) → ltb 64 h.count ≡ b → (a || b) ≡ false → h.count ≤ 64
    go true b e r = impossible (cc)
    go false true e r = impossible (cc)
    go false false e r = ltb-false 64 h.count e

-- numbers are looked for one after the other: a refusal ends the reading, and else it goes on
abbrev pub goes_on : Result (Unit {0}) Refusal → Result Header Refusal → Result Header Refusal
goes_on (Ok _) rest = rest
goes_on (Err r) rest = Err r

looked : (found : Option ℕ) (refusal : PortNo → Refusal) (rest : Result Header Refusal) → refused_at found refusal rest ≡ goes_on (unless found refusal) rest
looked (Some p) refusal rest = refl
looked None refusal rest = refl

abbrev pub kept : List ℕ → ℕ → Rule → Result (Unit {0}) Refusal
kept s n rule = unless (first_in (breaks rule s) 0 n) (Breaks rule)

pub as_looked : (s : List ℕ) (h : Header) (n : ℕ) → h ≡ header_of s → n ≡ h.count
    → ports_reading s
    ≡ goes_on (kept s n Tree) (goes_on (kept s n Chain) (goes_on (kept s n Settings) (goes_on (kept s n Start) (goes_on (unless (misplaced_in s) Misplaced) (Ok h)))))
unfolding ports_reading header_of
as_looked s h n header count =
    rw (count, count_of_lem s h header, header)
    (looked (broken Tree) (Breaks Tree) _
    ∙ ap (goes_on (kept s (count_of s) Tree)) (looked (broken Chain) (Breaks Chain) _
    ∙ ap (goes_on (kept s (count_of s) Chain)) (looked (broken Settings) (Breaks Settings) _
    ∙ ap (goes_on (kept s (count_of s) Settings)) (looked (broken Start) (Breaks Start) _
    ∙ ap (goes_on (kept s (count_of s) Start)) (looked (misplaced_in s) Misplaced (Ok (header_of s)))))))
  where
    broken : Rule → Option ℕ
    broken rule = first_in (breaks rule s) 0 (count_of s)

-- a reading so far, or the refusal with the port that the next number has found
abbrev pub then_at : Result Header Refusal → Option ℕ → (PortNo → Refusal) → Result Header Refusal
then_at (Err r) found refusal = Err r
then_at (Ok h) (Some p) refusal = Err (refusal (port_no p))
then_at (Ok h) None refusal = Ok h

-- numbers looked for one after the other are a chain of refusals
pub chained : (h : Header) (a b c d e : Option ℕ) (f g k l m : PortNo → Refusal)
    → then_at (then_at (then_at (then_at (then_at (Ok h) a f) b g) c k) d l) e m
    ≡ refused_at a f (refused_at b g (refused_at c k (refused_at d l (refused_at e m (Ok h)))))
chained h (Some p) b c d e f g k l m = refl
chained h None (Some p) c d e f g k l m = refl
chained h None None (Some p) d e f g k l m = refl
chained h None None None (Some p) e f g k l m = refl
chained h None None None None (Some p) f g k l m = refl
chained h None None None None None f g k l m = refl
