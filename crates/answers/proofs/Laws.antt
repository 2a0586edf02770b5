-- The places of a path stand behind the head one after the other. Assumes nothing.
use Prim.Native.Nat.{ℕ, suc, ◌+◌, ◌≤◌, ◌<◌}
use mathlib.Core.List.{List, [], ◌∷◌, ◌++◌, append_assoc, append-nil, map-append}
use mathlib.Core.Path.{◌≡◌, sym, ap, ◌∙◌}
use native.Mathlib.Numerals.{add-one}
use native.Mathlib.Omega.{arith}
use lib.ListN.{length, take, set, get_or, length-set}
use lib.Seq.{take_all, take-suc, take-suc-set}
use Rattle.ids.specs.declared.PortNo.{PortNo}
use Rattle.answers.specs.declared.Head.{Head}
use Rattle.answers.specs.Answers.{head_bytes, answer_bytes, no_places, path_places}

-- `out` has the head of `start` and the first i places
pub record Filled (start out : List ℕ) (places : List PortNo) (i : ℕ) : Type 0 where
  pub room : i ≤ 32
  pub whole : length out ≡ 40
  pub so_far : take (8 + i) out ≡ take 8 start ++ path_places (take i places)

pub filled_none : (start : List ℕ) (places : List PortNo) → length start ≡ 40 → Filled start start places 0
unfolding path_places
filled_none start places whole =
    record { room = omega arith; whole = whole; so_far = sym (append-nil (take 8 start)) }

module _ (start out : List ℕ) (places : List PortNo) (all : length places ≡ 32) where
  places_more : (i : ℕ) (d : PortNo) → i < 32 → path_places (take (suc i) places) ≡ path_places (take i places) ++ ((get_or places i d).0 ∷ [])
  unfolding path_places
  places_more i d l = rw (take-suc places i d (omega arith), map-append)

  pub filled_more : (i : ℕ) (d : PortNo) → i < 32 → Filled start out places i
      → Filled start (set out (8 + i) (get_or places i d).0) places (i + 1)
  filled_more i d l on =
      let next : 8 + (i + 1) ≡ suc (8 + i) = omega arith in
      record {
        room = omega arith;
        whole = length-set out (8 + i) (get_or places i d).0 ∙ on.whole;
        so_far = ap (λ (n : ℕ). take n (set out (8 + i) (get_or places i d).0)) next
            ∙ take-suc-set out (8 + i) (get_or places i d).0 (omega (arith, on.whole))
            ∙ ap (λ (l : List ℕ). l ++ ((get_or places i d).0 ∷ [])) on.so_far
            ∙ append_assoc (take 8 start) (path_places (take i places)) ((get_or places i d).0 ∷ [])
            ∙ ap (λ (l : List ℕ). take 8 start ++ l) (sym (places_more i d l))
            ∙ ap (λ (n : ℕ). take 8 start ++ path_places (take n places)) (sym (add-one i));
      }

  pub filled_all : (h : Head) → start ≡ answer_bytes h no_places → Filled start out places 32
      → out ≡ answer_bytes h (path_places places)
  unfolding answer_bytes head_bytes no_places
  filled_all h began on =
      sym (take_all 40 out (omega (arith, on.whole)))
      ∙ on.so_far
      ∙ ap (λ (l : List ℕ). take 8 l ++ path_places (take 32 places)) began
      ∙ ap (λ (l : List PortNo). head_bytes h ++ path_places l) (take_all 32 places (omega (arith, all)))
