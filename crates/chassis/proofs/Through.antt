-- What looking through ports comes to, for the test that the answers tell.
use Rattle.std.proofs.Common.{ℕ, ◌≡◌, ◌<◌, ◌≤◌, Bool, true, false, sym, arith}
use Rattle.std.specs.Prelude.{Option, Some, None, is_some}
use Rattle.least.specs.Least.{first_in}
use Rattle.least.proofs.Laws.{NoneIn, at_is, none_is, is_at, is_none}
use Rattle.ids.specs.declared.PortNo.{PortNo}
use Rattle.ids.specs.Ids.{port_no}
use Rattle.chassis.specs.Tree.{any_below}
use Rattle.chassis.specs.Looking.{Tells, number_in}
use Rattle.chassis.proofs.Ports.{any_below_at, any_below_false}

module _ {answers : PortNo → Bool → Type 0} {n : ℕ} {test : ℕ → Bool} (tells : Tells answers n test) where
  fails_below : (m : ℕ) → m ≤ n → ((k : ℕ) → k < m → answers (port_no k) false) → NoneIn test 0 m
  fails_below m few each = record { none = λ i _ l. sym (tells.each i false (omega arith) (each i l)) }

  -- the port at which the search stops is the lowest that passes
  pub found_is : (p : ℕ) → p < n → answers (port_no p) true → ((k : ℕ) → k < p → answers (port_no k) false) → Some p ≡ first_in test 0 n
  found_is p l here each =
      at_is (record { from = omega arith; below = l; holds = sym (tells.each p true l here); first = fails_below p (omega arith) each })

  pub none_found : ((k : ℕ) → k < n → answers (port_no k) false) → None ≡ first_in test 0 n
  none_found each = none_is (fails_below n (omega arith) each)

-- one passes exactly if there is a lowest that does
pub any_is : (test : ℕ → Bool) (n : ℕ) (r : Option PortNo) → number_in r ≡ first_in test 0 n → is_some r ≡ any_below test n
any_is test n None e = sym ((any_below_false test n).1 (λ i l. (is_none test 0 n e).none i (omega arith) l))
any_is test n (Some p) e = let at = is_at test 0 n e in sym (any_below_at test n p.0 at.below at.holds)
