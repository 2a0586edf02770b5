-- What one turn of a loop over changes makes of what the turns before it did.
use Rattle.std.proofs.Common.{ℕ, ◌+◌, ◌<◌, ◌≡◌, Bool, true, false, not, ◌&&◌, cond, eqb, ltb, List, length, refl, sym, ◌∙◌, add-one, subst, arith, ap, ◌≤◌}
use Rattle.std.specs.Prelude.{Option, Some, None, is_some}
use Rattle.chassis.specs.Tree.{any_below}
use Rattle.chassis.proofs.Ports.{any_below_at}
use Rattle.picture.specs.Reading.{reading, number_of}
use Rattle.changes.specs.declared.Change.{Change}
use Rattle.changes.specs.Change.{byte_named}
use Rattle.changes.specs.Versions.{change_at, version}
use Rattle.changes.specs.Adding.{is_none, byte_at, is_another, old_wrong, names_none, run_number, room_full, else_number, adding_number}
use Rattle.changes.specs.Looking.{same_byte, held_after, held_up_to}
use Rattle.changes.proofs.Reading.{reads_zero, reads_far}
use Rattle.changes.proofs.Held.{wrong_is, number_more, lower}

pub looked_none : (changes : List Change) (c : Change) (held : ℕ) → held_up_to changes c held 0 ≡ held
unfolding held_up_to
looked_none changes c held = refl

pub looked_more : (changes : List Change) (c : Change) (held i : ℕ) → held_up_to changes c held (i + 1) ≡ held_after (change_at changes i) c (held_up_to changes c held i)
unfolding held_up_to
looked_more changes c held i = rw (add-one i) refl

-- a change that names another byte leaves it, and one that names it says what it is
pub looked_past : (changes : List Change) (c : Change) (held i : ℕ) → same_byte (change_at changes i) c ≡ false → held_up_to changes c held (i + 1) ≡ held_up_to changes c held i
unfolding held_after
looked_past changes c held i other = rw (looked_more changes c held i, other) refl

pub looked_here : (changes : List Change) (c : Change) (held i : ℕ) → same_byte (change_at changes i) c ≡ true → held_after (change_at changes i) c held ≡ held_up_to changes c held (i + 1)
unfolding held_after
looked_here changes c held i same = rw (looked_more changes c held i, same) refl

-- where none names it, it is what it was
pub looked_end : (changes : List Change) (c : Change) (held i k : ℕ) → i ≤ 0 → held_up_to changes c held i ≡ held_up_to changes c held k → held ≡ held_up_to changes c held k
unfolding held_up_to
looked_end changes c held i k none e = let zero : i ≡ 0 = omega (arith, none) in rw (← e, zero) refl

-- none of the changes so far passes a test
pub none_yet : (test : ℕ → Bool) → any_below test 0 ≡ false
unfolding any_below
none_yet test = refl

pub none_more : (test : ℕ → Bool) (i : ℕ) → any_below test i ≡ false → test i ≡ false → any_below test (i + 1) ≡ false
unfolding any_below
none_more test i before here = rw (add-one i, before, here) refl

-- another byte than is said, where one is named
another : (found : Option ℕ) (byte said : ℕ) → (is_some found && not (eqb byte said)) ≡ is_another found byte said
another (Some x) byte said = refl
another None byte said = refl

-- 38 at a change of the run, by the byte that is looked for
pub wrong_here : (first : List ℕ) (room run : List Change) (kept i held first_byte kept_byte byte : ℕ) (c : Change) → number_of (reading first) ≡ 0
    → c ≡ change_at run i
    → held ≡ cond (ltb (length room) kept) (length room) kept
    → first_byte ≡ byte_at (byte_named first c) first
    → kept_byte ≡ held_up_to room c first_byte held
    → byte ≡ held_up_to run c kept_byte i
    → (is_some (byte_named first c) && not (eqb byte c.old_byte)) ≡ old_wrong first (version first room kept) run i
wrong_here first room run kept i held first_byte kept_byte byte c read is_c is_held is_first is_kept is_byte =
    another (byte_named first c) byte c.old_byte
    ∙ rw (is_byte, is_kept, is_first, is_held, is_c) (wrong_is first room run kept i (reads_zero first read))

-- 38 at a change of the run, by the byte that is looked for, where what is named comes last
pub another_here : (first : List ℕ) (room run : List Change) (kept i held first_byte kept_byte byte : ℕ) (c : Change) → number_of (reading first) ≡ 0
    → c ≡ change_at run i
    → held ≡ cond (ltb (length room) kept) (length room) kept
    → first_byte ≡ byte_at (byte_named first c) first
    → kept_byte ≡ held_up_to room c first_byte held
    → byte ≡ held_up_to run c kept_byte i
    → is_another (byte_named first c) byte c.old_byte ≡ old_wrong first (version first room kept) run i
another_here first room run kept i held first_byte kept_byte byte c read is_c is_held is_first is_kept is_byte =
    sym (another (byte_named first c) byte c.old_byte)
    ∙ wrong_here first room run kept i held first_byte kept_byte byte c read is_c is_held is_first is_kept is_byte

-- a change that says the byte which is there, and one that says another
pub said_right : (found : Option ℕ) (byte said : ℕ) → eqb byte said ≡ true → false ≡ is_another found byte said
said_right (Some x) byte said same = rw same refl
said_right None byte said same = refl

pub said_wrong : (found : Option ℕ) (byte said : ℕ) → eqb byte said ≡ false → is_some found ≡ is_another found byte said
said_wrong (Some x) byte said other = rw other refl
said_wrong None byte said other = refl

-- one of them passes
pub one_passes : (test : ℕ → Bool) (n i : ℕ) → i < n → true ≡ test i → true ≡ any_below test n
one_passes test n i l here = sym (any_below_at test n i l (sym here))

-- no byte is named
pub not_named : (found : Option ℕ) → is_some found ≡ false → true ≡ is_none found
not_named (Some x) e = e
not_named None e = refl

pub number_turn : (first : List ℕ) (room run : List Change) (kept i n read number held kept_byte byte : ℕ) (c : Change)
    → read ≡ number_of (reading first)
    → n ≡ cond (eqb read 0) (length run) 0
    → i < n
    → c ≡ change_at run i
    → held ≡ cond (ltb (length room) kept) (length room) kept
    → kept_byte ≡ held_up_to room c (byte_at (byte_named first c) first) held
    → byte ≡ held_up_to run c kept_byte i
    → number ≡ run_number first (version first room kept) run i
    → lower number (is_none (byte_named first c)) (is_another (byte_named first c) byte c.old_byte) ≡ run_number first (version first room kept) run (i + 1)
unfolding names_none
number_turn first room run kept i n read number held kept_byte byte c is_read is_n more is_c is_held is_kept is_byte is_number =
    rw (is_byte, is_kept, is_held, is_c, is_number)
    (ap (lower (run_number first (version first room kept) run i) (is_none (byte_named first (change_at run i)))) (wrong_is first room run kept i (reads_zero first (reads_far first (length run) i (subst (λ (m : ℕ). i < m) (is_n ∙ ap (λ (r : ℕ). cond (eqb r 0) (length run) 0) is_read) more))))
    ∙ number_more first (version first room kept) run i)

pub number_end : (first : List ℕ) (room run : List Change) (kept i n read number : ℕ)
    → read ≡ number_of (reading first)
    → n ≡ cond (eqb read 0) (length run) 0
    → i ≤ n → n ≤ i
    → number ≡ run_number first (version first room kept) run i
    → else_number read (else_number number (cond (room_full (length room) kept (length run)) 39 0)) ≡ adding_number first room run kept
unfolding adding_number
number_end first room run kept i n read number is_read is_n low high is_number = go (eqb read 0) refl
  where
    go : (b : Bool) → eqb read 0 ≡ b → cond b (else_number number (cond (room_full (length room) kept (length run)) 39 0)) read
        ≡ else_number (number_of (reading first)) (else_number (run_number first (version first room kept) run (length run)) (cond (room_full (length room) kept (length run)) 39 0))
    go true e = let all : i ≡ length run = omega (arith, low, high, is_n ∙ ap (λ (b : Bool). cond b (length run) 0) e) in rw (is_number, all, sym is_read, e) refl
    go false e = rw (sym is_read, e) refl
