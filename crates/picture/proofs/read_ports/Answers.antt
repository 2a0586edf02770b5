use Rattle.std.proofs.Common.{rules, refl}
use Rattle.picture.proofs.Laws.{as_looked, count_of_lem}
use Rattle.picture.proofs.read_ports.Goals as goal

pub returns-in_err-keep : goal.returns-in_err-keep
returns-in_err-keep c =
    rw (as_looked c.args.s.now c.args.h c.args.h.count c.requires.h_value refl, ← c.keep.ensures, c.in_err-keep.was) (search rules)

pub returns-in_err-keep-2 : goal.returns-in_err-keep-2
returns-in_err-keep-2 c =
    rw (as_looked c.args.s.now c.args.h c.args.h.count c.requires.h_value refl, ← c.keep.ensures, c.in_ok-keep.was, ← c.keep-2.ensures, c.in_err-keep-2.was) (search rules)

pub returns-in_err-keep-3 : goal.returns-in_err-keep-3
returns-in_err-keep-3 c =
    rw (as_looked c.args.s.now c.args.h c.args.h.count c.requires.h_value refl, ← c.keep.ensures, c.in_ok-keep.was, ← c.keep-2.ensures, c.in_ok-keep-2.was, ← c.keep-3.ensures, c.in_err-keep-3.was) (search rules)

pub returns-in_err-keep-4 : goal.returns-in_err-keep-4
returns-in_err-keep-4 c =
    rw (as_looked c.args.s.now c.args.h c.args.h.count c.requires.h_value refl, ← c.keep.ensures, c.in_ok-keep.was, ← c.keep-2.ensures, c.in_ok-keep-2.was, ← c.keep-3.ensures, c.in_ok-keep-3.was, ← c.keep-4.ensures, c.in_err-keep-4.was) (search rules)

pub invariant_of-picture : goal.invariant_of-picture
invariant_of-picture c = record { counted = count_of_lem _ _ c.requires.h_value }

pub returns-in-Some : goal.returns-in-Some
returns-in-Some c =
    rw (as_looked c.args.s.now c.args.h c.args.h.count c.requires.h_value refl, ← c.keep.ensures, c.in_ok-keep.was, ← c.keep-2.ensures, c.in_ok-keep-2.was, ← c.keep-3.ensures, c.in_ok-keep-3.was, ← c.keep-4.ensures, c.in_ok-keep-4.was, ← c.misplaced.ensures, c.in-Some.is)

pub returns-in-None : goal.returns-in-None
returns-in-None c =
    rw (as_looked c.args.s.now c.args.h c.args.h.count c.requires.h_value refl, ← c.keep.ensures, c.in_ok-keep.was, ← c.keep-2.ensures, c.in_ok-keep-2.was, ← c.keep-3.ensures, c.in_ok-keep-3.was, ← c.keep-4.ensures, c.in_ok-keep-4.was, ← c.misplaced.ensures, c.in-None.is)
