-- 01, "Numbers given back": what the programs print: of a picture, of a walk's answer, of what a port has to do with a target.
use Rattle.std.specs.Prelude.{ℕ, Bool, cond, List, [], ◌∷◌, ◌++◌, Result, Ok, Err}
use Rattle.trees.specs.Trees.{count_of}
use Rattle.chassis.specs.Chassis.{is_held}
use Rattle.judge.specs.Checking.{check_answer, check_finding}
use Rattle.judge.specs.Refusals.{refusal_finding}
use Rattle.judge.specs.Trying.{trial_check}
use Rattle.texts.specs.Lines.{refused_line, report_lines, walk_lines, holder_line}
use Rattle.chassis.specs.declared.Hold.{Hold}
use Rattle.picture.specs.declared.refusals.Refusal.{Refusal}
use Rattle.routes.specs.declared.Walked.{Walked}

-- the count of ports and what the check says, with this byte between two lines
abbrev pub report_of : List ℕ → ℕ → List ℕ
report_of s end = report_lines (count_of s) (check_finding (check_answer s)) end

-- the same of a picture and a patch: "prints as `report` does"
abbrev pub trial_of : List ℕ → List ℕ → ℕ → List ℕ
trial_of s patch end = report_lines (count_of s) (check_finding (trial_check s patch)) end

-- a refusal, or the end and the ports crossed
abbrev pub walk_of : Bool → Result Walked Refusal → List ℕ
walk_of config (Err r) = refused_line (refusal_finding r)
walk_of config (Ok w) = walk_lines config w.end w.path

-- what the program `claims` says of one port: the refusal, its line where it holds the target, nothing where it does not
abbrev pub claim_line : Result Hold Refusal → List ℕ
claim_line (Err r) = refused_line (refusal_finding r)
claim_line (Ok h) = cond (is_held h) (holder_line h) []

-- with the last line's end
abbrev pub ended : List ℕ → List ℕ
ended lines = lines ++ (10 ∷ [])
