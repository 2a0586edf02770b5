-- The words of the demands: what the definitions of the other crates are called there.
pub use Rattle.std.specs.Prelude.{ℕ, ◌<◌, ◌^◌, Bool, true, false, ◌||◌, List, [], ◌∷◌, ◌++◌, ◌↔◌, ◌⊎◌, ◌≡◌, eqb, length, replicate, get_or, Result, Ok}
pub use Rattle.ids.specs.declared.PortNo.{PortNo}
pub use Rattle.ids.specs.declared.Target.{Target}
pub use Rattle.ids.specs.declared.Target.TheVariants.{Id}
pub use Rattle.ids.specs.Ids.{port_no, no_port}
pub use Rattle.chassis.specs.declared.Verdict.{Verdict}
pub use Rattle.chassis.specs.declared.End.{End}
pub use Rattle.chassis.specs.declared.End.TheVariants.{Function}
pub use Rattle.chassis.specs.Chassis.{Chassis, holds, at_least_one, hold_of, is_held}
pub use Rattle.chassis.specs.Findings.{Clashing, Says}
pub use Rattle.chassis.specs.OneEnd.{InRange, OneEnd}
pub use Rattle.chassis.specs.Walk.{Walk, starts_at}
pub use Rattle.paths.specs.declared.Path.{Path}
pub use Rattle.picture.specs.declared.Header.{Header}
pub use Rattle.registers.specs.declared.Mechanism.{Mechanism}
pub use Rattle.registers.specs.Record.{port_at}
pub use Rattle.picture.specs.Layout.{vector_of}
pub use Rattle.picture.specs.Reading.{reading, number_of}
pub use Rattle.patches.specs.Parts.{place_of, part_at}
pub use Rattle.patches.specs.Patched.{patched}
pub use Rattle.patches.specs.Reading.{reading_with}
pub use Rattle.claims.specs.Claims.{chassis_of}
pub use Rattle.judge.specs.Asking.{target_asked}
pub use Rattle.judge.specs.Checking.{check_answer, check_number}
pub use Rattle.judge.specs.Claiming.{claim_asked_wrongly, claim_answer, claim_number}
pub use Rattle.judge.specs.Converting.{convert_asked_wrongly, convert_answer, convert_number}
pub use Rattle.judge.specs.Ends.{outcome_number}
pub use Rattle.judge.specs.Trying.{trial_check, TrialGives, trial_part, part_number}
pub use Rattle.judge.specs.Walking.{packet_of, WalkGives}
pub use Rattle.fiswalend.specs.Calls.{CheckCall, WalkCall, TrialWalkCall}
pub use Rattle.picture.specs.declared.refusals.Refusal.{Refusal}
