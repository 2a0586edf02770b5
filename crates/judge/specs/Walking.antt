-- The walk call: numbers 1 to 10, then 16, then 01, "The walk".
mod Words
use Words.*
use Rattle.routes.specs.declared.Walked.{Walked}
use Rattle.picture.specs.declared.refusals.Refusal.{Refusal}
use Rattle.std.specs.Prelude.{Result, Ok, Err}

-- "packet kind 0 ID, 1 address, 2 configuration request"
unfoldable pub packet_of : ℕ → ℕ → Packet
packet_of kind target = cond (ltb kind 2) (Plain (target_asked kind target)) (Config (record { 0 = target }))

-- 16: "packet kind over 2, an ID over FFFFh, or start not 255 and not a device port"
unfoldable pub is_start : Tree → ℕ → Bool
is_start tree start = eqb start root || is_device_port tree start

unfoldable pub asked_wrongly : Tree → ℕ → ℕ → ℕ → Bool
asked_wrongly tree kind start target = ltb 2 kind || id_too_large kind target || not (is_start tree start)

-- what the call gives: the refusal, or the end and the path to which the rules lead
abbrev pub AskedGives : Bool → Chassis → ℕ → ℕ → ℕ → Result Walked Refusal → Type 0
AskedGives true c kind start target answer = answer ≡ Err AskedWrongly
AskedGives false c kind start target answer =
    (w : Walked) × Arrives c (packet_of kind target) (starts_at c (packet_of kind target) start) w × (answer ≡ Ok w)

abbrev pub ReadGives : Result Header Refusal → List ℕ → ℕ → ℕ → ℕ → Result Walked Refusal → Type 0
ReadGives (Err r) s kind start target answer = answer ≡ Err r
ReadGives (Ok h) s kind start target answer =
    AskedGives (asked_wrongly (chassis_of s).tree kind start target) (chassis_of s) kind start target answer

abbrev pub WalkGives : List ℕ → ℕ → ℕ → ℕ → Result Walked Refusal → Type 0
WalkGives s kind start target answer = ReadGives (reading s) s kind start target answer
