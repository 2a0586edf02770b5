-- The three demands, of the very definitions that the public calls promise, and what 02, Item 7, adds to them. Their proofs are in
-- proofs/Demands.antt, under the same names in small letters (demand_1, demand_1_buffer, demand_2, demand_3, overlap_exactly), and for a
-- picture and a patch in proofs/Trials.antt (trial_1, trial_2, trial_3, trial_overlap); of Item 7 both are in proofs/EveryPort.antt
-- (every_port_found, trial_every_port_found). 02, Item 2: "Demands 2 and 3 read "picture and patch" from then on, and
-- a refused patch counts as one that does not read".
mod Words
use Words.*
use Rattle.routes.specs.declared.Walked.{Walked}
use Rattle.picture.specs.declared.refusals.Refusal.{Refusal}
use Rattle.std.specs.Prelude.{Result, Ok}

-- one of a list of numbers
abbrev pub one_of : List ℕ → ℕ → Bool
one_of [] n = false
one_of (x ∷ xs) n = eqb n x || one_of xs n

-- the table's numbers: those of reading, those that the check adds, the one of a call that asks for what is not there, and those of
-- a patch
abbrev pub of_reading : List ℕ
of_reading = 0 ∷ 1 ∷ 2 ∷ 3 ∷ 4 ∷ 5 ∷ 6 ∷ 7 ∷ 8 ∷ 9 ∷ 10 ∷ []

abbrev pub of_check : List ℕ
of_check = of_reading ++ (11 ∷ 12 ∷ 13 ∷ 14 ∷ 15 ∷ 18 ∷ [])

abbrev pub of_asking : List ℕ
of_asking = of_reading ++ (16 ∷ [])

abbrev pub of_patch : List ℕ
of_patch = 30 ∷ 31 ∷ 32 ∷ []

-- Demand 1: "Any bytes may be lent as a picture, with any ID, address or start. Each call ends with one answer from the paper's table."
-- (That each call ends, and only reads the picture, is part of every proved contract.)
pub record Demand1 (s : List ℕ) : Type 0 where
  pub reads : one_of of_reading (number_of (reading s)) ≡ true
  pub check : one_of of_check (check_number (check_answer s)) ≡ true
  pub walk : (kind start target : ℕ) (a : Result Walked Refusal) → WalkGives s kind start target a → one_of of_asking (outcome_number a) ≡ true
  pub claim : (port kind target : ℕ) → one_of of_asking (claim_number (claim_answer s port kind target)) ≡ true
  pub convert : (port target : ℕ) → one_of of_asking (convert_number (convert_answer s port target)) ≡ true

-- the same of any bytes lent as a picture and as a patch
pub record Trial1 (s patch : List ℕ) : Type 0 where
  pub reads : one_of (of_reading ++ of_patch) (number_of (reading_with s patch)) ≡ true
  pub check : one_of (of_check ++ of_patch) (check_number (trial_check s patch)) ≡ true
  pub walk : (kind start target : ℕ) (a : Result Walked Refusal) → TrialGives s patch kind start target a
      → one_of (of_asking ++ of_patch) (outcome_number a) ≡ true
  pub part : (port : ℕ) (m : Mechanism) → one_of (of_asking ++ of_patch) (part_number (trial_part s patch port m)) ≡ true

-- and "an answer buffer too short stays untouched": what the controller's calls return, and the buffer after them, is one for each
-- buffer before them, and 17 and that buffer itself where it is under 40 bytes
pub record OneBuffer (before : List ℕ) (Call : ℕ → List ℕ → Type 0) : Type 0 where
  pub short : length before < 40 → (number : ℕ) (after : List ℕ) → Call number after → (number ≡ 17) × (after ≡ before)
  pub answers : (number : ℕ) × (after : List ℕ) × Call number after
  pub only : (m n : ℕ) (x y : List ℕ) → Call m x → Call n y → (m ≡ n) × (x ≡ y)

pub record Demand1Buffer (s before : List ℕ) : Type 0 where
  pub check : OneBuffer before (CheckCall (check_answer s) before)
  pub walk : (kind start target : ℕ) → OneBuffer before (WalkCall s kind start target before)
  pub trial_check : (patch : List ℕ) → OneBuffer before (CheckCall (trial_check s patch) before)
  pub trial_walk : (patch : List ℕ) (kind start target : ℕ) → OneBuffer before (TrialWalkCall s patch kind start target before)

-- a path names these ports in order, its count is the number named, and its unused places are 255
pub record Names (path : Path) (ports : List PortNo) : Type 0 where
  pub count : path.count ≡ length ports
  pub places : (unused : ℕ) × (path.places ≡ ports ++ replicate unused no_port) × (length path.places ≡ 32)

-- the walk has an answer, it has only one, and where that ends, it is where the rules lead, and its path names the ports crossed
pub record WalksIn (c : Chassis) (Gives : ℕ → ℕ → ℕ → Result Walked Refusal → Type 0) : Type 0 where
  pub answers : (kind start target : ℕ) → (a : Result Walked Refusal) × Gives kind start target a
  pub only : (kind start target : ℕ) (a b : Result Walked Refusal) → Gives kind start target a → Gives kind start target b → a ≡ b
  pub named : (kind start target : ℕ) (w : Walked) → Gives kind start target (Ok w)
      → (crossed : List PortNo) × Walk c (packet_of kind target) (starts_at c (packet_of kind target) start) crossed w.end × Names w.path crossed

-- Demand 2: "For every picture that reads, what each port claims, how a configuration request is converted and where each packet ends
-- are as the FPB and ARI change notices say .. with every port crossed named in order": each claim and each conversion is the
-- definition's, and so is the walk. 02, Item 3: "The claim answer must name all decoders that claim the target, not yes or no.
-- Everything that asked yes or no now means "at least one"."
pub record Demand2 (s : List ℕ) : Type 0 where
  pub claims : (h : Header) → reading s ≡ Ok h → (port kind target : ℕ) → claim_asked_wrongly h.count port kind target ≡ false
      → claim_answer s port kind target ≡ Ok (hold_of (chassis_of s) (target_asked kind target) port)
  pub joined : (port : ℕ) (t : Target) → (chassis_of s).claims port t ≡ at_least_one ((chassis_of s).decoders port t)
  pub held : (port : ℕ) (t : Target) → holds (chassis_of s) t port ≡ is_held (hold_of (chassis_of s) t port)
  pub converts : (h : Header) → reading s ≡ Ok h → (port target : ℕ) → convert_asked_wrongly h.count port target ≡ false
      → convert_answer s port target ≡ Ok ((chassis_of s).conversion port (Id (record { 0 = target })))
  pub walks : WalksIn (chassis_of s) (WalkGives s)

-- the same of a picture and a patch: the picture with the vectors put in reads, its registers are the picture's, and each of its
-- vectors is the part handed out; demand 2 holds of it, and the walk is the one in it
pub record Trial2 (s patch : List ℕ) : Type 0 where
  pub reads : (h : Header) → reading_with s patch ≡ Ok h → reading (patched s patch) ≡ Ok h
  pub registers : (h : Header) → reading_with s patch ≡ Ok h → (port : ℕ) → port < h.count → port_at (patched s patch) port ≡ port_at s port
  pub lies : (h : Header) → reading_with s patch ≡ Ok h → (port : ℕ) → port < h.count → (m : Mechanism)
      → trial_part s patch port m ≡ Ok (place_of s patch port m)
  pub vectors : (h : Header) → reading_with s patch ≡ Ok h → (port : ℕ) → port < h.count → (m : Mechanism)
      → vector_of (patched s patch) port m ≡ part_at (place_of s patch port m) s patch
  pub picture : Demand2 (patched s patch)
  pub walks : WalksIn (chassis_of (patched s patch)) (TrialGives s patch)

-- Demand 3: "For any picture that passes the check and any ID or address: from the host and from every device port it comes to the same
-- end, in at most 32 crossings, and no place on the way has two holders" (but a device port that itself claims the target refuses
-- its own device). 02, Item 8: "Demand 3 holds with the new paths, 32 crossings still."
abbrev pub PassesFor : Result Verdict Refusal → Chassis → Type 0
PassesFor a c = check_number a ≡ 0 → (t : Target) → InRange t → OneEnd c t

abbrev pub Demand3 : List ℕ → Type 0
Demand3 s = PassesFor (check_answer s) (chassis_of s)

abbrev pub Trial3 : List ℕ → List ℕ → Type 0
Trial3 s patch = PassesFor (trial_check s patch) (chassis_of (patched s patch))

-- some ID or address has two sibling holders, or some port claims its own ID
pub record Overlap (c : Chassis) : Type 0 where
  pub target : Target
  pub in_range : InRange target
  pub clashing : Clashing c target

-- Its other half: "a picture that reads fails for overlap exactly if some ID or address has two sibling holders, or some port claims
-- its own ID; the least such target is shown, with its ports"
pub record FailsExactly (got : Result Header Refusal) (a : Result Verdict Refusal) (c : Chassis) : Type 0 where
  pub exactly : (h : Header) → got ≡ Ok h → ((check_number a ≡ 11) ⊎ (check_number a ≡ 12)) ↔ Overlap c
  pub shown : (v : Verdict) → a ≡ Ok v → Says c v

abbrev pub OverlapExactly : List ℕ → Type 0
OverlapExactly s = FailsExactly (reading s) (check_answer s) (chassis_of s)

abbrev pub TrialOverlap : List ℕ → List ℕ → Type 0
TrialOverlap s patch = FailsExactly (reading_with s patch) (trial_check s patch) (chassis_of (patched s patch))

-- 02, Item 7: "for every picture that passes, a configuration request from the host for any port's own ID must end at that port's
-- Function": the walk call's answer, of which there is one (demand 2), to packet kind 2 from start 255. What is lent are bytes.
abbrev pub Bytes : List ℕ → Type 0
Bytes s = (i : ℕ) → get_or s i 0 < 2 ^ 8

abbrev pub FindsEach : Result Verdict Refusal → Chassis → (ℕ → ℕ → ℕ → Result Walked Refusal → Type 0) → Type 0
FindsEach a c Gives =
    check_number a ≡ 0 → (p : ℕ) → p < c.tree.count
    → (w : Walked) × Gives 2 255 (c.own_id p) (Ok w) × (w.end ≡ Function (port_no p))

abbrev pub EveryPortFound : List ℕ → Type 0
EveryPortFound s = Bytes s → FindsEach (check_answer s) (chassis_of s) (WalkGives s)

abbrev pub TrialEveryPortFound : List ℕ → List ℕ → Type 0
TrialEveryPortFound s patch = Bytes s → FindsEach (trial_check s patch) (chassis_of (patched s patch)) (TrialGives s patch)
