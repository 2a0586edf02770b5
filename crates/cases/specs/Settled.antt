-- 01, "Settled examples": C1 to C12 as one list of what the definitions say of them.
mod Words
use Words.*

-- the entry that applies, and that none does
abbrev pub is_entry : ℕ → Option ℕ → Bool
is_entry i (Some j) = eqb i j
is_entry i None = false

abbrev pub no_entry : Option ℕ → Bool
no_entry (Some i) = false
no_entry None = true

-- what a port answers
abbrev pub word_of : Conversion → ℕ
word_of NotClaimed = 0
word_of Type0 = 1
word_of Type1 = 2
word_of Unsupported = 3

abbrev pub is_conversion : Conversion → Result Conversion Refusal → Bool
is_conversion wanted (Ok given) = eqb (word_of wanted) (word_of given)
is_conversion wanted (Err r) = false

-- registers with all vectors of 256 entries: RID, Low and High control, and the second High control
abbrev pub fpb_of : ℕ → ℕ → ℕ → ℕ → Fpb
fpb_of rid low high high2 =
    record {
      capabilities = 0;
      rid_control_1 = rid;
      rid_control_2 = 0;
      mem_low_control = low;
      mem_high_control_1 = high;
      mem_high_control_2 = high2;
    }

abbrev pub memory_of : ℕ → ℕ → Bridge
memory_of base limit =
    record {
      command = 2;
      secondary = 0;
      subordinate = 0;
      memory_base = base;
      memory_limit = limit;
      prefetchable_base = 0;
      prefetchable_limit = 0;
      prefetchable_base_upper = 0;
      prefetchable_limit_upper = 0;
      bridge_control = 0;
    }

-- an enabled control register, by its start field from bit `low` on and its granularity code
abbrev pub control_of : ℕ → ℕ → ℕ → ℕ
control_of low start granularity = start * 2 ^ low + granularity * 2 ^ 4 + 1

abbrev pub rid_entry : ℕ → ℕ → ℕ → Option ℕ
rid_entry start granularity rid = entry_of (settings_of (fpb_of (control_of 19 start granularity) 0 0 0) Rid) rid

abbrev pub low_fpb : Fpb
low_fpb = fpb_of 0 (control_of 20 2048 4) 0 0

-- a Low vector of 256 entries, all set
abbrev pub all_set : List ℕ
all_set =
    255 ∷ 255 ∷ 255 ∷ 255 ∷ 255 ∷ 255 ∷ 255 ∷ 255 ∷ 255 ∷ 255 ∷ 255 ∷ 255 ∷ 255 ∷ 255 ∷ 255 ∷ 255
    ∷ 255 ∷ 255 ∷ 255 ∷ 255 ∷ 255 ∷ 255 ∷ 255 ∷ 255 ∷ 255 ∷ 255 ∷ 255 ∷ 255 ∷ 255 ∷ 255 ∷ 255 ∷ 255 ∷ []

-- "C1 start 0, 256 entries of 8: ID 2,047 is entry 255."
unfoldable pub c1 : Bool
c1 = is_entry 255 (rid_entry 0 0 2047)

-- "C2 there, 2,048 has no entry."
unfoldable pub c2 : Bool
c2 = no_entry (rid_entry 0 0 2048)

-- "C3 start field 32, granularity 3: ID 255 is below."
unfoldable pub c3 : Bool
c3 = no_entry (rid_entry 32 3 255)

-- "C4 319 is entry 0, 320 entry 1."
unfoldable pub c4 : Bool
c4 = is_entry 0 (rid_entry 32 3 319) && is_entry 1 (rid_entry 32 3 320)

-- "C5 Low start 800h, granularity 4: FFFFFFFFh is entry 127."
unfoldable pub c5 : Bool
c5 = is_entry 127 (entry_of (settings_of low_fpb Low) 0xFFFFFFFF)

-- "C6 100000000h is never Low", also where the entry that would apply is set
unfoldable pub c6 : Bool
c6 = hits all_set (settings_of low_fpb Low) 0x100000000 && not (low_claims low_fpb all_set 0x100000000)

-- "C7 High start 4 GiB, granularity 0: 110000000h is entry 1."
unfoldable pub c7 : Bool
c7 = is_entry 1 (entry_of (settings_of (fpb_of 0 0 1 1) High) 0x110000000)

-- "C8 Base E010h, Limit E000h: nothing", not what lies at either, or between them
unfoldable pub c8 : Bool
c8 =
    not (memory_claims (memory_of 0xE010 0xE000) 0xE0000000)
    && not (memory_claims (memory_of 0xE010 0xE000) 0xE00FFFFF)
    && not (memory_claims (memory_of 0xE010 0xE000) 0xE0100000)
    && not (memory_claims (memory_of 0xE010 0xE000) 0xE01FFFFF)

-- "C9 Base and Limit 0: the first MiB."
unfoldable pub c9 : Bool
c9 =
    memory_claims (memory_of 0 0) 0
    && memory_claims (memory_of 0 0) 0xFFFFF
    && not (memory_claims (memory_of 0 0) 0x100000)

-- "C10 downstream, buses 3..5, no ARI: 0308h is Unsupported Request."
unfoldable pub c10 : Bool
c10 = is_conversion Unsupported (convert_answer (chain_with 0) 2 0x308)

-- "C11 with ARI: Type 0, Function 8."
unfoldable pub c11 : Bool
c11 =
    is_conversion Type0 (convert_answer (chain_with 32) 2 0x308)
    && eqb (function_number (chassis_of (chain_with 32)) 2 (Id (record { 0 = 0x308 }))) 8

-- "C12 0400h passes as Type 1."
unfoldable pub c12 : Bool
c12 = is_conversion Type1 (convert_answer (chain_with 0) 2 0x400)

abbrev pub settled : List Bool
settled = c1 ∷ c2 ∷ c3 ∷ c4 ∷ c5 ∷ c6 ∷ c7 ∷ c8 ∷ c9 ∷ c10 ∷ c11 ∷ c12 ∷ []

abbrev pub all : List Bool → Bool
all [] = true
all (b ∷ bs) = b && all bs
