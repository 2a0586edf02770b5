-- What the claim call and the conversion call write for C: their bits and codes are of docs/DECISIONS.md, "Calls". A refusal writes
-- nothing.
use Rattle.std.specs.Prelude.{ℕ, ◌+◌, Bool, cond, Result, Ok, Err}
use Rattle.chassis.specs.declared.Conversion.{Conversion}
use Rattle.chassis.specs.declared.Conversion.TheVariants.{NotClaimed, Type0, Type1, Unsupported}
use Rattle.chassis.specs.declared.Decoders.{Decoders}
use Rattle.chassis.specs.declared.Hold.{Hold}
use Rattle.picture.specs.declared.refusals.Refusal.{Refusal}

-- the decoders by their bits, from bit 0 on: bus, rid, mem, pref, low, high, vga
abbrev pub bit_of : Bool → ℕ → ℕ
bit_of claims weight = cond claims weight 0

unfoldable pub decoder_bits : Decoders → ℕ
decoder_bits d =
    bit_of d.bus 1 + bit_of d.rid 2 + bit_of d.mem 4 + bit_of d.pref 8 + bit_of d.low 16 + bit_of d.high 32 + bit_of d.vga 64

abbrev pub claim_writes : Result Hold Refusal → ℕ → ℕ
claim_writes (Err r) before = before
claim_writes (Ok h) before = decoder_bits h.decoders

-- 0 not claimed, 1 Type 0, 2 Type 1, 3 Unsupported Request
abbrev pub conversion_code : Conversion → ℕ
conversion_code NotClaimed = 0
conversion_code Type0 = 1
conversion_code Type1 = 2
conversion_code Unsupported = 3

abbrev pub convert_writes : Result Conversion Refusal → ℕ → ℕ
convert_writes (Err r) before = before
convert_writes (Ok decided) before = conversion_code decided
