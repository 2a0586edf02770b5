-- Words, numbers and texts as bytes.
use Rattle.std.specs.Prelude.{ℕ, zero, suc, ◌+◌, ◌-◌, ◌/◌, ◌%◌, cond, List, [], ◌∷◌, ◌++◌, ltb, length, replicate, set, take}
use Prim.Native.Char.{code}
use Prim.Native.String.{String, [] as []ₛ, ◌∷◌ as ◌∷ₛ◌}
use Rattle.io.specs.Digits.{hex_digit_ascii}
use Rattle.texts.specs.declared.Text.{Text}

-- the bytes of a word
unfoldable pub ascii : String → List ℕ
ascii []ₛ = []
ascii (c ∷ₛ s) = code c ∷ ascii s

-- "decimal number": the last digit, behind those of a tenth where there are more; of at most this many digits
unfoldable pub digits_up_to : ℕ → ℕ → List ℕ
digits_up_to zero n = []
digits_up_to (suc k) n = cond (ltb n 10) [] (digits_up_to k (n / 10)) ++ (hex_digit_ascii (n % 10) ∷ [])

-- a u64 has at most 20 digits
unfoldable pub decimal : ℕ → List ℕ
decimal n = digits_up_to 20 n

-- the text of these bytes: as many as fit, then zeros
unfoldable pub text_of : List ℕ → Text
text_of bytes = record { bytes = take 192 bytes ++ replicate (192 - length bytes) 0; length = length (take 192 bytes) }

-- a text with a byte behind it, where there is room
unfoldable pub with_byte : Text → ℕ → Text
with_byte text b =
    cond (ltb text.length 192)
    (record { bytes = set text.bytes text.length b; length = text.length + 1 })
    text

-- a text with these bytes behind it
unfoldable pub appended : Text → List ℕ → Text
appended text [] = text
appended text (b ∷ more) = appended (with_byte text b) more
