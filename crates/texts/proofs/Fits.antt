-- Nothing is cut off: every line fits the 192 bytes of a text with a line end behind it, where ports and numbers are bytes and a
-- path has at most 32 crossings. Assumes nothing.
use Prim.Native.Nat.{ℕ, zero, suc, ◌*◌, ◌/◌, ◌%◌, ◌^◌, ◌≤◌, ◌<◌}
use mathlib.Core.Bool.{Bool, true, false, cond}
use mathlib.Core.List.{List, [], ◌∷◌, ◌++◌}
use mathlib.Core.Path.{◌≡◌}
use native.Mathlib.Nat.{pow-succ'}
use native.Mathlib.Omega.{arith}
use borrow.Author.Tests.{lt-ltb}
use lib.Dec.{ltb, eqb}
use lib.ListN.{length, take, length-append, length-take}
use lib.Seq.{take_all, take-append_seam}
use Rattle.ids.specs.declared.PortNo.{PortNo}
use Rattle.ids.specs.declared.Target.TheVariants.{Id, Addr}
use Rattle.chassis.specs.declared.Finding.{Finding}
use Rattle.chassis.specs.declared.Decoders.{Decoders}
use Rattle.chassis.specs.declared.Hold.{Hold}
use Rattle.chassis.specs.declared.Named.{Named}
use Rattle.chassis.specs.declared.Named.TheVariants.{NoPort, Port, Holder, Pair}
use Rattle.chassis.specs.declared.End.{End}
use Rattle.chassis.specs.declared.End.TheVariants.{Device, Function, Host, Unsupported, Doubled}
use Rattle.paths.specs.declared.Path.{Path}
use Rattle.io.specs.Digits.{hex_digit_ascii}
use Rattle.texts.specs.Texts.{ascii, digits_up_to, decimal, text_of}
use Rattle.std.specs.Prelude.{Option, Some, None}
use Rattle.ids.specs.declared.Target.{Target}
use Rattle.texts.specs.Lines.{
  spaced,
  each_spaced,
  target_words,
  decoder_words,
  hold_words,
  ports_words,
  holder_line,
  refused_line,
  report_lines,
  end_line,
  walk_lines,
}

-- ports whose numbers are bytes
abbrev pub Bytes : List PortNo → Type 0
Bytes [] = Unit {0}
Bytes (p ∷ ports) = (p.0 < 256) × Bytes ports

abbrev pub named : Named → List PortNo
named NoPort = []
named (Port p) = p ∷ []
named (Holder h) = h.port ∷ []
named (Pair h k) = h.port ∷ k.port ∷ []

abbrev pub EndBytes : End → Type 0
EndBytes (Device p function) = Bytes (p ∷ []) × (function < 256)
EndBytes (Function p) = Bytes (p ∷ [])
EndBytes Host = Unit {0}
EndBytes (Unsupported p) = Bytes (p ∷ [])
EndBytes (Doubled p q) = Bytes (p ∷ q ∷ [])

-- a number below a power of ten has as many digits
digit_more : (none : Bool) (front : List ℕ) (d k : ℕ) → length front ≤ k → length (cond none [] front ++ (d ∷ [])) ≤ suc k
digit_more true front d k short = omega arith
digit_more false front d k short = rw length-append (omega arith)

digits_short : (f k n : ℕ) → n < 10 ^ suc k → length (digits_up_to f n) ≤ suc k
unfolding digits_up_to
digits_short zero k n l = omega arith
digits_short (suc f) zero n l = rw (lt-ltb n 10 (omega arith)) (omega arith)
digits_short (suc f) (suc k) n l =
    digit_more (ltb n 10) (digits_up_to f (n / 10)) (hex_digit_ascii (n % 10)) (suc k) (digits_short f k (n / 10) (omega (arith, pow-succ' 10 (suc k))))

spaced_short : (k n : ℕ) → n < 10 ^ suc k → length (spaced n) ≤ suc (suc k)
unfolding spaced ascii decimal
spaced_short k n l = omega (arith, digits_short 20 k n l)

byte_short : (n : ℕ) → n < 256 → length (spaced n) ≤ 4
byte_short n l = spaced_short 2 n (omega arith)

each_short : (ports : List PortNo) → Bytes ports → length (each_spaced ports) ≤ 4 * length ports
unfolding each_spaced
each_short [] fit = omega arith
each_short (p ∷ ports) fit = rw length-append (omega (arith, byte_short p.0 fit.0, each_short ports fit.1))

target_short : (shown : Option Target) → length (target_words shown) ≤ 22
unfolding target_words ascii
target_short None = omega arith
target_short (Some (Id rid)) = omega arith
target_short (Some (Addr a)) = omega arith

-- a word that may apply is no longer than the word
word_short : (applies : Bool) (word : List ℕ) (k : ℕ) → length word ≤ k → length (cond applies word []) ≤ k
word_short true word k short = short
word_short false word k short = omega arith

decoders_short : (d : Decoders) → length (decoder_words d) ≤ 30
unfolding decoder_words ascii
decoders_short d =
    simp length-append
    (omega (
      arith,
      word_short d.bus (ascii " bus") 4 (omega arith),
      word_short d.rid (ascii " rid") 4 (omega arith),
      word_short d.mem (ascii " mem") 4 (omega arith),
      word_short d.pref (ascii " pref") 5 (omega arith),
      word_short d.low (ascii " low") 4 (omega arith),
      word_short d.high (ascii " high") 5 (omega arith),
      word_short d.vga (ascii " vga") 4 (omega arith),
    ))

hold_short : (h : Hold) → h.port.0 < 256 → length (hold_words h) ≤ 41
unfolding hold_words ascii
hold_short h fit =
    simp length-append
    (omega (arith, byte_short h.port.0 fit, word_short h.own (ascii " own") 4 (omega arith), decoders_short h.decoders))

ports_short : (ports : Named) → Bytes (named ports) → length (ports_words ports) ≤ 88
unfolding ports_words ascii
ports_short NoPort fit = omega arith
ports_short (Port p) fit = omega (arith, byte_short p.0 fit.0)
ports_short (Holder h) fit = omega (arith, hold_short h fit.0)
ports_short (Pair h k) fit = simp length-append (omega (arith, hold_short h fit.0, hold_short k fit.1.0))

pub holder_fits : (h : Hold) → h.port.0 < 256 → length (holder_line h) ≤ 191
unfolding holder_line ascii
holder_fits h fit = omega (arith, hold_short h fit)

pub refused_fits : (f : Finding) → f.number < 256 → Bytes (named f.ports) → length (refused_line f) ≤ 191
unfolding refused_line ascii
refused_fits f l fit =
    simp length-append (omega (arith, byte_short f.number l, target_short f.target, ports_short f.ports fit))

pub report_fits : (count : ℕ) (f : Finding) (end : ℕ) → count < 65536 → f.number < 256 → Bytes (named f.ports)
    → length (report_lines count f end) ≤ 191
unfolding report_lines ascii
report_fits count f end c l fit = go (eqb f.number 0)
  where
    go : (clear : Bool)
        → length (cond clear (ascii "ports" ++ spaced count ++ (end ∷ []) ++ ascii "clear") (refused_line f)) ≤ 191
    go true = simp length-append (omega (arith, spaced_short 4 count (omega arith)))
    go false = refused_fits f l fit

end_short : (config : Bool) (end : End) → EndBytes end → length (end_line config end) ≤ 32
unfolding end_line ascii
end_short true (Device p function) fit =
    simp length-append (omega (arith, byte_short p.0 fit.0.0, byte_short function fit.1))
end_short false (Device p function) fit = simp length-append (omega (arith, byte_short p.0 fit.0.0))
end_short config (Function p) fit = omega (arith, byte_short p.0 fit.0)
end_short config Host fit = omega arith
end_short config (Unsupported p) fit = omega (arith, byte_short p.0 fit.0)
end_short config (Doubled p q) fit = omega (arith, each_short (p ∷ q ∷ []) fit)

bytes_take : (n : ℕ) (ports : List PortNo) → Bytes ports → Bytes (take n ports)
bytes_take zero ports fit = tt
bytes_take (suc n) [] fit = tt
bytes_take (suc n) (p ∷ ports) fit = (fit.0, bytes_take n ports fit.1)

pub walk_fits : (config : Bool) (end : End) (path : Path) → EndBytes end → Bytes path.places → path.count ≤ 32
    → length (walk_lines config end path) ≤ 191
unfolding walk_lines ascii
walk_fits config end path last fit few =
    let crossed = take path.count path.places in
    simp length-append
    (omega (
      arith,
      end_short config end last,
      each_short crossed (bytes_take path.count path.places fit),
      length-take path.count path.places,
    ))

-- what is printed of a text, its first bytes, are then the lines
pub printed : (bytes : List ℕ) → length bytes ≤ 192 → take (text_of bytes).length (text_of bytes).bytes ≡ bytes
unfolding text_of
printed bytes fit = rw (take_all 192 bytes fit) (take-append_seam bytes _)
