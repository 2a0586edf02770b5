-- Lines as they are read on the screen. Assumes nothing.
use mathlib.Core.Bool.{true, false}
use mathlib.Core.List.{[], ◌∷◌}
use mathlib.Core.Path.{◌≡◌, refl}
use Rattle.ids.specs.Ids.{port_no}
use Rattle.ids.specs.declared.Target.TheVariants.{Id}
use Rattle.chassis.specs.declared.Decoders.{Decoders}
use Rattle.chassis.specs.declared.Named.TheVariants.{NoPort, Port, Pair}
use Rattle.chassis.specs.declared.End.TheVariants.{Device}
use Rattle.paths.specs.Paths.{path_of}
use Rattle.texts.specs.Texts.{ascii, digits_up_to, decimal}
use Rattle.std.specs.Prelude.{Some, None}
use Rattle.texts.specs.Lines.{
  spaced,
  each_spaced,
  target_words,
  decoder_words,
  hold_words,
  ports_words,
  holder_line,
  refused_line,
  report_lines,
  end_line,
  walk_lines,
}

word : ascii "refused " ≡ 114 ∷ 101 ∷ 102 ∷ 117 ∷ 115 ∷ 101 ∷ 100 ∷ 32 ∷ []
unfolding ascii
word = refl

numbers : (decimal 0 ≡ ascii "0") × (decimal 10 ≡ ascii "10") × (decimal 18446744073709551615 ≡ ascii "18446744073709551615")
unfolding ascii decimal digits_up_to
numbers = (refl, refl, refl)

by_bus : Decoders
by_bus = record { bus = true; rid = false; mem = false; pref = false; low = false; high = false; vga = false }

by_rid : Decoders
by_rid = record { bus = false; rid = true; mem = false; pref = false; low = false; high = false; vga = false }

by_all : Decoders
by_all = record { bus = true; rid = true; mem = true; pref = true; low = true; high = true; vga = true }

pair : refused_line
    (record {
      number = 11;
      target = Some (Id (record { 0 = 0x0300 }));
      ports = Pair (record { port = port_no 2; own = false; decoders = by_bus }) (record { port = port_no 13; own = true; decoders = by_rid });
    })
    ≡ ascii "refused 11 id 0300 ports 2 by bus 13 by own rid"
unfolding by_bus by_rid refused_line target_words ports_words hold_words decoder_words spaced ascii decimal digits_up_to
pair = refl

every_word : holder_line (record { port = port_no 0; own = true; decoders = by_all }) ≡ ascii "port 0 by own bus rid mem pref low high vga"
unfolding by_all holder_line hold_words decoder_words spaced ascii decimal digits_up_to
every_word = refl

lost : refused_line (record { number = 15; target = None; ports = Port (port_no 3) }) ≡ ascii "refused 15 ports 3"
unfolding refused_line target_words ports_words spaced ascii decimal digits_up_to
lost = refl

clear : report_lines 1 (record { number = 0; target = None; ports = NoPort }) 10 ≡ ascii "ports 1\nclear"
unfolding report_lines spaced ascii decimal digits_up_to
clear = refl

walk : walk_lines true (Device (port_no 5) 3) (path_of (port_no 0 ∷ port_no 2 ∷ port_no 5 ∷ []))
    ≡ ascii "end device port 5 function 3\npath 0 2 5"
unfolding walk_lines end_line each_spaced spaced ascii decimal digits_up_to path_of
walk = refl
