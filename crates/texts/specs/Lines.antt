-- 01, "Numbers given back": "The program reads a picture from standard input and prints two lines, `ports N` and `clear`; on any
-- refusal it prints only one line, `refused K`, followed where named by ` id ` or ` addr ` and lower-case hexadecimal digits
-- (4 or 16), and ` ports` with each decimal number after a space." The lines of a walk are of docs/DECISIONS.md.
mod Words
use Words.*

-- a "decimal number after a space"
unfoldable pub spaced : ℕ → List ℕ
spaced n = ascii " " ++ decimal n

-- "each decimal number after a space"
unfoldable pub each_spaced : List PortNo → List ℕ
each_spaced [] = []
each_spaced (p ∷ ports) = spaced p.0 ++ each_spaced ports

-- "where named by ` id ` or ` addr ` and lower-case hexadecimal digits (4 or 16)"
unfoldable pub target_words : Option Target → List ℕ
target_words None = []
target_words (Some (Id rid)) = ascii " id " ++ digits 16 4 rid.0
target_words (Some (Addr a)) = ascii " addr " ++ digits 16 16 a

-- 02, Item 3: "after each port number, ` by` and those of ` own bus rid mem pref low high` that apply"; Item 4: "(` vga`, last)"
unfoldable pub decoder_words : Decoders → List ℕ
decoder_words d =
    cond d.bus (ascii " bus") []
    ++ cond d.rid (ascii " rid") []
    ++ cond d.mem (ascii " mem") []
    ++ cond d.pref (ascii " pref") []
    ++ cond d.low (ascii " low") []
    ++ cond d.high (ascii " high") []
    ++ cond d.vga (ascii " vga") []

unfoldable pub hold_words : Hold → List ℕ
hold_words h = spaced h.port.0 ++ ascii " by" ++ cond h.own (ascii " own") [] ++ decoder_words h.decoders

-- "and ` ports` with each decimal number after a space"
unfoldable pub ports_words : Named → List ℕ
ports_words NoPort = []
ports_words (Port p) = ascii " ports" ++ spaced p.0
ports_words (Holder h) = ascii " ports" ++ hold_words h
ports_words (Pair h k) = ascii " ports" ++ hold_words h ++ hold_words k

-- a port that holds a target: `port 2 by bus`
unfoldable pub holder_line : Hold → List ℕ
holder_line h = ascii "port" ++ hold_words h

-- "`refused K`, followed where named by .."
unfoldable pub refused_line : Finding → List ℕ
refused_line f = ascii "refused" ++ spaced f.number ++ target_words f.target ++ ports_words f.ports

-- "two lines, `ports N` and `clear`", with this byte between them; "on any refusal .. only one line"
unfoldable pub report_lines : ℕ → Finding → ℕ → List ℕ
report_lines count f end =
    cond (eqb f.number 0)
    (ascii "ports" ++ spaced count ++ (end ∷ []) ++ ascii "clear")
    (refused_line f)

-- where a packet ends, with ` function N` for a configuration request alone
unfoldable pub end_line : Bool → End → List ℕ
end_line config (Device p function) = ascii "end device port" ++ spaced p.0 ++ cond config (ascii " function" ++ spaced function) []
end_line config (Function p) = ascii "end function port" ++ spaced p.0
end_line config Host = ascii "end host"
end_line config (Unsupported p) = ascii "end unsupported port" ++ spaced p.0
end_line config (Doubled p q) = ascii "end doubled ports" ++ each_spaced (p ∷ q ∷ [])

-- the end, and on a second line `path` with each port crossed after a space
unfoldable pub walk_lines : Bool → End → Path → List ℕ
walk_lines config end path = end_line config end ++ (10 ∷ ascii "path") ++ each_spaced (take path.count path.places)
