-- 01, "Numbers given back": numbers 1 to 10. "Lowest number wins, then the lowest port."
mod Words
use Words.*

-- what a port must not do
unfoldable pub breaks : Rule → List ℕ → ℕ → Bool
breaks Tree s p = tree_broken (tree_of s) p
breaks Chain s p = chain_too_long (tree_of s) p
breaks Settings s p = settings_wrong (port_at s p)
breaks Start s p = start_wrong (port_at s p)

abbrev pub refused_if : Bool → Refusal → Result Header Refusal → Result Header Refusal
refused_if wrong refusal rest = cond wrong (Err refusal) rest

-- a refusal that names the port found
abbrev pub refused_at : Option ℕ → (PortNo → Refusal) → Result Header Refusal → Result Header Refusal
refused_at (Some p) refusal rest = Err (refusal (port_no p))
refused_at None refusal rest = rest

-- number 10 and the port that it names: "port, 255 for the end"
unfoldable pub misplaced_in : List ℕ → Option ℕ
misplaced_in s = or_else (first_in (place_wrong s) 0 (count_of s)) (cond (end_wrong s) (Some 255) None)

-- numbers 6 to 10
unfoldable pub ports_reading : List ℕ → Result Header Refusal
ports_reading s =
    refused_at (first_in (breaks Tree s) 0 (count_of s)) (Breaks Tree)
    (refused_at (first_in (breaks Chain s) 0 (count_of s)) (Breaks Chain)
    (refused_at (first_in (breaks Settings s) 0 (count_of s)) (Breaks Settings)
    (refused_at (first_in (breaks Start s) 0 (count_of s)) (Breaks Start)
    (refused_at (misplaced_in s) Misplaced
    (Ok (header_of s))))))

-- numbers 1 to 5, then those of the ports
unfoldable pub reading : List ℕ → Result Header Refusal
reading s =
    refused_if (length_wrong s) Length
    (refused_if (edition_wrong (header_of s)) Edition
    (refused_if (count_wrong (header_of s)) Count
    (refused_if (total_wrong (length s) (header_of s)) Total
    (refused_if (offset_wrong (length s) (header_of s)) Offset
    (ports_reading s)))))

-- the number of a reading's answer, 0 where it reads
abbrev pub number_of : Result Header Refusal → ℕ
number_of (Ok h) = 0
number_of (Err r) = refusal_number r
