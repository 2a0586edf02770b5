-- 01, "The picture": "Header of 16: edition (2 bytes, 1), port count n (2, 1 to 64), total length (4), offset of records (4, 16),
-- offset of vectors (4, 16 + 56n)." Numbers 1 to 5. 02, Item 8: "Offsets and the shortest length follow the record size".
use Rattle.std.specs.Prelude.{ℕ, Bool, not, ◌||◌, List, length, eqb, ltb}
use Rattle.lent.specs.Lent.{u16_at, u32_at}
use Rattle.registers.specs.Record.{edition_of, record_at, record_in}
use Rattle.picture.specs.declared.Header.{Header}

unfoldable pub header_of : List ℕ → Header
header_of s =
    record {
      edition = edition_of s;
      count = u16_at s 2;
      total = u32_at s 4;
      records_at = u32_at s 8;
      vectors_at = u32_at s 12;
    }

-- 1: "length under 72 or over 65,536"; 02, Item 8: "76 for one port" in edition 2
unfoldable pub length_wrong : List ℕ → Bool
length_wrong s = ltb (length s) (record_in s 1) || ltb 65536 (length s)

-- 2: "edition not 1"; 02, Item 8: "number 2 now means neither edition"
unfoldable pub edition_wrong : Header → Bool
edition_wrong h = not (eqb h.edition 1 || eqb h.edition 2)

-- 3: "count 0 or over 64"
unfoldable pub count_wrong : Header → Bool
count_wrong h = eqb h.count 0 || ltb 64 h.count

-- 4: "total length not the lent length"
unfoldable pub total_wrong : ℕ → Header → Bool
total_wrong lent h = not (eqb h.total lent)

-- 5: "an offset not as above, or records past the end"
unfoldable pub offset_wrong : ℕ → Header → Bool
offset_wrong lent h =
    not (eqb h.records_at 16)
    || not (eqb h.vectors_at (record_at h.edition h.count))
    || ltb lent (record_at h.edition h.count)
