-- 01, "Numbers given back": "40 bytes are written and the rest kept: number, end, port, second port, crossings, Function number, two
-- zeros, path."
use Rattle.std.specs.Prelude.{ℕ, ◌/◌, ◌%◌, ◌^◌, List, [], ◌∷◌, ◌++◌, map, replicate}
use Rattle.ids.specs.declared.PortNo.{PortNo}
use Rattle.answers.specs.declared.Head.{Head}

unfoldable pub head_bytes : Head → List ℕ
head_bytes h = h.number ∷ h.end ∷ h.port.0 ∷ h.second.0 ∷ h.crossings ∷ h.function ∷ 0 ∷ 0 ∷ []

unfoldable pub answer_bytes : Head → List ℕ → List ℕ
answer_bytes h places = head_bytes h ++ places

-- "unused places and ports are 255"
unfoldable pub no_places : List ℕ
no_places = replicate 32 255

unfoldable pub path_places : List PortNo → List ℕ
path_places places = map (λ (p : PortNo). p.0) places

-- "for 11 to 14, its least target little-endian in the first 8 places of the path"
unfoldable pub target_places : ℕ → List ℕ
target_places t =
    (t % 2 ^ 8 ∷ t / 2 ^ 8 % 2 ^ 8 ∷ t / 2 ^ 16 % 2 ^ 8 ∷ t / 2 ^ 24 % 2 ^ 8 ∷ t / 2 ^ 32 % 2 ^ 8 ∷ t / 2 ^ 40 % 2 ^ 8
    ∷ t / 2 ^ 48 % 2 ^ 8 ∷ t / 2 ^ 56 % 2 ^ 8 ∷ [])
    ++ replicate 24 255
