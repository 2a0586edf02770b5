-- 02, Item 2: "the picture with those vectors put in".
use Rattle.std.specs.Prelude.{ℕ, zero, suc, ◌+◌, List, ◌++◌, length, take, drop}
use Rattle.registers.specs.Record.{port_at}
use Rattle.picture.specs.Layout.{all_bytes}
use Rattle.patches.specs.Patch.{ports_in, port_in, offset_at}

-- bytes put in from `at` on, in the place of as many others
unfoldable pub put_in : List ℕ → ℕ → List ℕ → List ℕ
put_in s at new = take at s ++ new ++ drop (at + length new) s

-- "a whole new set of vectors" of the port of row i
unfoldable pub new_vectors : List ℕ → List ℕ → ℕ → List ℕ
new_vectors s patch i = take (all_bytes (port_at s (port_in patch i)).fpb) (drop (offset_at patch i) patch)

-- the vectors of the first k rows put in, each set where the port's vectors are
unfoldable pub patched_to : List ℕ → List ℕ → ℕ → List ℕ
patched_to s patch zero = s
patched_to s patch (suc i) = put_in (patched_to s patch i) (port_at s (port_in patch i)).vectors_at (new_vectors s patch i)

abbrev pub patched : List ℕ → List ℕ → List ℕ
patched s patch = patched_to s patch (ports_in patch)
