-- 02, Item 2: "A patch is refused, after 10 and before 11, by 30 .., 31 .., 32 ..", each looked for over the whole patch before the next.
use Rattle.std.specs.Prelude.{ℕ, List, Result, Ok, Err}
use Rattle.picture.specs.Reading.{refused_if, reading}
use Rattle.patches.specs.Patch.{header_misfits, ports_misplaced, vectors_misplaced}
use Rattle.picture.specs.declared.Header.{Header}
use Rattle.picture.specs.declared.refusals.Refusal.{Refusal}
use Rattle.picture.specs.declared.refusals.Refusal.TheVariants.{PatchHeader, PatchPorts, PatchVectors}

-- the reading of the picture, and of the patch where the picture reads
unfoldable pub patch_reading : Result Header Refusal → List ℕ → List ℕ → Result Header Refusal
patch_reading (Err r) s patch = Err r
patch_reading (Ok h) s patch =
    refused_if (header_misfits patch) PatchHeader
    (refused_if (ports_misplaced h.count patch) PatchPorts
    (refused_if (vectors_misplaced s patch) PatchVectors
    (Ok h)))

abbrev pub reading_with : List ℕ → List ℕ → Result Header Refusal
reading_with s patch = patch_reading (reading s) s patch
