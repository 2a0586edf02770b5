-- What is claimed beside the video range. The search for the least target runs over that: of the addresses all of it is whole MiB.
use Rattle.std.specs.Prelude.{ℕ, Bool, ◌||◌, List}
use Rattle.chassis.specs.declared.Decoders.{Decoders}
use Rattle.chassis.specs.Chassis.{Chassis}
use Rattle.patches.specs.declared.PatchedPicture.{PatchedPicture}
use Rattle.claims.specs.Over.{chassis_over, chassis_in}

-- at least one decoder but vga; with vga it is `at_least_one` (proofs/Joined)
unfoldable pub beside_video : Decoders → Bool
beside_video d = d.bus || d.rid || d.mem || d.pref || d.low || d.high

-- the chassis in which no port claims the video range as such; the search asks for claims, and the decoders stay
abbrev pub without_video : Chassis → Chassis
without_video c =
    record {
      tree = c.tree;
      own_id = c.own_id;
      ari = c.ari;
      redirect = c.redirect;
      decoders = c.decoders;
      claims = λ p t. beside_video (c.decoders p t);
      conversion = c.conversion;
    }

-- where the video range begins
abbrev pub video_first : ℕ
video_first = 0xA0000

abbrev pub chassis_beside : List ℕ → List ℕ → Chassis
chassis_beside s patch = without_video (chassis_over s patch)

abbrev pub beside_in : PatchedPicture → Chassis
beside_in over = without_video (chassis_in over)
