-- The chassis of a picture and a patch, as the code comes to it: each vector is the part handed out.
use Rattle.std.specs.Prelude.{ℕ, List}
use Rattle.chassis.specs.Chassis.{Chassis}
use Rattle.patches.specs.Halves.{vector_over}
use Rattle.patches.specs.declared.PatchedPicture.{PatchedPicture}
use Rattle.claims.specs.Claims.{chassis_with}

abbrev pub chassis_over : List ℕ → List ℕ → Chassis
chassis_over s patch = chassis_with s (vector_over s patch)

abbrev pub chassis_in : PatchedPicture → Chassis
chassis_in over = chassis_over over.picture.bytes.now over.patch.now
