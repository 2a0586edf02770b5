-- The chassis of a picture and a patch: without a patch it is the picture's, and with one its ports are those of the picture with the
-- patch's vectors put in.
-- Assumes nothing.
use Prim.Native.Nat.{ℕ, ◌<◌}
use mathlib.Core.List.{List, []}
use mathlib.Core.Path.{◌≡◌, refl, sym, ap}
use Rattle.chassis.proofs.Alike.{Alike}
use Rattle.chassis.proofs.AlikeTrees.{Agree}
use Rattle.registers.specs.declared.Port.{Port}
use Rattle.registers.specs.Record.{port_at}
use Rattle.registers.specs.Rules.{with_ari, with_redirect}
use Rattle.trees.specs.Trees.{count_of}
use Rattle.picture.specs.declared.Header.{Header}
use Rattle.picture.specs.Layout.{vector_of}
use Rattle.patches.specs.Halves.{vector_over}
use Rattle.patches.specs.Patched.{patched}
use Rattle.patches.proofs.Accepted.{Accepted}
use Rattle.patches.proofs.PatchedReads.{port_patched, trees_patched, vector_patched}
use Rattle.patches.proofs.Sought.{own_vector}
use Rattle.claims.specs.Claims.{chassis_with, chassis_of}
use Rattle.claims.specs.Conversion.{converted_target}
use Rattle.claims.specs.Decoders.{decoders_of, claims_target}
use Rattle.claims.specs.Over.{chassis_over}

pub unpatched : (s none : List ℕ) → none ≡ [] → chassis_over s none ≡ chassis_of s
unpatched s none e = rw e (ap (chassis_with s) (λ i p m. sym (own_vector s [] p m refl) i))

module _ (s patch : List ℕ) (h : Header) (a : Accepted s patch h) where
  abbrev s' : List ℕ
  s' = patched s patch

  module _ (p : ℕ) (l : p < count_of s) where
    same_port : port_at s p ≡ port_at s' p
    same_port = sym (port_patched s patch h a p l)

    same_vectors : vector_over s patch p ≡ vector_of s' p
    same_vectors = λ i m. sym (vector_patched s patch h a p l m) i

  pub alike_patched : Alike (chassis_over s patch) (chassis_of s')
  alike_patched =
      record {
        trees = trees_patched s patch h a;
        own_id = λ p l. ap (λ (x : Port). x.own_id.0) (same_port p l);
        ari = λ p l. ap with_ari (same_port p l);
        decoders = λ p l t i. decoders_of (same_port p l i) (same_vectors p l i) t;
        claims = λ p l t i. claims_target (same_port p l i) (same_vectors p l i) t;
        conversion = λ p l t i. converted_target (same_port p l i) (same_vectors p l i) t;
      }

  -- and the same ports redirect
  pub redirect_patched : Agree (count_of s) (chassis_over s patch).redirect (chassis_of s').redirect
  redirect_patched p l = ap with_redirect (same_port p l)
