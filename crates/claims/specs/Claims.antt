-- The chassis of a picture: its tree, and what its ports claim and convert by their registers and vectors.
use Rattle.std.specs.Prelude.{ℕ, List}
use Rattle.chassis.specs.Chassis.{Chassis}
use Rattle.registers.specs.declared.Mechanism.{Mechanism}
use Rattle.registers.specs.Record.{port_at}
use Rattle.registers.specs.Rules.{with_ari, with_redirect}
use Rattle.trees.specs.Trees.{tree_of}
use Rattle.picture.specs.Layout.{vector_of}
use Rattle.claims.specs.Decoders.{decoders_of, claims_target}
use Rattle.claims.specs.Conversion.{converted_target}

-- with these vectors
abbrev pub chassis_with : List ℕ → (ℕ → Mechanism → List ℕ) → Chassis
chassis_with s vector =
    record {
      tree = tree_of s;
      own_id = λ p. (port_at s p).own_id.0;
      ari = λ p. with_ari (port_at s p);
      redirect = λ p. with_redirect (port_at s p);
      decoders = λ p. decoders_of (port_at s p) (vector p);
      claims = λ p. claims_target (port_at s p) (vector p);
      conversion = λ p. converted_target (port_at s p) (vector p);
    }

-- with its own
abbrev pub chassis_of : List ℕ → Chassis
chassis_of s = chassis_with s (vector_of s)
