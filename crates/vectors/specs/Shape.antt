-- What a vector's settings say: its size in entries, the target where entry 0 begins, and how many targets an entry stands for, as a
-- power of 2.
use Rattle.std.specs.Prelude.{ℕ}

pub record Shape : Type 0 where
  pub size : ℕ
  pub start : ℕ
  pub scale : ℕ
