-- What a checked certificate says.
use Rattle.std.specs.Prelude.{ℕ}

-- how many nodes the application has, and how many lines the certificate
pub record Counts : Type 0 where
  pub nodes : ℕ
  pub lines : ℕ
