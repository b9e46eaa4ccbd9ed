-- The lines of a certificate.
use Rattle.std.specs.Prelude.{◌<◌, ◌≤◌, ◌^◌, List, All, length}
use Rattle.ps_flow.specs.declared.certificate.CertLine.{CertLine}
use Rattle.ps_flow.specs.declared.certificate.TheConstants.{MOST_LINES}

-- A node and a premise are numbers of 32 bits.
pub record IsNumbered (l : CertLine) : Type 0 where
  pub node : l.node < 2 ^ 32
  pub premises : All (λ p. p < 2 ^ 32) l.premises

-- What the lines of every certificate keep.
pub record AreLines (lines : List CertLine) : Type 0 where
  pub few : length lines ≤ MOST_LINES
  pub numbered : All IsNumbered lines
