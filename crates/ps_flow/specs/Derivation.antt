-- The lines by which a value is shown to be safe.
use Rattle.std.specs.Prelude.{ℕ, List, [], ◌∷◌, ◌++◌, ◌+◌, length, if◌then◌else◌}
use Rattle.ps_model.specs.Formula.{Formula, Formulas, signal, all_of, any_of, no_operand, operand}
use Rattle.ps_model.specs.Network.{Network}
use Rattle.ps_model.specs.Typing.{safe}
use Rattle.ps_model.specs.Nodes.{nodes}
use Rattle.ps_model.specs.Obligations.{Obligation, obligations}
use Rattle.ps_flow.specs.declared.certificate.CertLine.{CertLine}
use Rattle.ps_flow.specs.declared.certificate.LineRule.{LineRule}
use Rattle.ps_flow.specs.declared.certificate.LineRule.TheVariants.{Src, And, Or}

-- A line with this node, this rule and these premises.
abbrev pub line : ℕ → LineRule → List ℕ → CertLine
line n rule premises = record { node = n; rule = rule; premises = premises }

-- the derivation of a value whose root is node n, after so many lines before it; its last line speaks of the root
module _ (net : Network) where
  abbrev mutual
    -- Of a value: SRC for a signal, the lines of its first safe operand for an AND, those of all its operands for an
    -- OR, and then the line of its root.
    pub derivation : (before n : ℕ) → Formula → List CertLine
    derivation before n (signal s) = line n Src [] ∷ []
    derivation before n (all_of es) =
        of_first_safe before (n + 1) es ++ line n And ((before + length (of_first_safe before (n + 1) es)) ∷ []) ∷ []
    derivation before n (any_of es) = of_each before (n + 1) es ++ line n Or (last_lines before (n + 1) es) ∷ []

    -- of the first safe operand; the first operand is node n
    pub of_first_safe : (before n : ℕ) → Formulas → List CertLine
    of_first_safe before n no_operand = []
    of_first_safe before n (operand e es) = if safe net e then derivation before n e else of_first_safe before (n + length (nodes e)) es

    -- of all operands in order
    pub of_each : (before n : ℕ) → Formulas → List CertLine
    of_each before n no_operand = []
    of_each before n (operand e es) =
        derivation before n e ++ of_each (before + length (derivation before n e)) (n + length (nodes e)) es

    -- the last line of each of these, counted from 1
    pub last_lines : (before n : ℕ) → Formulas → List ℕ
    last_lines before n no_operand = []
    last_lines before n (operand e es) =
        (before + length (derivation before n e)) ∷ last_lines (before + length (derivation before n e)) (n + length (nodes e)) es

  -- of all obligations in order
  abbrev pub derivations : ℕ → List Obligation → List CertLine
  derivations before [] = []
  derivations before (o ∷ os) = derivation before o.node o.value ++ derivations (before + length (derivation before o.node o.value)) os

-- the certificate of an application
abbrev pub certificate : Network → List CertLine
certificate net = derivations net 0 (obligations net)
