-- The first objection to a certificate.
use Rattle.std.specs.Prelude.{◌≡◌, ℕ, true, false, List, ◌+◌, ◌<◌, ◌≤◌, length, Some, slice_get, slice_index_or}
use Rattle.std.specs.List.{list_all}
use Rattle.ps_model.specs.Formula.{Formula}
use Rattle.ps_model.specs.Action.{Actual, free, calls}
use Rattle.ps_model.specs.Scanning.{pin_at}
use Rattle.ps_model.specs.Network.{Network, kind_at}
use Rattle.ps_model.specs.Nodes.{app_nodes}
use Rattle.ps_model.specs.Obligations.{obligations}
use Rattle.ps_flow.specs.declared.certificate.CertLine.{CertLine}
use Rattle.ps_base.specs.declared.failing.Rule.{Rule}
use Rattle.ps_base.specs.declared.failing.Rule.TheVariants.{O1, O2, O3, O4, O5}
use Rattle.ps_checker.specs.Derives.{IsInstance, LiteralsFit, is_earlier, fits, literal_fits, has_line}

-- line number i + 1 breaks the rule, and none of O1, O2 and O3 that is tried before
abbrev pub LineBreaks : Network → List CertLine → ℕ → CertLine → Rule → Type 0
LineBreaks net lines i l O1 = length (app_nodes net) ≤ l.node
LineBreaks net lines i l O2 = (l.node < length (app_nodes net)) × (list_all (is_earlier i) l.premises ≡ false)
LineBreaks net lines i l O3 =
    (list_all (is_earlier i) l.premises ≡ true)
    × ((e : Formula) × (slice_get (app_nodes net) l.node ≡ Some e) × (fits net lines l.rule l.premises (l.node + 1) e ≡ false))
LineBreaks net lines i l rule = ⊥

-- the first n lines are instances of their rules
abbrev pub EachUpTo : Network → List CertLine → ℕ → Type 0
EachUpTo net lines n = (i : ℕ) → i < n → (l : CertLine) → slice_get lines i ≡ Some l → IsInstance net lines i l

-- a literal or a value stands where it may not
abbrev pub LiteralMisfits : Network → Type 0
LiteralMisfits net = (k : ℕ) × (i : ℕ) × (j : ℕ) × (args : List Actual)
    × (slice_get net.steps k ≡ Some (calls i args)) × (j < length args)
    × (literal_fits (pin_at (kind_at net i) j).ty (slice_index_or args j free) ≡ false)

-- the first objection: of the first line that breaks a rule, or, one past the last line, O5, or else O4
abbrev pub Objects : Network → List CertLine → ℕ → Rule → Type 0
Objects net lines n O5 = (n ≡ length lines + 1) × EachUpTo net lines (length lines) × LiteralMisfits net
Objects net lines n O4 = (n ≡ length lines + 1) × EachUpTo net lines (length lines) × LiteralsFit net
    × (list_all (has_line lines) (obligations net) ≡ false)
Objects net lines n rule = (i : ℕ) × (l : CertLine) × (n ≡ i + 1) × EachUpTo net lines i × (slice_get lines i ≡ Some l)
    × LineBreaks net lines i l rule
