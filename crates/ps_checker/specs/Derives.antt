-- Which certificates derive an application.
use Rattle.std.specs.Prelude.{◌≡◌, ℕ, Bool, true, false, List, [], ◌∷◌, ◌+◌, ◌-◌, ◌<◌, ◌&&◌, ◌==◌, nat_le, length, Some}
use Rattle.std.specs.Prelude.{slice_get, slice_index_or}
use Rattle.std.specs.List.{list_any, list_all}
use Rattle.ps_model.specs.declared.kind.Ty.{Ty}
use Rattle.ps_model.specs.declared.kind.Ty.TheVariants.{Time}
use Rattle.ps_model.specs.Formula.{Formula, signal, all_of, any_of}
use Rattle.ps_model.specs.Action.{Actual, free, time, calls}
use Rattle.ps_model.specs.Scanning.{pin_at}
use Rattle.ps_model.specs.Network.{Network, kind_at}
use Rattle.ps_model.specs.Typing.{is_safe_signal}
use Rattle.ps_model.specs.Nodes.{app_nodes, operand_places}
use Rattle.ps_model.specs.Obligations.{Obligation, obligations}
use Rattle.ps_flow.specs.declared.certificate.CertLine.{CertLine}
use Rattle.ps_flow.specs.declared.certificate.LineRule.{LineRule}
use Rattle.ps_flow.specs.declared.certificate.LineRule.TheVariants.{Src, And, Or}

-- what stands for a line that does not exist
abbrev pub no_line : CertLine
no_line = record { node = 0; rule = Src; premises = [] }

-- a premise of the line after the first i: the number of an earlier line, counted from 1
abbrev pub is_earlier : ℕ → ℕ → Bool
is_earlier i p = nat_le 1 p && nat_le p i

-- the node that line p speaks of
abbrev pub spoken : List CertLine → ℕ → ℕ
spoken lines p = (slice_index_or lines (p - 1) no_line).node

-- these lines speak of these nodes, each at its place
abbrev pub speak_of : List CertLine → List ℕ → List ℕ → Bool
speak_of lines [] [] = true
speak_of lines (p ∷ premises) (m ∷ places) = (spoken lines p == m) && speak_of lines premises places
speak_of lines _ _ = false

-- one premise, which speaks of one of these nodes
abbrev pub speaks_of_one : List CertLine → List ℕ → List ℕ → Bool
speaks_of_one lines (p ∷ []) places = list_any (λ m. m == spoken lines p) places
speaks_of_one lines _ places = false

-- The rule fits the node, whose operands begin at node n: SRC a signal of type SAFEBOOL with no premises, AND an AND
-- with one premise that speaks of an operand, OR an OR with a premise for each operand, each speaking of that operand.
abbrev pub fits : Network → List CertLine → LineRule → List ℕ → ℕ → Formula → Bool
fits net lines Src [] n (signal s) = is_safe_signal net s
fits net lines And premises n (all_of es) = speaks_of_one lines premises (operand_places n es)
fits net lines Or premises n (any_of es) = speak_of lines premises (operand_places n es)
fits net lines _ _ n _ = false

-- line number i + 1 is an instance of its rule
pub record IsInstance (net : Network) (lines : List CertLine) (i : ℕ) (l : CertLine) : Type 0 where
  pub node : Formula
  pub exists : slice_get (app_nodes net) l.node ≡ Some node
  pub earlier : list_all (is_earlier i) l.premises ≡ true
  pub rule : fits net lines l.rule l.premises (l.node + 1) node ≡ true

-- a TIME literal stands at TIME pins alone, and there is neither a Boolean literal nor a value
abbrev pub literal_fits : Ty → Actual → Bool
literal_fits ty free = true
literal_fits Time (time t) = true
literal_fits Time _ = false
literal_fits _ (time t) = false
literal_fits _ _ = true

-- every literal fits its pin, and no value stands at a TIME pin
abbrev pub LiteralsFit : Network → Type 0
LiteralsFit net = (k i j : ℕ) (args : List Actual) → slice_get net.steps k ≡ Some (calls i args) → j < length args →
    literal_fits (pin_at (kind_at net i) j).ty (slice_index_or args j free) ≡ true

-- some line speaks of the obligation's node
abbrev pub has_line : List CertLine → Obligation → Bool
has_line lines o = list_any (λ l. l.node == o.node) lines

-- the lines are a derivation that covers every obligation, and every literal fits its pin
pub record Derives (net : Network) (lines : List CertLine) : Type 0 where
  pub each : (i : ℕ) (l : CertLine) → slice_get lines i ≡ Some l → IsInstance net lines i l
  pub literals : LiteralsFit net
  pub covered : list_all (has_line lines) (obligations net) ≡ true
