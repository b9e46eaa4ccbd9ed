use Rattle.std.proofs.Common.{◌≡◌, ℕ, ◌+◌, length, drop, true}
use Rattle.std.specs.List.{list_all}
use Rattle.ps_model.specs.Formula.{Formulas}
use Rattle.ps_model.specs.Nodes.{nodes_below}
use Rattle.ps_model.specs.NodeList.{listed_below, node_list}
use Rattle.ps_model.specs.Standing.{StandsAt}
use Rattle.ps_checker.specs.Derives.{is_earlier}
use Rattle.ps_checker.proofs.Left.{SpeakLeft}
use Rattle.ps_checker.proofs.checking.speak_of.Given as goal

abbrev pub invariant-loop-p : goal.invariant-loop-p
invariant-loop-p l = record {
  earlier : list_all (is_earlier (length l.lines)) (drop l.p-index l.premises) ≡ true;
  left : (depth : ℕ) (es : Formulas) → StandsAt (node_list l.app) l.at (listed_below depth es) → l.end ≡ l.at + length (nodes_below es) →
      SpeakLeft (node_list l.app) depth l.lines l.at es l.premises l.end l.m (drop l.p-index l.premises);
}
