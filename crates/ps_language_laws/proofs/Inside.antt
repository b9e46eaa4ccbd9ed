-- What statements say inside an instance is what they say in its copy.
use Rattle.std.proofs.Common.{◌≡◌, ℕ, List, map, refl}
use Rattle.ps_parser.specs.declared.name.Name.{Name}
use Rattle.ps_parser.specs.Tree.{StatementTree}
use Rattle.ps_derived.specs.Dotted.{inside, statement_inside}
use Rattle.ps_language_laws.specs.Paths.{copy_at}
use Rattle.ps_language_laws.specs.Reading.{Scan, Before}
use Rattle.ps_language_laws.specs.Equations.{statements_leave, StatementsHold}
use Rattle.ps_language_laws.specs.TextScans.{plain}
use Rattle.ps_language_laws.proofs.PathNames.{at_inside, copy_inside}
use Rattle.ps_language_laws.proofs.Renamed.{all_leave_same, all_hold_same}

module _ (path : List ℕ) (g : Name) where
  pub all_leave_inside : (ss : List StatementTree) → statements_leave plain path (map (statement_inside g) ss) ≡ statements_leave plain (copy_at path g) ss
  all_leave_inside ss = all_leave_same (inside g) path (copy_at path g) plain plain (at_inside path g) (copy_inside path g) (λ n. refl) ss

  pub all_hold_inside : (scan : Scan) (before : Before) (ss : List StatementTree) →
      ◌≡◌ {A = Type 0} (StatementsHold plain path scan before (map (statement_inside g) ss)) (StatementsHold plain (copy_at path g) scan before ss)
  all_hold_inside scan before ss = all_hold_same (inside g) path (copy_at path g) plain plain (at_inside path g) (copy_inside path g) (λ n. refl) scan before ss
