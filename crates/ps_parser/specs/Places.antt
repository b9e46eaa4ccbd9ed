-- The place of a step of a source, and of a pin in it.
use Rattle.std.specs.Prelude.{ℕ, List, [], ◌∷◌, Option, Some, None, slice_get, if◌then◌else◌}
use Rattle.ps_base.specs.LetterCase.{is_same_name}
use Rattle.ps_base.specs.declared.failing.Place.{Place}
use Rattle.ps_parser.specs.declared.statement.Target.{Target}
use Rattle.ps_parser.specs.declared.statement.Target.TheVariants as target
use Rattle.ps_parser.specs.Tree.{ArgumentTree, StatementTree, Assign, Call, SourceTree}

-- that of its first name
abbrev pub target_place : Target → Place
target_place (target.Name n) = n.place
target_place (target.Pin n q) = n.place

-- that of an assignment's target, or of the called name
abbrev pub statement_place : StatementTree → Place
statement_place (Assign t s) = target_place t
statement_place (Call n args) = n.place

-- that of the first argument whose pin has this name, without letter case
abbrev pub pin_place : List ℕ → List ArgumentTree → Option Place
pin_place pin [] = None
pin_place pin (a ∷ args) = if is_same_name a.pin.text pin then Some a.pin.place else pin_place pin args

-- that of a pin that the call names
abbrev pub pin_place_in : List ℕ → StatementTree → Option Place
pin_place_in pin (Assign t s) = None
pin_place_in pin (Call n args) = pin_place pin args

-- that of a statement, or of a pin in it
abbrev pub place_in : Option (List ℕ) → StatementTree → Option Place
place_in None s = Some (statement_place s)
place_in (Some pin) s = pin_place_in pin s

-- that of the statement, where there is one
abbrev pub place_if : Option (List ℕ) → Option StatementTree → Option Place
place_if pin None = None
place_if pin (Some s) = place_in pin s

-- the place of a step, or of a pin in it; none where there is no such step, or it is no call that names the pin
abbrev pub step_place : SourceTree → ℕ → Option (List ℕ) → Option Place
step_place s step pin = place_if pin (slice_get s.statements step)
