-- The equations of the statements of a body, in the copy at a path: those of a scan of an application, with names in
-- the place of numbers, and with what stands before a statement given. The copy of a function block has the equations
-- of its own body. The position of a statement is the list of the numbers of the calls that lead to it and then its own
-- number, and what stands before it is what has a smaller position. So before a statement of a copy stand all that
-- stands before the copy's call, the inputs of the copy, and the statements before it in the body, each with all that
-- its call drives.
use Rattle.std.specs.Prelude.{◌≡◌, ℕ, Bool, false, List, [], ◌∷◌, ◌++◌, Option, None, Some, codes, map, slice_get}
use Rattle.std.specs.Prelude.{slice_index_or}
use Rattle.std.specs.Option.{option_map}
use Rattle.std.specs.List.{find}
use Rattle.std.specs.Str.{bytes_eq}
use Rattle.ps_base.specs.LetterCase.{folded, is_same_name}
use Rattle.ps_model.specs.declared.kind.Kind.{Kind}
use Rattle.ps_model.specs.declared.named.Instance.{Instance}
use Rattle.ps_model.specs.Blocks.{Output, block, moved, outs}
use Rattle.ps_model.specs.Action.{Actual, free, literal, time}
use Rattle.ps_model.specs.Scanning.{pins_under, limit_of}
use Rattle.ps_parser.specs.declared.name.Name.{Name}
use Rattle.ps_parser.specs.declared.statement.Target.{Target}
use Rattle.ps_parser.specs.declared.statement.Target.TheVariants as target
use Rattle.ps_parser.specs.Tree.{Time, no_factor, factor, SumTree, no_product, product, ArgumentTree, StatementTree}
use Rattle.ps_parser.specs.Tree.{Assign, Call}
use Rattle.ps_names.specs.Names.{same}
use Rattle.ps_language_laws.specs.Paths.{at, copy_at}
use Rattle.ps_language_laws.specs.Reading.{Scan, Before, Reading, nothing, drives, calls, and_then, signal_seen, output_seen}
use Rattle.ps_language_laws.specs.Reading.{sum_value}

-- A body, as those see it that use it: its name and its inputs, and of a copy of it at a path the instances of the
-- thirteen kinds in it, what its statements drive and call, and what holds of a scan where this stands before them.
pub record Body : Type 1 where
  pub name : Name
  pub inputs : List Name
  pub instances : List ℕ → List Instance
  pub leaves : List ℕ → Before
  pub Holds : Scan → List ℕ → Before → Type 0

-- What a name of a body is, where it is called or followed by a dot: an instance of one of the thirteen kinds, or one
-- of a function block.
pub data Callee : Type 1 where
  standard : Callee
  derived : Body → Callee

-- ---- arguments

-- the value of an input: that of its argument; a call that leaves an input out is refused by B3, and here it is FALSE
abbrev pub argument_value : Reading → Option ArgumentTree → Bool
argument_value reading None = false
argument_value reading (Some a) = sum_value reading a.value

-- what a value is at a pin: a TIME literal alone is itself, and each other value counts as the literal TRUE or FALSE
abbrev pub actual_of : Reading → SumTree → Actual
actual_of reading (product (factor (Time t p) no_factor) no_product) = time t
actual_of reading s = literal (sum_value reading s)

-- what stands at a pin that has this argument; without one it is free
abbrev pub given : Reading → Option ArgumentTree → Actual
given reading None = free
given reading (Some a) = actual_of reading a.value

-- what stands at each input pin of a kind, in the order of its table
abbrev pub actuals : Reading → Kind → List ArgumentTree → List Actual
actuals reading kind args = map (λ p. given reading (find (λ a. is_same_name a.pin.text p.name) args)) (block kind).inputs

-- ---- instances of the thirteen kinds

-- the kind of the instance at a path
abbrev pub kind_at : List Instance → List ℕ → Option Kind
kind_at instances p = option_map (λ i. i.kind) (find (λ i. bytes_eq p i.name) instances)

-- the names of the outputs of a kind, in the order of its table: the safe outputs, Ready and Error
abbrev pub output_names : Kind → List (List ℕ)
output_names kind = map (λ (o : Output). o.name) (block kind).outputs ++ (codes "Ready" ∷ codes "Error" ∷ [])

-- An instance has moved from its old state with these arguments, and each output pin shows what the new state says.
pub record HasMoved (scan : Scan) (p : List ℕ) (kind : Kind) (args : List Actual) : Type 0 where
  pub state : scan.new.block p ≡ moved kind (limit_of kind args) (pins_under (λ _. false) kind args) scan.dt (scan.old.block p)
  pub shows : (j : ℕ) (pin : List ℕ) → slice_get (output_names kind) j ≡ Some pin →
      scan.new.output p (folded pin) ≡ slice_index_or (outs kind (scan.new.block p).code (scan.new.block p).mode) j false

-- the same, where the path is that of an instance; a text that stands for an application calls no other name
abbrev pub Moves : Scan → List ℕ → Reading → List ArgumentTree → Option Kind → Type 0
Moves scan p reading args None = Unit {0}
Moves scan p reading args (Some kind) = HasMoved scan p kind (actuals reading kind args)

-- ---- statements

-- the inputs of a copy, which its call drives
abbrev pub inputs_driven : List ℕ → List Name → Before
inputs_driven copy [] = nothing
inputs_driven copy (x ∷ xs) = and_then (drives (at copy x)) (inputs_driven copy xs)

-- what a call drives and calls: an instance of one of the kinds, or the inputs of a copy and what its body leaves
abbrev pub call_leaves : List ℕ → Name → Callee → Before
call_leaves path n standard = calls (at path n)
call_leaves path n (derived b) = and_then (inputs_driven (copy_at path n) b.inputs) (b.leaves (copy_at path n))

-- what an assignment drives; a text that stands for an application has no pin as a target
abbrev pub target_leaves : List ℕ → Target → Before
target_leaves path (target.Name n) = drives (at path n)
target_leaves path (target.Pin n q) = nothing

-- The body of the copy at a path, in which names are called or followed by a dot.
module _ (callee : Name → Callee) (path : List ℕ) where
  -- what a statement drives and calls
  abbrev pub statement_leaves : StatementTree → Before
  statement_leaves (Assign t s) = target_leaves path t
  statement_leaves (Call n args) = call_leaves path n (callee n)

  -- what these statements drive and call, in order
  abbrev pub statements_leave : List StatementTree → Before
  statements_leave [] = nothing
  statements_leave (s ∷ ss) = and_then (statement_leaves s) (statements_leave ss)

  module _ (scan : Scan) where
    -- after the dot of a derived instance stands a signal of its copy, after that of another instance a pin
    abbrev pub dotted_seen : Before → Name → Name → Callee → Bool
    dotted_seen before n q standard = output_seen scan before (at path n) (folded q.text)
    dotted_seen before n q (derived b) = signal_seen scan before (at (copy_at path n) q)

    -- what the body reads where this stands before
    abbrev pub reading_at : Before → Reading
    reading_at before = record {
      signal = λ n. signal_seen scan before (at path n);
      output = λ n q. dotted_seen before n q (callee n);
    }

    -- each input of a copy has the value of its argument, as it is read where the call stands
    abbrev pub InputsHold : Before → List ℕ → List ArgumentTree → List Name → Type 0
    InputsHold before copy args [] = Unit {0}
    InputsHold before copy args (x ∷ xs) =
        (scan.new.signal (at copy x) ≡ argument_value (reading_at before) (find (λ a. same x a.pin) args)) × InputsHold before copy args xs

    -- a call: the instance moves; or the inputs of the copy have the values of their arguments, and with them driven
    -- its body holds
    abbrev pub CallHolds : Before → Name → List ArgumentTree → Callee → Type 0
    CallHolds before n args standard = Moves scan (at path n) (reading_at before) args (kind_at scan.instances (at path n))
    CallHolds before n args (derived b) =
        InputsHold before (copy_at path n) args b.inputs
        × b.Holds scan (copy_at path n) (and_then before (inputs_driven (copy_at path n) b.inputs))

    -- an assignment: the signal has the value
    abbrev pub AssignmentHolds : Before → Target → SumTree → Type 0
    AssignmentHolds before (target.Name n) s = scan.new.signal (at path n) ≡ sum_value (reading_at before) s
    AssignmentHolds before (target.Pin n q) s = Unit {0}

    -- what holds of a statement where this stands before
    abbrev pub StatementHolds : Before → StatementTree → Type 0
    StatementHolds before (Assign t s) = AssignmentHolds before t s
    StatementHolds before (Call n args) = CallHolds before n args (callee n)

    -- what holds of these statements in order: each reads what stands before it
    abbrev pub StatementsHold : Before → List StatementTree → Type 0
    StatementsHold before [] = Unit {0}
    StatementsHold before (s ∷ ss) = StatementHolds before s × StatementsHold (and_then before (statement_leaves s)) ss
