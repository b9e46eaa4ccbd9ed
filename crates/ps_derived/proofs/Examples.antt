-- A text with a function block in a function block, and its flat source, closed by computing:
--   FUNCTION_BLOCK Gate VAR_INPUT I : BOOL; END_VAR VAR_OUTPUT Q : BOOL; END_VAR q := i; END_FUNCTION_BLOCK
--   FUNCTION_BLOCK Pair VAR H : gate; END_VAR VAR_INPUT X : BOOL; END_VAR VAR_OUTPUT Y : BOOL; END_VAR
--   h(i := X); Y := h.q; END_FUNCTION_BLOCK
--   PROGRAM P VAR_INPUT A : BOOL; END_VAR VAR_OUTPUT B : BOOL; END_VAR VAR G : Pair; END_VAR
--   g(x := A); B := g.y; END_PROGRAM
use Rattle.std.proofs.Common.{◌≡◌, ℕ, List, [], ◌∷◌, codes, refl}
use Rattle.ps_parser.specs.declared.name.Name.{Name}
use Rattle.ps_parser.specs.declared.section.Part.{Part}
use Rattle.ps_parser.specs.declared.section.Part.TheVariants.{Input, Output, Local}
use Rattle.ps_parser.specs.declared.section.Section.{Section}
use Rattle.ps_parser.specs.declared.statement.Target.TheVariants as target
use Rattle.ps_parser.specs.Tree.{FactorTree, Signal, Pin, no_factor, factor, SumTree, no_product, product, StatementTree, Assign, Call, SourceTree}
use Rattle.ps_derived.specs.Flat.{flat}

-- a name at a column of a line
abbrev name : List ℕ → ℕ → ℕ → Name
name text line column = record { text = text; place = record { line = line; column = column } }

-- one name of one type
abbrev declares : Part → Name → Name → Section
declares part n ty = record { part = part; declarations = record { names = n ∷ []; ty = ty } ∷ [] }

-- a value of one factor
abbrev value : FactorTree → SumTree
value f = product (factor f no_factor) no_product

abbrev assigns : Name → FactorTree → StatementTree
assigns n f = Assign (target.Name n) (value f)

abbrev gate : SourceTree
gate = record {
  name = name (codes "Gate") 1 16;
  sections = declares Input (name (codes "I") 1 31) (name (codes "BOOL") 1 35) ∷ declares Output (name (codes "Q") 1 60) (name (codes "BOOL") 1 64) ∷ [];
  statements = assigns (name (codes "q") 1 78) (Signal (name (codes "i") 1 83)) ∷ [];
}

abbrev pair : SourceTree
pair = record {
  name = name (codes "Pair") 2 16;
  sections = declares Local (name (codes "H") 2 25) (name (codes "gate") 2 29) ∷ declares Input (name (codes "X") 2 53) (name (codes "BOOL") 2 57) ∷ declares Output (name (codes "Y") 2 82) (name (codes "BOOL") 2 86) ∷ [];
  statements =
      Call (name (codes "h") 3 1) (record { pin = name (codes "i") 3 3; value = value (Signal (name (codes "X") 3 8)) } ∷ [])
      ∷ assigns (name (codes "Y") 3 12) (Pin (name (codes "h") 3 17) (name (codes "q") 3 19)) ∷ [];
}

abbrev program : SourceTree
program = record {
  name = name (codes "P") 4 9;
  sections = declares Input (name (codes "A") 4 21) (name (codes "BOOL") 4 25) ∷ declares Output (name (codes "B") 4 50) (name (codes "BOOL") 4 54) ∷ declares Local (name (codes "G") 4 72) (name (codes "Pair") 4 76) ∷ [];
  statements =
      Call (name (codes "g") 5 1) (record { pin = name (codes "x") 5 3; value = value (Signal (name (codes "A") 5 8)) } ∷ [])
      ∷ assigns (name (codes "B") 5 12) (Pin (name (codes "g") 5 17) (name (codes "y") 5 19)) ∷ [];
}

-- the inputs of a copy come first, then its outputs, then its own names; each has the place in its block's text, and is
-- spelt as it is declared
laid_flat : flat (record { blocks = gate ∷ pair ∷ []; program = program }) ≡ record {
  name = name (codes "P") 4 9;
  sections = declares Input (name (codes "A") 4 21) (name (codes "BOOL") 4 25) ∷ declares Output (name (codes "B") 4 50) (name (codes "BOOL") 4 54)
      ∷ record {
        part = Local;
        declarations =
            record { names = name (codes "G.X") 2 53 ∷ []; ty = name (codes "BOOL") 2 57 }
            ∷ record { names = name (codes "G.Y") 2 82 ∷ []; ty = name (codes "BOOL") 2 86 }
            ∷ record { names = name (codes "G.H.I") 1 31 ∷ []; ty = name (codes "BOOL") 1 35 }
            ∷ record { names = name (codes "G.H.Q") 1 60 ∷ []; ty = name (codes "BOOL") 1 64 } ∷ [];
      } ∷ [];
  statements =
      assigns (name (codes "G.X") 5 3) (Signal (name (codes "A") 5 8))
      ∷ assigns (name (codes "G.H.I") 3 3) (Signal (name (codes "G.X") 3 8))
      ∷ assigns (name (codes "G.H.Q") 1 78) (Signal (name (codes "G.H.I") 1 83))
      ∷ assigns (name (codes "G.Y") 3 12) (Signal (name (codes "G.H.Q") 3 17))
      ∷ assigns (name (codes "B") 5 12) (Signal (name (codes "G.Y") 5 17)) ∷ [];
}
laid_flat = refl
