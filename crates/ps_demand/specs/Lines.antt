-- The lines of what the safe outputs of an application demand, and the output that has none.
use Rattle.std.specs.Prelude.{◌≡◌, ℕ, ◌+◌, ◌<◌, ◌≤◌, true, List, ◌++◌, filter, flat_map, length, codes, Result, Ok, Err}
use Rattle.std.specs.List.{range_with_len}
use Rattle.ps_model.specs.Network.{Network, input_count}
use Rattle.ps_model.specs.Typing.{is_safe_signal}
use Rattle.ps_demand.specs.declared.demand.TheConstants.{MOST_LEAVES}
use Rattle.ps_demand.specs.declared.lines.NoLines.{NoLines}
use Rattle.ps_demand.specs.declared.lines.NoLines.TheVariants.{Memory, Large}
use Rattle.ps_demand.specs.Requirement.{leaf_count}
use Rattle.ps_demand.specs.Demand.{demand}
use Rattle.ps_demand.specs.Slim.{slim}
use Rattle.ps_demand.specs.Texts.{full_name, text}

-- a signal is a SAFEBOOL output
pub record IsSafeOutput (net : Network) (s : ℕ) : Type 0 where
  pub behind_inputs : input_count net ≤ s
  pub before_locals : s < input_count net + length net.outputs
  pub safe : is_safe_signal net s ≡ true

-- the demand of a signal has too many leaves before it is made slim
abbrev pub IsLarge : Network → ℕ → Type 0
IsLarge net s = MOST_LEAVES < leaf_count (demand net s)

-- no SAFEBOOL output has a Large demand
abbrev pub NoneIsLarge : Network → Type 0
NoneIsLarge net = (s : ℕ) → IsSafeOutput net s → ¬ IsLarge net s

-- a signal is the first SAFEBOOL output, in order of declaration, whose demand is Large
pub record IsFirstLarge (net : Network) (s : ℕ) : Type 0 where
  pub output : IsSafeOutput net s
  pub large : IsLarge net s
  pub first : (t : ℕ) → t < s → IsSafeOutput net t → ¬ IsLarge net t

-- the SAFEBOOL outputs, in order of declaration
abbrev pub safe_outputs : Network → List ℕ
safe_outputs net = filter (is_safe_signal net) (range_with_len (input_count net) (length net.outputs))

-- the line of an output: its name, ` needs `, and its demand made slim
abbrev pub demand_line : Network → ℕ → List ℕ
demand_line net s = full_name net s ++ (codes " needs " ++ (text net (slim (demand net s)) ++ codes "\n"))

-- a line for each SAFEBOOL output, in order of declaration
abbrev pub demand_lines : Network → List ℕ
demand_lines net = flat_map (demand_line net) (safe_outputs net)

-- the lines of all demands where none is Large, and else the first output whose demand is
abbrev pub AreDemandLines : Network → Result (List ℕ) NoLines → Type 0
AreDemandLines net (Ok lines) = NoneIsLarge net × (lines ≡ demand_lines net)
AreDemandLines net (Err (Large s)) = IsFirstLarge net s
AreDemandLines net (Err Memory) = Unit {0}
