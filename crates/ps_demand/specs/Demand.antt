-- What a safe value demands of the inputs of its scan and of the signals of the scan before. Profile.
use Rattle.std.specs.Prelude.{ℕ, zero, suc, ◌-◌, Bool, true, false, not, ◌==◌, List, [], ◌∷◌, map, length, Option, Some}
use Rattle.std.specs.Prelude.{None, if◌then◌else◌, nat_lt, slice_get, slice_index_or}
use Rattle.ps_model.specs.declared.kind.Kind.{Kind}
use Rattle.ps_model.specs.declared.demands.Need.{Need}
use Rattle.ps_model.specs.declared.demands.Need.TheVariants.{On, Off}
use Rattle.ps_model.specs.Formula.{Formula, Formulas, signal, all_of, any_of, no_operand, operand}
use Rattle.ps_model.specs.Action.{Actual, Action, free, literal, time, wired, assigns, calls}
use Rattle.ps_model.specs.Network.{Network, input_count, kind_at, first_pin, drives, is_new}
use Rattle.ps_model.specs.Scanning.{pin_at}
use Rattle.ps_model.specs.Typing.{safe, is_safe_type}
use Rattle.ps_model.specs.Demand.{demand as pin_formula}
use Rattle.ps_demand.specs.declared.join.Join.TheVariants.{And, Or}
use Rattle.ps_demand.specs.Requirement.{Requirement, Requirements, always, never, now, before, not_now, not_before}
use Rattle.ps_demand.specs.Requirement.{group, no_part, part, requirements}

-- TRUE or FALSE
abbrev pub constant : Bool → Requirement
constant true = always
constant false = never

-- the conjunction of parts, which is the part itself where there is one, and TRUE where there is none
abbrev pub conjunction : List Requirement → Requirement
conjunction [] = always
conjunction (d ∷ []) = d
conjunction (d ∷ e ∷ ds) = group And (requirements (d ∷ e ∷ ds))

-- Each signal is read with one of these demands.
module _ (net : Network) (leaves : ℕ → Requirement) where
  -- the demand of a value: of an AND the conjunction over its safe operands, of an OR the disjunction over all
  abbrev mutual
    pub demand_over : Formula → Requirement
    demand_over (signal s) = leaves s
    demand_over (all_of es) = group And (safe_demands es)
    demand_over (any_of es) = group Or (all_demands es)

    -- those of the safe operands alone
    pub safe_demands : Formulas → Requirements
    safe_demands no_operand = no_part
    safe_demands (operand e es) = if safe net e then part (demand_over e) (safe_demands es) else safe_demands es

    -- those of all operands
    pub all_demands : Formulas → Requirements
    all_demands no_operand = no_part
    all_demands (operand e es) = part (demand_over e) (all_demands es)

  -- a SAFEBOOL pin demands what its argument does, its literal, or its free value
  abbrev pub demand_at_pin : Bool → Actual → Requirement
  demand_at_pin default free = constant default
  demand_at_pin default (literal b) = constant b
  demand_at_pin default (time t) = never
  demand_at_pin default (wired e) = demand_over e

-- "not" of a signal that step k reads is kept where it is an input, or has no driver before step k; else it becomes
-- TRUE
abbrev pub negated_signal : Network → ℕ → ℕ → Requirement
negated_signal net k s = if nat_lt s (input_count net) then not_now s else if is_new net k s then always else not_before s

-- a pin under "not": of a literal, a free pin or one signal alone it is kept, and everywhere else it becomes TRUE
abbrev pub negated_at_pin : Network → ℕ → Bool → Actual → Requirement
negated_at_pin net k default free = constant (not default)
negated_at_pin net k default (literal b) = constant (not b)
negated_at_pin net k default (time t) = always
negated_at_pin net k default (wired (signal s)) = negated_signal net k s
negated_at_pin net k default (wired (all_of es)) = always
negated_at_pin net k default (wired (any_of es)) = always

-- An instance is called by step k, which reads each signal with one of these demands.
module _ (net : Network) (k : ℕ) (leaves : ℕ → Requirement) where
  -- what one pin of a block's formula demands; a BOOL pin becomes TRUE
  abbrev pub demand_of_need : Kind → List Actual → Need → Requirement
  demand_of_need kind args (On p) =
      if is_safe_type (pin_at kind p).ty then demand_at_pin net leaves (pin_at kind p).free (slice_index_or args p free) else always
  demand_of_need kind args (Off p) = negated_at_pin net k (pin_at kind p).free (slice_index_or args p free)

  -- the demand of safe output j: the formula of its kind, with each pin in it replaced
  abbrev pub output_demand : Kind → List Actual → ℕ → Requirement
  output_demand kind args j = conjunction (map (demand_of_need kind args) (pin_formula kind j))

-- what step k makes of the demands of signals: an assigned one has that of its value, and an output of a called
-- instance its block's
abbrev pub after_step : Network → ℕ → Option Action → (ℕ → Requirement) → ℕ → Requirement
after_step net k None leaves s = leaves s
after_step net k (Some (assigns t e)) leaves s = if t == s then demand_over net leaves e else leaves s
after_step net k (Some (calls i args)) leaves s =
    if drives net s (calls i args) then output_demand net k leaves (kind_at net i) args (s - first_pin net i) else leaves s

-- the demand of a safe signal as step k reads it: an input is itself, and what no step before k drives is the value of
-- the scan before
abbrev pub demand_read : Network → ℕ → ℕ → Requirement
demand_read net zero s = if nat_lt s (input_count net) then now s else before s
demand_read net (suc k) s = after_step net k (slice_get net.steps k) (demand_read net k) s

-- the demand of a safe value that step k reads
abbrev pub demand_at : Network → ℕ → Formula → Requirement
demand_at net k e = demand_over net (demand_read net k) e

-- the demand of a safe signal: that of its driver, after all steps
abbrev pub demand : Network → ℕ → Requirement
demand net s = demand_read net (length net.steps) s
