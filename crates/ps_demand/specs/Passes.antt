-- What the passes over the steps keep for each signal: how many leaves its demand has, and the demand made slim.
use Rattle.std.specs.Prelude.{◌≡◌, ℕ, ◌+◌, ◌<◌, ◌≤◌, Bool, true, false, nat_lt, Option, Some, None, List, [], ◌∷◌, map}
use Rattle.std.specs.Prelude.{min, sum_by, length, if◌then◌else◌, slice_index_or}
use Rattle.ps_model.specs.declared.kind.Kind.{Kind}
use Rattle.ps_model.specs.declared.demands.Need.{Need}
use Rattle.ps_model.specs.declared.demands.Need.TheVariants.{On, Off}
use Rattle.ps_model.specs.declared.driver.Driver.{Driver}
use Rattle.ps_model.specs.declared.driver.Driver.TheVariants.{Assigned, Output}
use Rattle.ps_model.specs.Formula.{Formula, Formulas, signal, all_of, any_of, no_operand, operand}
use Rattle.ps_model.specs.Action.{Actual, free, literal, time, wired}
use Rattle.ps_model.specs.Blocks.{block}
use Rattle.ps_model.specs.Demand.{demand as pin_formula}
use Rattle.ps_model.specs.Network.{Network, signal_count}
use Rattle.ps_model.specs.Scanning.{pin_at}
use Rattle.ps_model.specs.Typing.{safe, is_safe_type, is_safe_signal}
use Rattle.ps_demand.specs.declared.demand.Demand.{Demand}
use Rattle.ps_demand.specs.declared.demand.TheConstants.{MOST_LEAVES}
use Rattle.ps_demand.specs.declared.join.Join.TheVariants.{And, Or}
use Rattle.ps_demand.specs.Requirement.{Requirement, always, never, leaf_count}
use Rattle.ps_demand.specs.Demand.{constant, negated_at_pin, demand_read, demand}
use Rattle.ps_demand.specs.Slim.{joined, slim}
use Rattle.ps_demand.specs.Views.{requirement}
use Rattle.ps_demand.specs.Wanted.{is_wanted}

-- the number of the step that a driver is
abbrev pub step_of : Driver → ℕ
step_of (Assigned k) = k
step_of (Output i j k) = k

-- whether there is a driver that stands before step k
abbrev pub stands_before : ℕ → Option Driver → Bool
stands_before k None = false
stands_before k (Some d) = nat_lt (step_of d) k

-- a number as 32 bits hold it, the greatest of them for every greater one
abbrev pub saturated : ℕ → ℕ
saturated n = min n 4294967295

-- the number that is kept for a signal
abbrev pub count_in : List ℕ → ℕ → ℕ
count_in counts s = slice_index_or counts s 0

-- how many leaves a demand has where those of the signals have so many
module _ (net : Network) (counts : ℕ → ℕ) where
  abbrev mutual
    -- the demand of a value
    pub weight : Formula → ℕ
    weight (signal s) = counts s
    weight (all_of es) = safe_weights es
    weight (any_of es) = all_weights es

    -- those of the safe operands together
    pub safe_weights : Formulas → ℕ
    safe_weights no_operand = 0
    safe_weights (operand e es) = if safe net e then weight e + safe_weights es else safe_weights es

    -- those of all operands together
    pub all_weights : Formulas → ℕ
    all_weights no_operand = 0
    all_weights (operand e es) = weight e + all_weights es

  -- the demand at a SAFEBOOL pin
  abbrev pub weight_at_pin : Actual → ℕ
  weight_at_pin (wired e) = weight e
  weight_at_pin free = 1
  weight_at_pin (literal b) = 1
  weight_at_pin (time t) = 1

  -- what one pin of a block's formula demands
  abbrev pub weight_of_need : Kind → List Actual → Need → ℕ
  weight_of_need kind args (On p) = if is_safe_type (pin_at kind p).ty then weight_at_pin (slice_index_or args p free) else 1
  weight_of_need kind args (Off p) = 1

  -- the conjunction of what these pins demand
  abbrev pub weight_of_needs : Kind → List Actual → List Need → ℕ
  weight_of_needs kind args [] = 1
  weight_of_needs kind args (need ∷ needs) = sum_by (weight_of_need kind args) (need ∷ needs)

  -- the demand of an output
  abbrev pub output_weight : Kind → List Actual → ℕ → ℕ
  output_weight kind args j = weight_of_needs kind args (pin_formula kind j)

-- a slim demand where those of the signals are these
module _ (net : Network) (leaves : ℕ → Requirement) where
  abbrev mutual
    -- the demand of a value
    pub slim_over : Formula → Requirement
    slim_over (signal s) = leaves s
    slim_over (all_of es) = joined And (safe_slims es)
    slim_over (any_of es) = joined Or (all_slims es)

    -- those of the safe operands
    pub safe_slims : Formulas → List Requirement
    safe_slims no_operand = []
    safe_slims (operand e es) = if safe net e then slim_over e ∷ safe_slims es else safe_slims es

    -- those of all operands
    pub all_slims : Formulas → List Requirement
    all_slims no_operand = []
    all_slims (operand e es) = slim_over e ∷ all_slims es

  -- the demand at a SAFEBOOL pin
  abbrev pub slim_at_pin : Bool → Actual → Requirement
  slim_at_pin default free = constant default
  slim_at_pin default (literal b) = constant b
  slim_at_pin default (time t) = never
  slim_at_pin default (wired e) = slim_over e

-- the slim conjunction of slim parts, which is the part itself where there is one, and TRUE where there is none
abbrev pub slim_together : List Requirement → Requirement
slim_together [] = always
slim_together (d ∷ []) = d
slim_together (d ∷ e ∷ ds) = joined And (d ∷ e ∷ ds)

-- an instance is called by step k
module _ (net : Network) (k : ℕ) (leaves : ℕ → Requirement) where
  -- what one pin of a block's formula demands
  abbrev pub slim_of_need : Kind → List Actual → Need → Requirement
  slim_of_need kind args (On p) = if is_safe_type (pin_at kind p).ty then slim_at_pin net leaves (pin_at kind p).free (slice_index_or args p free) else always
  slim_of_need kind args (Off p) = negated_at_pin net k (pin_at kind p).free (slice_index_or args p free)

  -- the demand of an output
  abbrev pub slim_output : Kind → List Actual → ℕ → Requirement
  slim_output kind args j = slim_together (map (slim_of_need kind args) (pin_formula kind j))

-- the pin of a need is one of the kind's
abbrev pub IsNeedOf : Kind → Need → Type 0
IsNeedOf kind (On p) = p < length (block kind).inputs
IsNeedOf kind (Off p) = p < length (block kind).inputs

-- for each safe signal this many leaves are counted, as step k reads it
pub record AreCounts (net : Network) (k : ℕ) (counts : List ℕ) : Type 0 where
  pub long : length counts ≡ signal_count net
  pub each : (s : ℕ) → s < signal_count net → is_safe_signal net s ≡ true → count_in counts s ≡ saturated (leaf_count (demand_read net k s))

-- the requirement that is kept for a signal
abbrev pub kept_for : List Demand → ℕ → Requirement
kept_for rows s = slice_index_or (map requirement rows) s never

-- for each safe signal whose demand is wanted and not Large that demand is kept, made slim, as step k reads it
pub record AreSlim (net : Network) (k : ℕ) (last : List (Option ℕ)) (rows : List Demand) : Type 0 where
  pub long : length rows ≡ signal_count net
  pub each : (s : ℕ) → s < signal_count net → is_safe_signal net s ≡ true → is_wanted last k s ≡ true → leaf_count (demand_read net k s) ≤ MOST_LEAVES →
      kept_for rows s ≡ slim (demand_read net k s)

-- after all steps, for each safe signal from one on to another whose demand is not Large, that demand is kept, made
-- slim
pub record HasSlim (net : Network) (first end : ℕ) (rows : List Demand) : Type 0 where
  pub long : length rows ≡ signal_count net
  pub each : (s : ℕ) → first ≤ s → s < end → is_safe_signal net s ≡ true → leaf_count (demand net s) ≤ MOST_LEAVES → kept_for rows s ≡ slim (demand net s)

-- what is kept for each signal that a step from k on wants stays
pub record KeepsWanted (last : List (Option ℕ)) (k : ℕ) (old new : List Demand) : Type 0 where
  pub long : length new ≡ length old
  pub each : (s : ℕ) → is_wanted last k s ≡ true → kept_for new s ≡ kept_for old s

-- for each of the first n safe outputs of a call of step k whose demand is not Large that demand is built, made slim
pub record AreOutputs (net : Network) (k : ℕ) (counts : List ℕ) (rows : List Demand) (kind : Kind) (args : List Actual) (n : ℕ) (outputs : List Demand) : Type 0 where
  pub long : length outputs ≡ n
  pub each : (j : ℕ) → j < n → saturated (output_weight net (count_in counts) kind args j) ≤ MOST_LEAVES →
      kept_for outputs j ≡ slim_output net k (kept_for rows) kind args j
