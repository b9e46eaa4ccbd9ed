-- The signals of a demand, and that each of them is SAFEBOOL.
use Rattle.std.specs.Prelude.{◌≡◌, ℕ, true, List, [], ◌∷◌, ◌++◌}
use Rattle.std.specs.List.{AllByRecursion}
use Rattle.ps_model.specs.Formula.{Formula}
use Rattle.ps_model.specs.Network.{Network}
use Rattle.ps_model.specs.Typing.{safe, is_safe_signal}
use Rattle.ps_demand.specs.Requirement.{Requirement, Requirements, always, never, now, before, not_now, not_before}
use Rattle.ps_demand.specs.Requirement.{group, no_part, part}
use Rattle.ps_demand.specs.Demand.{demand_at, demand}
use Rattle.ps_demand.specs.Slim.{slim}

-- the signals that the leaves of a requirement name, in order
abbrev mutual
  pub leaf_signals : Requirement → List ℕ
  leaf_signals always = []
  leaf_signals never = []
  leaf_signals (now s) = s ∷ []
  leaf_signals (before s) = s ∷ []
  leaf_signals (not_now s) = s ∷ []
  leaf_signals (not_before s) = s ∷ []
  leaf_signals (group join ds) = leaf_signals_of ds

  -- those of each part, one after another
  pub leaf_signals_of : Requirements → List ℕ
  leaf_signals_of no_part = []
  leaf_signals_of (part d ds) = leaf_signals d ++ leaf_signals_of ds

-- no leaf of a requirement is BOOL
abbrev pub HasSafeLeaves : Network → Requirement → Type 0
HasSafeLeaves net d = AllByRecursion (λ s. is_safe_signal net s ≡ true) (leaf_signals d)

-- no leaf of the demand of a safe value, whichever step reads it, or of a safe signal is BOOL, before it is made slim
-- and after
pub record LeavesAreSafe (net : Network) : Type 0 where
  pub of_values : (k : ℕ) (e : Formula) → safe net e ≡ true → HasSafeLeaves net (demand_at net k e)
  pub of_signals : (s : ℕ) → is_safe_signal net s ≡ true → HasSafeLeaves net (demand net s)
  pub slim_values : (k : ℕ) (e : Formula) → safe net e ≡ true → HasSafeLeaves net (slim (demand_at net k e))
  pub slim_signals : (s : ℕ) → is_safe_signal net s ≡ true → HasSafeLeaves net (slim (demand net s))
