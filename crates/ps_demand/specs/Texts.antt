-- How a requirement is written.
use Rattle.std.specs.Prelude.{ℕ, ◌+◌, Bool, true, false, List, [], ◌++◌, length, codes, Option, Some, if◌then◌else◌}
use Rattle.std.specs.Prelude.{nat_lt, slice_index_or}
use Rattle.ps_model.specs.declared.driver.Driver.{Driver}
use Rattle.ps_model.specs.declared.driver.Driver.TheVariants.{Output}
use Rattle.ps_model.specs.Blocks.{block}
use Rattle.ps_model.specs.Network.{Network, declared_count, signal_name, instance_name, kind_at}
use Rattle.ps_model.specs.Drivers.{driver}
use Rattle.ps_model.specs.Pins.{pin_names}
use Rattle.ps_demand.specs.declared.join.Join.{Join}
use Rattle.ps_demand.specs.declared.join.Join.TheVariants.{And, Or}
use Rattle.ps_demand.specs.Requirement.{Requirement, Requirements, always, never, now, before, not_now, not_before}
use Rattle.ps_demand.specs.Requirement.{group, no_part, part}

-- the name of an output of an instance: the instance, a point, and the pin of its kind
abbrev pub output_name : Network → Option Driver → List ℕ
output_name net (Some (Output i j k)) =
    instance_name net i ++ (codes "." ++ slice_index_or (pin_names (kind_at net i)) (length (block (kind_at net i)).inputs + j) [])
output_name net _ = []

-- the name of a signal: a declared one has its own, and an output of an instance that of its pin
abbrev pub full_name : Network → ℕ → List ℕ
full_name net s = if nat_lt s (declared_count net) then signal_name net s else output_name net (driver net s)

-- the word between two parts
abbrev pub joining_word : Join → List ℕ
joining_word And = codes " AND "
joining_word Or = codes " OR "

-- a conjunction or a disjunction
abbrev pub is_group : Requirement → Bool
is_group (group join ds) = true
is_group _ = false

-- a text where it is wanted, and nothing where it is not
abbrev pub where_wanted : Bool → List ℕ → List ℕ
where_wanted wanted t = if wanted then t else []

-- the text of a part, in brackets where the part is a group
abbrev pub in_brackets : Bool → List ℕ → List ℕ
in_brackets wanted t = where_wanted wanted (codes "(") ++ (t ++ where_wanted wanted (codes ")"))

abbrev mutual
  -- the text of a requirement
  pub text : Network → Requirement → List ℕ
  text net always = codes "TRUE"
  text net never = codes "FALSE"
  text net (now s) = full_name net s
  text net (before s) = full_name net s ++ codes "@before"
  text net (not_now s) = codes "NOT " ++ full_name net s
  text net (not_before s) = codes "NOT " ++ (full_name net s ++ codes "@before")
  text net (group join ds) = parts_text net join ds

  -- the texts of parts, with the word between any two
  pub parts_text : Network → Join → Requirements → List ℕ
  parts_text net join no_part = []
  parts_text net join (part d ds) = in_brackets (is_group d) (text net d) ++ further_text net join ds

  -- the texts of further parts, each after the word
  pub further_text : Network → Join → Requirements → List ℕ
  further_text net join no_part = []
  further_text net join (part d ds) = joining_word join ++ (in_brackets (is_group d) (text net d) ++ further_text net join ds)
