-- What is required of the inputs of a scan and of the signals of the scan before.
use Rattle.std.specs.Prelude.{ℕ, Bool, true, false, not, ◌&&◌, ◌||◌, ◌+◌, ◌==◌, List, [], ◌∷◌, slice_index_or}
use Rattle.ps_model.specs.Scanning.{State, signal_in}
use Rattle.ps_demand.specs.declared.join.Join.{Join}
use Rattle.ps_demand.specs.declared.join.Join.TheVariants.{And, Or}

mutual
  -- TRUE, FALSE, an input of this scan, a signal of the scan before, the negation of either, or a conjunction or
  -- disjunction of parts
  pub data Requirement : Type 0 where
    always : Requirement
    never : Requirement
    now : ℕ → Requirement
    before : ℕ → Requirement
    not_now : ℕ → Requirement
    not_before : ℕ → Requirement
    group : Join → Requirements → Requirement

  -- the parts, in order
  pub data Requirements : Type 0 where
    no_part : Requirements
    part : Requirement → Requirements → Requirements

-- the parts of a list
abbrev pub requirements : List Requirement → Requirements
requirements [] = no_part
requirements (d ∷ ds) = part d (requirements ds)

-- the list of the parts
abbrev pub parts : Requirements → List Requirement
parts no_part = []
parts (part d ds) = d ∷ parts ds

-- whether a requirement holds of a scan's inputs and the state of the scan before
module _ (ins : List Bool) (old : State) where
  abbrev mutual
    pub holds : Requirement → Bool
    holds always = true
    holds never = false
    holds (now s) = slice_index_or ins s false
    holds (before s) = signal_in old s
    holds (not_now s) = not (slice_index_or ins s false)
    holds (not_before s) = not (signal_in old s)
    holds (group And ds) = all_hold ds
    holds (group Or ds) = some_hold ds

    -- every part holds
    pub all_hold : Requirements → Bool
    all_hold no_part = true
    all_hold (part d ds) = holds d && all_hold ds

    -- at least one part holds
    pub some_hold : Requirements → Bool
    some_hold no_part = false
    some_hold (part d ds) = holds d || some_hold ds

-- how many leaves there are, TRUE and FALSE among them
abbrev mutual
  pub leaf_count : Requirement → ℕ
  leaf_count (group join ds) = leaf_counts ds
  leaf_count _ = 1

  -- those of all parts together
  pub leaf_counts : Requirements → ℕ
  leaf_counts no_part = 0
  leaf_counts (part d ds) = leaf_count d + leaf_counts ds

-- whether two requirements are the same
abbrev mutual
  pub same : Requirement → Requirement → Bool
  same always always = true
  same never never = true
  same (now s) (now t) = s == t
  same (before s) (before t) = s == t
  same (not_now s) (not_now t) = s == t
  same (not_before s) (not_before t) = s == t
  same (group And ds) (group And es) = same_parts ds es
  same (group Or ds) (group Or es) = same_parts ds es
  same _ _ = false

  -- whether their parts are the same, one after another
  pub same_parts : Requirements → Requirements → Bool
  same_parts no_part no_part = true
  same_parts (part d ds) (part e es) = same d e && same_parts ds es
  same_parts _ _ = false
