-- What the equations of a scan speak of, and what a body reads.
use Rattle.std.specs.Prelude.{ℕ, Bool, true, false, List, [], ◌∷◌, ◌++◌, ◌&&◌, ◌||◌, if◌then◌else◌}
use Rattle.ps_model.specs.declared.named.Instance.{Instance}
use Rattle.ps_model.specs.Blocks.{Block_state}
use Rattle.ps_parser.specs.declared.name.Name.{Name}
use Rattle.ps_parser.specs.Tree.{FactorTree, Signal, Pin, Literal, Time, Group, ProductTree, no_factor, factor, SumTree}
use Rattle.ps_parser.specs.Tree.{no_product, product}
use Rattle.ps_language_laws.specs.Paths.{is_among}

-- A map: a Boolean for the path of each signal, a Boolean for the path of each instance of one of the thirteen kinds
-- and each name of an output pin, and a state for the path of each such instance.
pub record Values : Type 0 where
  pub signal : List ℕ → Bool
  pub output : List ℕ → List ℕ → Bool
  pub block : List ℕ → Block_state

-- A scan: the map before it, the map after it, the time that passed since the scan before in ms, and the instances of
-- the thirteen kinds, each with its path as its name.
pub record Scan : Type 0 where
  pub old : Values
  pub new : Values
  pub dt : ℕ
  pub instances : List Instance

-- What stands before a place of a text, by paths: the signals that are driven there, and the instances that are called.
pub record Before : Type 0 where
  pub driven : List (List ℕ)
  pub called : List (List ℕ)

-- nothing
abbrev pub nothing : Before
nothing = record { driven = []; called = [] }

-- one signal is driven
abbrev pub drives : List ℕ → Before
drives p = record { driven = p ∷ []; called = [] }

-- one instance is called
abbrev pub calls : List ℕ → Before
calls p = record { driven = []; called = p ∷ [] }

-- what stands before, and then this
abbrev pub and_then : Before → Before → Before
and_then a b = record { driven = a.driven ++ b.driven; called = a.called ++ b.called }

module _ (scan : Scan) (before : Before) where
  -- a signal is read as it is after this scan where what drives it stands before, and else as it was
  abbrev pub signal_seen : List ℕ → Bool
  signal_seen p = if is_among p before.driven then scan.new.signal p else scan.old.signal p

  -- an output of an instance is read as it is after this scan where the call of the instance stands before
  abbrev pub output_seen : List ℕ → List ℕ → Bool
  output_seen p pin = if is_among p before.called then scan.new.output p pin else scan.old.output p pin

-- What a body reads at a place: its names, and its names with a name after the dot.
pub record Reading : Type 0 where
  pub signal : Name → Bool
  pub output : Name → Name → Bool

module _ (reading : Reading) where
  abbrev mutual
    -- the value of a factor; no text that stands for an application has a TIME literal here
    pub factor_value : FactorTree → Bool
    factor_value (Signal n) = reading.signal n
    factor_value (Pin n q) = reading.output n q
    factor_value (Literal b p) = b
    factor_value (Time t p) = false
    factor_value (Group s) = sum_value s

    -- the value of a product: every factor is TRUE
    pub product_value : ProductTree → Bool
    product_value no_factor = true
    product_value (factor f fs) = factor_value f && product_value fs

    -- the value of a sum: at least one product is TRUE
    pub sum_value : SumTree → Bool
    sum_value no_product = false
    sum_value (product p ps) = product_value p || sum_value ps
