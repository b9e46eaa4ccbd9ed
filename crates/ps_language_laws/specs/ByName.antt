-- The map that a state of an application is, by the names of its source.
use Rattle.std.specs.Prelude.{ℕ, Bool, false, List, ◌+◌, Option, None, Some, position}
use Rattle.std.specs.Str.{bytes_eq}
use Rattle.ps_base.specs.LetterCase.{folded}
use Rattle.ps_model.specs.declared.kind.Kind.{Kind}
use Rattle.ps_model.specs.Blocks.{Block_state, idle}
use Rattle.ps_model.specs.Scanning.{State, signal_in, block_in}
use Rattle.ps_names.specs.declared.entry.Entry.{Entry}
use Rattle.ps_names.specs.declared.entry.Sort.{Sort}
use Rattle.ps_names.specs.declared.entry.Sort.TheVariants.{InputSignal, OutputSignal, LocalSignal, Instance}
use Rattle.ps_names.specs.Names.{sort_at}
use Rattle.ps_names.specs.Stands.{number_at, outputs_before}
use Rattle.ps_language_laws.specs.Reading.{Values}
use Rattle.ps_language_laws.specs.Equations.{output_names}

-- the place of the first declaration of a name without letter case
abbrev pub place_of : List Entry → List ℕ → Option ℕ
place_of es p = position (λ e. bytes_eq p (folded e.name.text)) es

-- which output of a kind this pin is, if it is one
abbrev pub output_numbered : Kind → List ℕ → Option ℕ
output_numbered kind pin = position (λ name. bytes_eq pin (folded name)) (output_names kind)

-- the value of this output of an instance whose outputs begin there; what is no output is FALSE
abbrev pub value_from : State → (first : ℕ) → Option ℕ → Bool
value_from w first (Some j) = signal_in w (first + j)
value_from w first None = false

module _ (es : List Entry) (w : State) where
  -- the value of a signal that is declared at a place; what is no signal is FALSE
  abbrev pub signal_value : Option Sort → Option ℕ → Bool
  signal_value (Some (InputSignal t)) k = signal_in w (number_at es k)
  signal_value (Some (OutputSignal t)) k = signal_in w (number_at es k)
  signal_value (Some (LocalSignal t)) k = signal_in w (number_at es k)
  signal_value _ k = false

  -- the value of an output of the instance that is declared at a place
  abbrev pub output_value : Option Sort → Option ℕ → List ℕ → Bool
  output_value (Some (Instance kind)) (Some k) pin = value_from w (outputs_before es k) (output_numbered kind pin)
  output_value _ _ pin = false

  -- the state of the instance that is declared at a place
  abbrev pub block_value : Option Sort → Option ℕ → Block_state
  block_value (Some (Instance kind)) k = block_in w (number_at es k)
  block_value _ k = idle

  -- each signal, output and instance by its name
  abbrev pub by_name : Values
  by_name = record {
    signal = λ p. signal_value (sort_at es (place_of es p)) (place_of es p);
    output = λ p pin. output_value (sort_at es (place_of es p)) (place_of es p) pin;
    block = λ p. block_value (sort_at es (place_of es p)) (place_of es p);
  }
