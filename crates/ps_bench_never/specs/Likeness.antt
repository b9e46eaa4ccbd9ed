-- Two applications have the same inputs and outputs.
use Rattle.std.specs.Prelude.{◌≡◌, ◌+◌, ◌<◌, ◌&&◌, ℕ, Bool, true, not, length}
use Rattle.ps_base.specs.LetterCase.{is_same_name}
use Rattle.ps_model.specs.Network.{Network, input_count, signal_name}
use Rattle.ps_model.specs.Typing.{is_safe_signal}
use Rattle.ps_pairs.specs.Promised.{HaveAsMany}
use Rattle.ps_pairs.specs.Sides.{unlike}

-- an input or output has the same name in both, without letter case, and is SAFEBOOL in both or in none
abbrev pub is_same_signal : (net other : Network) → ℕ → Bool
is_same_signal net other s =
    is_same_name (signal_name net s) (signal_name other s) && not (unlike (is_safe_signal net s) (is_safe_signal other s))

-- Both have the same inputs and outputs, in the same order.
pub record AreLike (net other : Network) : Type 0 where
  pub many : HaveAsMany net other
  pub same : (s : ℕ) → s < input_count net + length net.outputs → is_same_signal net other s ≡ true
