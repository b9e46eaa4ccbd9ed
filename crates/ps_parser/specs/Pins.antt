-- The bytes of a name that may be given.
use Rattle.std.specs.Prelude.{ℕ, List, Option, Some, None}
use Rattle.std.specs.Borrow.{Bor}

-- the bytes of the pin's name, where one is given
abbrev pub pin_text : Option (Bor (List ℕ)) → Option (List ℕ)
pin_text None = None
pin_text (Some pin) = Some pin.now
