-- What a wire is called in a dump.
use Rattle.std.specs.Prelude.{ℕ, ◌+◌, ◌/◌, ◌%◌, nat_lt, if◌then◌else◌, List, [], ◌∷◌}

-- the printable character of a number below 94, from `!` on
abbrev pub character : ℕ → ℕ
character n = 33 + n

-- the identifier of a wire: its number in base 94, of one to three characters
abbrev pub identifier : (wire : ℕ) → List ℕ
identifier n =
    if nat_lt n 94 then character n ∷ []
    else if nat_lt n 8836 then character (n / 94) ∷ character (n % 94) ∷ []
    else character (n / 8836) ∷ character (n / 94 % 94) ∷ character (n % 94) ∷ []
