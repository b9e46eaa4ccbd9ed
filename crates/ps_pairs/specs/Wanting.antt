-- Apparatus: which names the code takes of a source.
use Rattle.std.specs.Prelude.{ℕ, Bool, not, List}
use Rattle.ps_pairs.specs.Arranging.{is_shared, is_shared_at}
use Rattle.ps_pairs.specs.declared.wanted.Wanted.{Wanted}
use Rattle.ps_pairs.specs.declared.wanted.Wanted.TheVariants.{Shared, Besides}

-- a name is taken
abbrev pub wants : Wanted → List ℕ → Bool
wants (Shared app s) text = is_shared_at app.now s text
wants (Besides app) text = not (is_shared app.now text)
