-- The name and the rows of the subcommand that a parse met.
use Rattle.std.proofs.Common.{◌≡◌, ◌∙◌, ℕ, List, Option, Some, None, option_map, ap, sym}
use Rattle.std.proofs.lemmas.Option.{none-some}
use Rattle.std.specs.Box.{box_value}
use Rattle.std.specs.Prelude.{Box, unwrap_or}
use Rattle.clap.specs.Simple.{subcommand_rows}
use Rattle.clap.specs.Walk.{Row}
use Rattle.clap.specs.declared.parser.matches.ArgMatches.TheViews.{out-SubCommand}
use Rattle.clap.specs.declared.parser.matches.SubCommand.{SubCommand}

-- both are known where each of them is
pub met_is : {Z : Type 0} (met : Option (Box SubCommand Z)) (name : List ℕ) (rows : List Row) →
    Some name ≡ option_map (λ b. (out-SubCommand (box_value b)).name.now) met →
    Some rows ≡ option_map (λ p. p.1) (subcommand_rows met) → Some (name, rows) ≡ subcommand_rows met
met_is None name rows first second = absurd (none-some name (sym first))
met_is (Some s) name rows first second =
    ap (λ (n : Option (List ℕ)). Some (unwrap_or n name, rows)) first
    ∙ ap (λ (r : Option (List Row)). Some ((out-SubCommand (box_value s)).name.now, unwrap_or r rows)) second
