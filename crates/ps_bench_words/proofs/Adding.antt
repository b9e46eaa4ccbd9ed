-- An argument is added to a command, and a subcommand.
use Rattle.std.proofs.Common.{◌≡◌, ◌∙◌, false, ap}
use Rattle.std.specs.Prelude.{◌||◌}
use Rattle.std.proofs.Math.Bool.{or-false}
use Rattle.clap.specs.Built.{AddsArg, AddsSubcommand}
use Rattle.clap.specs.Simple.{App, app_of, with_rule, with_subcommand}
use Rattle.clap.specs.Walk.{Rule, rule_of}
use Rattle.clap.specs.declared.builder.arg.Arg.{Arg}
use Rattle.clap.specs.declared.builder.command.Command.{Command}
use Rattle.clap.specs.declared.builder.command.Command.TheViews.{out-Command}

-- the command has its rule, and no more global arguments
pub added : (old new : Command) (arg : Arg) (rule : Rule) → rule_of arg ≡ rule → arg.global ≡ false → AddsArg old arg new →
    (app_of new ≡ with_rule (app_of old) rule) × ((out-Command new).has_globals ≡ (out-Command old).has_globals)
added old new arg rule is local adds = (
  adds.shape local ∙ ap (with_rule (app_of old)) is,
  adds.globals ∙ ap (λ g. (out-Command old).has_globals || g) local ∙ or-false (out-Command old).has_globals,
)

-- a subcommand is added: the command has it after its own
pub formed : (old sub new : Command) (app : App) → app_of sub ≡ app → (out-Command sub).has_globals ≡ false → AddsSubcommand old sub new →
    app_of new ≡ with_subcommand (app_of old) app.top
formed old sub new app is local adds = adds.shape local ∙ ap (λ (a : App). with_subcommand (app_of old) a.top) is
