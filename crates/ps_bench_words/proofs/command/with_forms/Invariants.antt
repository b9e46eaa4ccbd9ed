use Rattle.std.proofs.Common.{◌≡◌, map, take}
use Rattle.std.specs.Prelude.{fold}
use Rattle.clap.specs.Simple.{with_subcommand}
use Rattle.clap.specs.Words.{app_of}
use Rattle.ps_bench_words.specs.Seen.{shape_seen}
use Rattle.ps_bench_words.proofs.command.with_forms.Given as goal

abbrev pub invariant-loop-form : goal.invariant-loop-form
invariant-loop-form l = app_of l.grown ≡ fold with_subcommand (app_of l.initial.grown) (map shape_seen (take l.form-index l.forms))
