use Rattle.std.proofs.Common.{◌≡◌, false, map, take}
use Rattle.std.specs.Prelude.{fold}
use Rattle.clap.specs.Simple.{new_app, with_rule}
use Rattle.clap.specs.Words.{app_of}
use Rattle.clap.specs.declared.builder.command.Command.TheViews.{out-Command as fields_of}
use Rattle.ps_bench_words.specs.Seen.{rule_seen}
use Rattle.ps_bench_words.proofs.command.command_of.Given as goal

abbrev pub invariant-loop-argument : goal.invariant-loop-argument
invariant-loop-argument l = record {
  app : app_of l.grown ≡ fold with_rule (new_app l.form.name.now) (map rule_seen (take l.argument-index l.form.arguments.now));
  local : (fields_of l.grown).has_globals ≡ false;
}
