use Rattle.std.proofs.Common.{◌∙◌, refl, sym, ap₂, arith}
use Rattle.clap.specs.Simple.{new_app, with_rule}
use Rattle.ps_bench_words.specs.Seen.{rule_seen}
use Rattle.ps_bench_words.proofs.Growing.{one_mapped_more}
use Rattle.ps_bench_words.proofs.command.command_of.Goals as goal

pub loop-argument-preserved : goal.loop-argument-preserved
loop-argument-preserved c = record {
  app = c.in-Ok.ensures.app ∙ ap₂ with_rule c.loop-argument.invariant.app refl
      ∙ sym (one_mapped_more with_rule (new_app c.args.form.now.name.now) rule_seen c.args.form.now.arguments.now c.loop-argument.argument-index _ (omega arith));
  local = c.in-Ok.ensures.local ∙ c.loop-argument.invariant.local;
}
