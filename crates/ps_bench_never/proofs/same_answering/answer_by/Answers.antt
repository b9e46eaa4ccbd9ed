use Rattle.std.proofs.Common.{◌∙◌, List, sym, ap, arith}
use Rattle.std.specs.Prelude.{count_by}
use Rattle.ps_reach.specs.Reaching.{is_free}
use Rattle.ps_reach.specs.declared.asked.InputRule.{InputRule}
use Rattle.ps_bench_never.proofs.Asking.{says_of_each}
use Rattle.ps_bench_never.proofs.Sharing.{follows_shared}
use Rattle.ps_bench_never.proofs.Meant.{answer_of_two, means_of_two, with_said}
use Rattle.ps_bench_never.proofs.same_answering.answer_by.Goals as goal

pub returns-then-free_inputs-clause-many : goal.returns-then-free_inputs-clause-many
returns-then-free_inputs-clause-many g c = λ e. record {
  every = c.in-Every.every;
  asked = c.in_ok-asked.asked;
  asks = c.in_ok-asked.ensures;
  many = omega (arith, c.if-free_inputs.true, c.free_inputs.ensures, ap (λ (rules : List InputRule). count_by is_free rules) c.as_slice.ensures.value);
}

pub answer_asked-requires : goal.answer_asked-requires
answer_asked-requires g c =
    let net = c.args.compared.now.app.now in
    let other = c.args.compared.now.other.now in
    let asks = c.in_ok-asked.ensures in
    record {
      some = c.requires.some;
      many = c.requires.many;
      says = says_of_each net other c.args.file.now c.in_ok-asked.asked asks.inputs;
      few = omega (arith, c.if-free_inputs.false, c.free_inputs.ensures, ap (λ (rules : List InputRule). count_by is_free rules) c.as_slice.ensures.value);
      outputs = asks.outputs;
      shared = follows_shared net other c.args.file.now c.in_ok-asked.asked c.requires.shared asks.inputs;
    }

pub returns-clause-tells : goal.returns-clause-tells
returns-clause-tells g c =
    let is = c.in_ok-told.ensures in
    let net = c.args.compared.now.app.now in
    let other = c.args.compared.now.other.now in
    record {
      every = c.in-Every.every;
      meant = with_said c.args.file.now c.in_ok-asked.asked;
      asked = c.in_ok-asked.asked;
      found = is.found;
      path = is.path;
      pace = sym c.pace.ensures ∙ c.in-Every.is;
      means = means_of_two net other c.sound.ensures c.sound-2.ensures c.requires.many c.args.file.now c.in-Every.every c.in_ok-asked.asked c.in_ok-asked.ensures;
      asks = c.in_ok-asked.ensures;
      finds = is.finds;
      answers = answer_of_two net other c.sound.ensures c.sound-2.ensures c.requires.many c.args.file.now c.in-Every.every c.in_ok-asked.asked c.in_ok-asked.ensures is.found.end is.path is.answers;
      counts = is.counts;
      text = is.text;
      same = is.same;
    }
