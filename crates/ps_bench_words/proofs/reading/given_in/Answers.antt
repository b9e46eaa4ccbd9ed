use Rattle.clap.specs.Words.{found_of}
use Rattle.ps_bench_words.proofs.Given.{value_given}
use Rattle.ps_bench_words.proofs.reading.given_in.Goals as goal

pub returns : goal.returns
returns c = value_given (found_of c.args.values.now) c.args.id.now c.get_str.result c.get_str.ensures
