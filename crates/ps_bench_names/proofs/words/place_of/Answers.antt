use Rattle.std.proofs.Common.{◌==◌, sym, arith}
use Rattle.std.proofs.lemmas.Grind.{common_steps}
use Rattle.std.proofs.lemmas.List.Sums.{position_or_len_is}
use Rattle.ps_bench_names.proofs.words.place_of.Goals as goal

pub returns-after-bytes-clause-place : goal.returns-after-bytes-clause-place
returns-after-bytes-clause-place c = sym (position_or_len_is (λ b. b == c.args.byte) c.args.word.now c.bytes.at 0 c.bytes.invariant.within c.bytes.invariant.before (λ more. grind (arith, common_steps)))

pub returns-else-word-at-clause-place : goal.returns-else-word-at-clause-place
returns-else-word-at-clause-place c = sym (position_or_len_is (λ b. b == c.args.byte) c.args.word.now c.bytes.at 0 c.bytes.invariant.within c.bytes.invariant.before (λ more. grind (arith, common_steps)))
