use Rattle.std.proofs.Common.{◌≡◌, ◌<◌, ◌-◌, ℕ, false, length, take, get_or, ap, arith}
use Rattle.std.proofs.lemmas.Grind.{common_steps}
use Rattle.std.specs.List.{suffix_len}
use Rattle.std.proofs.lemmas.List.Sums.{suffix_len_is}
use Rattle.ps_trace.specs.Words.{is_blank}
use Rattle.ps_bench_names.proofs.words.before_blanks.Goals as goal
use Rattle.ps_bench_names.proofs.words.before_blanks.Goals.{then-blanks-test+else-is_blank, else-blanks-test}

pub returns : goal.returns
returns c =
    let bytes = c.args.bytes.now in
    let stop : 0 < c.blanks.upto → is_blank (get_or bytes (c.blanks.upto - 1) 0) ≡ false =
    elim c.blanks-test.branch [ then-blanks-test+else-is_blank w ↦ λ some. grind (arith, common_steps) | else-blanks-test w ↦ λ some. grind (arith, common_steps) ] in
    let count : suffix_len is_blank bytes ≡ length bytes - c.blanks.upto = suffix_len_is is_blank bytes c.blanks.upto 0 c.blanks.invariant.within c.blanks.invariant.behind stop in
    let within = c.blanks.invariant.within in
    let upto : c.blanks.upto ≡ length bytes - suffix_len is_blank bytes = omega arith in
    ap (λ (n : ℕ). take n bytes) upto
