use Rattle.std.proofs.Common.{◌≡◌, ◌<◌, ◌-◌, ◌∙◌, ℕ, false, length, drop, get_or, sym, ap, arith}
use Rattle.std.proofs.lemmas.Grind.{common_steps}
use Rattle.std.specs.List.{prefix_len}
use Rattle.std.proofs.lemmas.List.{take_all, length-drop}
use Rattle.std.proofs.lemmas.List.Sums.{prefix_len_is}
use Rattle.ps_trace.specs.Words.{is_blank}
use Rattle.ps_bench_names.proofs.words.behind_blanks.Goals as goal
use Rattle.ps_bench_names.proofs.words.behind_blanks.Goals.{then-blanks-test+else-is_blank, else-blanks-test}

pub returns : goal.returns
returns c =
    let bytes = c.args.bytes.now in
    let stop : c.blanks.from < length bytes → is_blank (get_or bytes c.blanks.from 0) ≡ false =
    elim c.blanks-test.branch [ then-blanks-test+else-is_blank w ↦ λ some. grind (arith, common_steps) | else-blanks-test w ↦ λ some. grind (arith, common_steps) ] in
    let count : prefix_len is_blank bytes ≡ c.blanks.from = prefix_len_is is_blank bytes c.blanks.from 0 c.blanks.invariant.within c.blanks.invariant.before stop in
    take_all (length bytes - c.blanks.from) (drop c.blanks.from bytes) (omega (arith, length-drop c.blanks.from bytes)) ∙ ap (λ (n : ℕ). drop n bytes) (sym count)
