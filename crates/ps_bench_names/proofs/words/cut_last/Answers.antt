use Rattle.std.proofs.Common.{◌≡◌, ◌<◌, ◌-◌, ◌∙◌, ℕ, true, length, take, drop, get_or, sym, ap, arith}
use Rattle.std.proofs.lemmas.Grind.{common_steps}
use Rattle.std.proofs.lemmas.List.{take_all, length-drop}
use Rattle.ps_bench_names.specs.Names.{is_dot}
use Rattle.ps_bench_names.proofs.Cutting.{last_dot}
use Rattle.ps_bench_names.proofs.words.cut_last.Goals as goal
use Rattle.ps_bench_names.proofs.words.cut_last.Goals.{then-bytes-test+else-word-at-ne46, else-bytes-test}

pub returns-then-at-eq0-clause-before : goal.returns-then-at-eq0-clause-before
returns-then-at-eq0-clause-before c =
    let here : 0 < c.bytes.at → is_dot (get_or c.args.word.now (c.bytes.at - 1) 0) ≡ true =
    elim c.bytes-test.branch [ then-bytes-test+else-word-at-ne46 w ↦ λ some. grind (arith, common_steps) | else-bytes-test w ↦ λ some. grind (arith, common_steps) ] in
    let last = last_dot c.args.word.now c.bytes.at c.bytes.invariant.within c.bytes.invariant.behind here in
    sym (ap (λ (n : ℕ). take (n - 1) c.args.word.now) (last ∙ c.if-at-eq0.true))

pub returns-then-at-eq0-clause-after : goal.returns-then-at-eq0-clause-after
returns-then-at-eq0-clause-after c =
    let here : 0 < c.bytes.at → is_dot (get_or c.args.word.now (c.bytes.at - 1) 0) ≡ true =
    elim c.bytes-test.branch [ then-bytes-test+else-word-at-ne46 w ↦ λ some. grind (arith, common_steps) | else-bytes-test w ↦ λ some. grind (arith, common_steps) ] in
    let last = last_dot c.args.word.now c.bytes.at c.bytes.invariant.within c.bytes.invariant.behind here in
    sym (ap (λ (n : ℕ). drop n c.args.word.now) (last ∙ c.if-at-eq0.true))

pub returns-else-at-eq0-clause-before : goal.returns-else-at-eq0-clause-before
returns-else-at-eq0-clause-before c =
    let here : 0 < c.bytes.at → is_dot (get_or c.args.word.now (c.bytes.at - 1) 0) ≡ true =
    elim c.bytes-test.branch [ then-bytes-test+else-word-at-ne46 w ↦ λ some. grind (arith, common_steps) | else-bytes-test w ↦ λ some. grind (arith, common_steps) ] in
    let last = last_dot c.args.word.now c.bytes.at c.bytes.invariant.within c.bytes.invariant.behind here in
    sym (ap (λ (n : ℕ). take (n - 1) c.args.word.now) last)

pub returns-else-at-eq0-clause-after : goal.returns-else-at-eq0-clause-after
returns-else-at-eq0-clause-after c =
    let here : 0 < c.bytes.at → is_dot (get_or c.args.word.now (c.bytes.at - 1) 0) ≡ true =
    elim c.bytes-test.branch [ then-bytes-test+else-word-at-ne46 w ↦ λ some. grind (arith, common_steps) | else-bytes-test w ↦ λ some. grind (arith, common_steps) ] in
    let last = last_dot c.args.word.now c.bytes.at c.bytes.invariant.within c.bytes.invariant.behind here in
    take_all (length c.args.word.now - c.bytes.at) (drop c.bytes.at c.args.word.now) (omega (arith, length-drop c.bytes.at c.args.word.now)) ∙ sym (ap (λ (n : ℕ). drop n c.args.word.now) last)
