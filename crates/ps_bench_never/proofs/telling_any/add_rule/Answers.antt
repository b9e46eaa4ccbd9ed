use Rattle.std.proofs.Common.{◌≡◌, ◌<◌, ◌++◌, ◌∙◌, ℕ, List, OnOk, Some, length, sym, ap, subst, arith}
use Rattle.std.specs.Option.{option_copied}
use Rattle.std.proofs.lemmas.List.{drop_all}
use Rattle.ps_bench_never.specs.TellingAny.{case_at, first_text, sought_of}
use Rattle.ps_bench_never.specs.declared.searching.Attempt.{Attempt}
use Rattle.ps_bench_never.proofs.Finding.{met_here}
use Rattle.ps_bench_never.proofs.telling_any.add_rule.Goals as goal

pub returns-in-Some : goal.returns-in-Some
returns-in-Some c =
    let s = sought_of c.args.searched.now in
    let rule = c.args.rule.now in
    let r = c.args.r in
    let attempts = c.args.searched.now.attempts.now in
    let i = c.loop-attempt.attempt-index in
    let inside : i < length attempts = omega arith in
    let found : Some c.in-Some.path.now ≡ case_at c.attempt-item.result r = ap option_copied (sym c.in-Some.is) ∙ c.case_at.ensures in
    let here = sym (met_here s rule r attempts i c.attempt-item.result inside c.attempt-item.is c.in-Some.path.now found) ∙ c.loop-attempt.invariant.first in
    subst (λ (t : List ℕ). OnOk c.add_case_of.result (c.add_case_of.new.text ≡ t)) (λ x. c.loop-attempt.invariant.text x ++ here x) c.add_case_of.ensures

pub returns : goal.returns
returns c =
    let s = sought_of c.args.searched.now in
    let rule = c.args.rule.now in
    let r = c.args.r in
    let attempts = c.args.searched.now.attempts.now in
    let i = c.loop-attempt.attempt-index in
    let here = sym (ap (first_text s rule r) (drop_all i attempts c.loop-attempt-test.false)) ∙ c.loop-attempt.invariant.first in
    subst (λ (t : List ℕ). OnOk c.add_left.result (c.add_left.new.text ≡ t)) (λ x. c.loop-attempt.invariant.text x ++ here x) c.add_left.ensures
