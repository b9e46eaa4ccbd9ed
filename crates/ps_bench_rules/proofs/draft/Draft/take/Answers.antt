use Rattle.std.proofs.Common.{◌≡◌, ◌-◌, ◌∙◌, Option, false, IfOk, codes, drop, take, sym, ap, subst}
use Rattle.std.specs.Str.{bytes_eq}
use Rattle.ps_trace.specs.Words.{words}
use Rattle.ps_bench_names.specs.Words.{counted, words_in}
use Rattle.ps_bench_rules.specs.File.{has_begun, said_after}
use Rattle.ps_bench_rules.specs.Line.{Said}
use Rattle.ps_bench_rules.specs.Saying.{after_by, led_by}
use Rattle.ps_bench_rules.specs.declared.line.Leader.{Leader}
use Rattle.ps_bench_rules.proofs.Leading.{led_line}
use Rattle.ps_bench_rules.proofs.draft.Draft.take.Goals as goal

pub returns : goal.returns
returns c =
    let net = c.args.app.now in
    let purpose = c.args.purpose in
    let line = c.args.line.now in
    let begun = has_begun c.args.self.now in
    let word = take (c.in-Some.upto - c.in-Some.from) (drop c.in-Some.from line) in
    let others = counted (words (drop c.in-Some.upto line)) in
    let other : bytes_eq word (codes "never") ≡ false = sym (c.eq.ensures ∙ ap (bytes_eq word) c.as_slice.ensures) ∙ c.if-eq.false in
    subst (λ (said : Said). IfOk c.take_led.result (λ refusal. said_after c.args.self.now c.args.number said ≡ after_by refusal c.take_led.new.self))
    (sym (led_line net purpose begun line word others c.in-Some.ensures.first other
    ∙ ap (λ (leader : Option Leader). led_by net purpose begun leader (words_in line) others) (sym c.leader_of.ensures))) c.take_led.ensures
