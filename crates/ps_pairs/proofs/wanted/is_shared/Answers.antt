use Rattle.std.proofs.Common.{◌≡◌, ◌<◌, false, true, sym, subst, ◌∙◌, ⊎_elim, arith}
use Rattle.std.proofs.lemmas.Bool.{cases_lt}
use Rattle.ps_base.specs.LetterCase.{is_same_name}
use Rattle.ps_model.specs.Network.{signal_name}
use Rattle.ps_pairs.specs.Arranging.{shared_count}
use Rattle.ps_pairs.proofs.Spans.{any_of_range, none_of_range}
use Rattle.ps_pairs.proofs.wanted.is_shared.Goals as goal

pub returns-then-is_of : goal.returns-then-is_of
returns-then-is_of c =
    let net = c.args.app.now in
    let text = c.args.text.now in
    let here : is_same_name text (signal_name net c.loop-s.s) ≡ true = sym c.is_of.ensures ∙ c.if-is_of.true in
    let within : c.loop-s.s < shared_count net = omega (arith, c.loop-s-test.true, c.input_count.ensures, c.output_count.ensures) in
    sym (any_of_range (λ s. is_same_name text (signal_name net s)) (shared_count net) 0 c.loop-s.s (omega arith) (omega arith) here)

pub loop-s-preserved : goal.loop-s-preserved
loop-s-preserved c = λ j within.
    let net = c.args.app.now in
    let text = c.args.text.now in
    let here : is_same_name text (signal_name net c.loop-s.s) ≡ false = sym c.is_of.ensures ∙ c.if-is_of.false in
    ⊎_elim
    (λ less. c.loop-s.invariant j less)
    (λ past. let same : c.loop-s.s ≡ j = omega (arith, within, past) in subst (λ x. is_same_name text (signal_name net x) ≡ false) same here)
    (cases_lt j c.loop-s.s)

pub returns : goal.returns
returns c =
    let net = c.args.app.now in
    let text = c.args.text.now in
    sym (none_of_range (λ s. is_same_name text (signal_name net s)) (shared_count net) 0
    (λ j low high. c.loop-s.invariant j (omega (arith, high, c.loop-s-test.false, c.input_count.ensures, c.output_count.ensures))))
