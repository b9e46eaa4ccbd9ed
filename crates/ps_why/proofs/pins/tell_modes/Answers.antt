use Rattle.std.proofs.Common.{◌≡◌, ◌∙◌, ◌+◌, ◌-◌, ◌++◌, ◌∷◌, [], ℕ, List, ap, sym, map, arith, append_assoc, append-nil}
use Rattle.std.specs.List.{range_with_len}
use Rattle.std.proofs.lemmas.List.FromFn.{map-range_with_len_more}
use Rattle.ps_ways.specs.Stepping.{conditions_of}
use Rattle.ps_why.specs.declared.fact.Fact.{Fact}
use Rattle.ps_why.specs.declared.fact.Fact.TheVariants.{PinIs}
use Rattle.ps_why.proofs.pins.tell_modes.Goals as goal

pub loop-pin-init : goal.loop-pin-init
loop-pin-init c = sym (append-nil c.args.facts.now.items)

pub loop-pin-preserved : goal.loop-pin-preserved
loop-pin-preserved c =
    let f = λ (j : ℕ). PinIs c.args.step j ((conditions_of c.args.seen.now).pin j) in
    let old = c.args.facts.now.items in
    let pin = c.loop-pin.pin in
    let n = pin - 1 in
    let next : n + 1 ≡ pin + 1 - 1 = omega arith in
    let here : 1 + n ≡ pin = omega arith in
    c.in_ok-tell_pin.ensures.told
    ∙ ap (λ (l : List Fact). l ++ f pin ∷ []) c.loop-pin.invariant
    ∙ append_assoc old (map f (range_with_len 1 n)) (f pin ∷ [])
    ∙ ap (λ l. old ++ l) (sym (map-range_with_len_more f 1 n pin here))
    ∙ ap (λ k. old ++ map f (range_with_len 1 k)) next

pub returns : goal.returns
returns c =
    let f = λ (j : ℕ). PinIs c.args.step j ((conditions_of c.args.seen.now).pin j) in
    let end : c.loop-pin.pin - 1 ≡ 8 = omega arith in
    record { told = c.loop-pin.invariant ∙ ap (λ k. c.args.facts.now.items ++ map f (range_with_len 1 k)) end }
