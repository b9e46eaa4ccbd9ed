use Rattle.std.proofs.Common.{◌≡◌, ◌++◌, ◌-◌, map}
use Rattle.std.specs.List.{range_with_len}
use Rattle.ps_ways.specs.Stepping.{conditions_of}
use Rattle.ps_why.specs.declared.fact.Fact.TheVariants.{PinIs}
use Rattle.ps_why.proofs.pins.tell_modes.Given as goal

-- the pins so far are told
abbrev pub invariant-loop-pin : goal.invariant-loop-pin
invariant-loop-pin l =
    l.facts.items ≡ l.fn.facts.items ++ map (λ j. PinIs l.step j ((conditions_of l.seen).pin j)) (range_with_len 1 (l.pin - 1))
