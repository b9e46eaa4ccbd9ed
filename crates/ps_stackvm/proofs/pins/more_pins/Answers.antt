use Rattle.ps_stackvm.proofs.Popping.{none_at_first, none_behind, all_are, pins_are, given_none}
use Rattle.ps_stackvm.proofs.pins.more_pins.Goals as goal

pub returns-in_err-low-clause-none : goal.returns-in_err-low-clause-none
returns-in_err-low-clause-none c = given_none c.from_residual.result (none_at_first c.args.bytes.now c.args.count c.requires.long c.requires.more c.in_err-low.ensures.none)

pub returns-in_err-high-clause-none : goal.returns-in_err-high-clause-none
returns-in_err-high-clause-none c =
    given_none c.from_residual-in_err-high.result (none_behind c.args.bytes.now c.args.count c.requires.long c.requires.more c.in_err-high.ensures.none)

pub returns-clause-some : goal.returns-clause-some
returns-clause-some c =
    pins_are c.args.bytes.now c.args.count c.requires.long c.requires.more c.in_ok-low.low c.in_ok-high.high c.in_ok-low.ensures.short c.in_ok-low.ensures.some c.in_ok-high.ensures.some

pub returns-clause-all : goal.returns-clause-all
returns-clause-all c = all_are c.args.bytes.now c.args.count c.requires.long c.requires.more c.in_ok-low.ensures.all c.in_ok-high.ensures.all
