use Rattle.std.proofs.Common.{◌≡◌, List, ℕ, true, false, subst}
use Rattle.std.specs.Prelude.{IfSome, IfNone}
use Rattle.std.specs.List.{list_any}
use Rattle.ps_machine.specs.Bytes.{is_no_bit}
use Rattle.ps_stackvm.proofs.Popping.{top_is}
use Rattle.ps_stackvm.proofs.pins.pins_on_stack.Goals as goal

pub returns-then-count-le8-clause-all : goal.returns-then-count-le8-clause-all
returns-then-count-le8-clause-all c =
    let all : List ℕ → Type 0 = λ xs. IfSome c.few_pins.result (λ bits. list_any is_no_bit xs ≡ false) in
    subst all (top_is c.args.cells.now c.args.count c.requires.room c.requires.low c.requires.tall) c.few_pins.ensures.all

pub returns-then-count-le8-clause-none : goal.returns-then-count-le8-clause-none
returns-then-count-le8-clause-none c =
    let none : List ℕ → Type 0 = λ xs. IfNone c.few_pins.result (list_any is_no_bit xs ≡ true) in
    subst none (top_is c.args.cells.now c.args.count c.requires.room c.requires.low c.requires.tall) c.few_pins.ensures.none

pub returns-else-count-le8-clause-all : goal.returns-else-count-le8-clause-all
returns-else-count-le8-clause-all c =
    let all : List ℕ → Type 0 = λ xs. IfSome c.more_pins.result (λ bits. list_any is_no_bit xs ≡ false) in
    subst all (top_is c.args.cells.now c.args.count c.requires.room c.requires.low c.requires.tall) c.more_pins.ensures.all

pub returns-else-count-le8-clause-none : goal.returns-else-count-le8-clause-none
returns-else-count-le8-clause-none c =
    let none : List ℕ → Type 0 = λ xs. IfNone c.more_pins.result (list_any is_no_bit xs ≡ true) in
    subst none (top_is c.args.cells.now c.args.count c.requires.room c.requires.low c.requires.tall) c.more_pins.ensures.none
