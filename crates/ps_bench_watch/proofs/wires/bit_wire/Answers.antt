use Rattle.std.proofs.Common.{◌∙◌, ℕ, List, sym, ap, arith}
use Rattle.std.specs.Borrow.{Bor}
use Rattle.std.specs.Prelude.{option_map}
use Rattle.std.proofs.lemmas.Result.{IfOk-weaker}
use Rattle.ps_bench_watch.specs.Wires.{dot, parted_wire}
use Rattle.ps_bench_frame.proofs.Dots.{rsplit_once_char}
use Rattle.ps_bench_watch.proofs.wires.bit_wire.Goals as goal

pub returns-in-Some : goal.returns-in-Some
returns-in-Some c =
    let split = rsplit_once_char dot c.args.label.now c.rsplit_once.result c.rsplit_once.ensures.cases (omega arith) in
    let parts = ap (option_map (λ (x : Bor (List ℕ) × Bor (List ℕ)). (x.0.now, x.1.now))) (sym c.in-Some.is) ∙ split in
    IfOk-weaker c.wire.result _ _ (λ w is. is ∙ ap (parted_wire c.args.label.now) parts) c.wire.ensures

pub returns-in-None : goal.returns-in-None
returns-in-None c =
    let split = rsplit_once_char dot c.args.label.now c.rsplit_once.result c.rsplit_once.ensures.cases (omega arith) in
    let parts = ap (option_map (λ (x : Bor (List ℕ) × Bor (List ℕ)). (x.0.now, x.1.now))) (sym c.in-None.is) ∙ split in
    IfOk-weaker c.wire-in-None.result _ _ (λ w is. is ∙ ap (parted_wire c.args.label.now) parts) c.wire-in-None.ensures
