use Rattle.std.proofs.Common.{Err, inl, inr, subst}
use Rattle.std.proofs.lemmas.Result.{IfOk-weaker}
use Rattle.ps_demand.specs.Lines.{AreDemandLines, IsFirstLarge}
use Rattle.ps_demand.specs.declared.lines.NoLines.{NoLines}
use Rattle.ps_bench_report.proofs.texts.demands_of.Goals as goal

pub returns-in-Ok : goal.returns-in-Ok
returns-in-Ok c = inl c.in-Ok.ensures.lines

pub returns-in-Err-Large : goal.returns-in-Err-Large
returns-in-Err-Large c =
    let first : IsFirstLarge c.args.app.now c.in-Err-Large.field-0-0 =
    subst (λ (none : NoLines). AreDemandLines c.args.app.now (Err none)) c.in-Err-Large.field-0-is c.in-Err-Large.ensures.lines in
    IfOk-weaker c.from_slice.result _ _ (λ text is. inr (c.in-Err-Large.field-0-0, first, is)) c.from_slice.ensures
